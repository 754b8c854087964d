-- The names that several proofs import, re-exported from one module.
pub use Rattle.iim_audit.specs.Format.{counted_words, first_with_id, id_of, report_of, row_with_first_of, rows_after_earlier, age_columns, lines_from, row_line}
pub use Rattle.iim_audit.specs.Steps.{HaveShortIds, IsShort, HaveFirsts, HaveNoFirst, IsIdOrder, IsSortKey, id_at_index_cmp, filled, ids_of, index_at, id_then_index_cmp, id_key_after, id_key_at, id_key_of, id_key_then_id_cmp, sort_key_cmp, sort_key_of, sort_keys_of, AuditReadFails, AuditRefusalIsRead, ArePartsOf, HasRowsOf, ReadsEnvelopeOrEnd, ReadsNoEnvelope, ReadsOneEnvelope, audit_cause_of}
pub use Rattle.iim_audit.specs.declared.pieces.PieceAudit.{PieceAudit}
pub use Rattle.iim_dataset.specs.Laws.{EventsDetermineTheDatasets, ReadsJoin, OctetsDetermineTheEvents}
pub use Rattle.iim_dataset.specs.States.Devices.{Device, ReadsGave}
pub use Rattle.iim_dataset.specs.declared.device.IoFault.{IoFault}
pub use Rattle.iim_fields.specs.Format.Records.{Identity, id_cmp, id_eq, text_eq}
pub use Rattle.iim_fields.specs.declared.limits.Limits.{Limits}
pub use Rattle.iim_places.specs.Format.Admitted.{Admits, Value, object_of}
pub use Rattle.iim_places.specs.Format.Streams.{SplitsInto, IsListed, IsListing, Listed, RefusedBy, TooMany, Whole, joined, max_envelopes, values_of, sum_capped}
pub use Rattle.iim_unpack.specs.Format.Pieces.{HasBorrowedParts}
pub use Rattle.iim_unpack.specs.States.Intakes.{Faults, FedEnvelope, ReaderFails, HasRefused, WasTruncated, input_of}
pub use Rattle.iim_unpack.specs.States.Unpacking.{Progresses, IsDone, IsDoneWith, IsRefusedIn, HasRead, Unpacking, failed_at, limits_in}
pub use Rattle.iim_unpack.specs.declared.unpacker.UnpackedRef.{UnpackedRef}
pub use Rattle.std.proofs.Common.{Bool, Err, IfErr, IfOk, List, None, Ok, Option, Result, Some, [], add-one, add-zero, ap, append-nil, append_assoc, arith, decimal, drop, false, get_or, inl, inr, length, length-drop, lit<, map, refl, rules, set, subst, suc, sym, take, true, zero, ℕ, ℤ, ⊎_elim, ◌*◌, ◌++◌, ◌+◌, ◌-◌, ◌<◌, ◌^◌, ◌∙◌, ◌∷◌, ◌≡◌, ◌≢◌, ◌≤◌, ◌⊎◌}
pub use Rattle.std.proofs.Math.Nat.{le_of_lt, pow-le-pow_right, pow-suc}
pub use Rattle.std.proofs.lemmas.Bool.Decides.{leb_tells, nat_tests}
pub use Rattle.std.proofs.lemmas.List.{get_or-map, get_or-set_other, get_or-set_same, get_or_default, length-map, length-set, length-take-le, length_push, map-append, map_push, same_lists, take_more, with_items_is}
pub use Rattle.std.proofs.lemmas.List.Sorted.{All-permutation, Contains-permutation, IsPermutation-map, ranks_by, sorted_far}
pub use Rattle.std.specs.List.{All, AllByRecursion, Contains, slice_get}
pub use Rattle.std.specs.Option.{option_cmp, option_map}
pub use Rattle.std.specs.Ordering.{is_lt, nat_cmp, ordering_reverse, ordering_then}
pub use Rattle.std.specs.Str.Parse.{digits_value}
pub use Rattle.wire_story.specs.Format.Texts.{CountsWords, WordsSoFar, capped, words}
