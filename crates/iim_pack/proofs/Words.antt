-- Names that several proofs use, re-exported from one module.
pub use Rattle.iim_dataset.proofs.Each.{all_append, all_map}
pub use Rattle.iim_dataset.specs.Format.Datasets.{Dataset, canonical_dataset, canonical_stream, count_octets, of_record, tag_octets}
pub use Rattle.iim_dataset.specs.Format.Octets.{greatest_size}
pub use Rattle.iim_dataset.specs.Laws.{IsEncodable, WritesJoin}
pub use Rattle.iim_dataset.specs.States.Devices.{Device, WroteOnlyPrefixOf, WithinInterruptionLimit, WroteAllOf}
pub use Rattle.iim_fields.specs.Format.Causes.{joined, kept}
pub use Rattle.iim_fields.specs.States.Walks.{rest_of}
pub use Rattle.iim_object.proofs.PlanParts.{plan_parts}
pub use Rattle.iim_object.proofs.Written.{if_none, stream_append}
pub use Rattle.iim_object.specs.Format.Packing.{joined_parts, IsWrittenObject, confirmed_datasets, object_datasets, plan_datasets, subfile_datasets}
pub use Rattle.iim_object.specs.Format.Objects.{bound_of, is_short}
pub use Rattle.iim_object.specs.Laws.{SubfilesAreFew}
pub use Rattle.iim_object.specs.States.Writing.{IsPrefix, IsWrittenFrom, Writing, plan_bound, exceeds_plan, plan_octets, total_of, write_cause}
pub use Rattle.iim_object.specs.declared.plan.Plan.{Plan}
pub use Rattle.iim_object.specs.declared.size.Size.{Size}
pub use Rattle.iim_object.specs.declared.size.Size.TheVariants.{Known, Unknown}
pub use Rattle.iim_object.specs.declared.writing.cause.StartFault.{StartFault}
pub use Rattle.iim_pack.specs.States.Packing.{FormWith, Packing, is_trailer, line_end_cause, pack_cause, start_cause, text_cause, StartBreaksOff, StartsPacking}
pub use Rattle.iim_pack.specs.Steps.{OpensObject}
pub use Rattle.iim_tables.specs.Format.Records.{IsGoodDataset}
pub use Rattle.std.proofs.Common.{Bool, IsTrue, List, None, Option, Some, [], ap, append-nil, append_assoc, arith, cond, false, inr, length, length-append, map, nat_eq, nat_le, not, refl, subst, sym, take, true, ℕ, ◌&&◌, ◌*◌, ◌++◌, ◌+◌, ◌<◌, ◌^◌, ◌∙◌, ◌∷◌, ◌≡◌, ◌≤◌}
pub use Rattle.std.proofs.lemmas.Bool.{and_parts, le-leb, leb-true, ltb-false, not-false}
pub use Rattle.std.proofs.lemmas.Result.{on_err_weaker, on_ok_weaker}
pub use Rattle.std.specs.List.{AllByRecursion, list_all}
pub use Rattle.wire_message.specs.Format.Messages.{canonical, packed_head, packed_tail, Header, IsTrailer}
pub use Rattle.wire_story.proofs.PackedEvents.{events_append, line_packed}
pub use Rattle.wire_story.specs.Format.Texts.{LineEnd, LineOctet, StoryEvent, events_of_lines, IsLine, is_line_octet, packed_text}
pub use Rattle.wire_story.specs.Format.Packing.{AreStoryEvents, lines_of, packed_events}
pub use Rattle.wire_story.specs.Laws.{LinesArePackedAsTheirEvents}
