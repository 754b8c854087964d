-- The names that several proofs import, re-exported from one place.
pub use Rattle.iim_dataset.proofs.Each.{all_append, all_back, all_front, all_last, all_map}
pub use Rattle.iim_dataset.proofs.Lists.{nothing_of_two, some_of, sum_append, sum_cons}
pub use Rattle.iim_dataset.proofs.WrittenNumbers.{dataset_length, number_back}
pub use Rattle.iim_dataset.specs.Format.Datasets.{Dataset, canonical_dataset, canonical_stream, of_record, tag_octets, written_number}
pub use Rattle.iim_dataset.specs.Format.Octets.{IsViablePrefix, greatest_size, number}
pub use Rattle.iim_dataset.specs.Laws.{WritesJoin}
pub use Rattle.iim_dataset.specs.States.Devices.{Device}
pub use Rattle.iim_object.specs.Steps.{CutterHasCapacity, writing_of, OutputFails, OutputWrites}
pub use Rattle.iim_object.specs.Format.Causes.{cause_at, confirmed_cause, end_cause}
pub use Rattle.iim_object.specs.Format.Packing.{AreFull, SplitsIntoSubfiles, joined_parts, is_known, number_dataset, plan_datasets, size_datasets, subfile_dataset, subfile_datasets}
pub use Rattle.iim_object.specs.Format.Objects.{place_after_datasets, Confirmed, NumberRead, ObjectEnded, ObjectLanguage, ObjectToken, SubfileBegun, number_tokens, ConfirmedAs, Ended, Ending, HasModeAndLargest, MayFollow, NotEnded, Place, ending_tokens, place_after, place_start, tokens_of, Known, Size, Unknown, announced_of, limit_of, max_subfiles, maximum_of, AreObjectRecords, lengths_of, numbers_of, SizesAgree, HaveNoRepeats, AreStatedNumbers, IsAllowedByRow, StatedNumber, mode_number, number_at, sizes_at, LanguageWithin, TokensAreWithin}
pub use Rattle.iim_object.specs.Laws.{SubfilesFit, StatesModeAndLargest, TotalIsAnnounced, HaveNoClash, ObjectsSplitUniquely, TokensReachPlace}
pub use Rattle.iim_object.specs.States.Reading.{SubfileMayCome, state_with, HasNumbers, IsState, IsStateAt, TokenAdvancesObject, RejectsObjectToken, ObjectReaderStandsAt, State, IsPossible}
pub use Rattle.iim_object.specs.States.Writing.{WriterAccepts, finish_cause, octets_written, total_of, write_cause}
pub use Rattle.iim_object.specs.declared.plan.Plan.{Plan}
pub use Rattle.iim_object.specs.declared.writing.cutter.Cutter.{Cutter}
pub use Rattle.iim_object.specs.declared.writing.output.Output.{Output}
pub use Rattle.iim_tables.proofs.GoodDatasets.{good_elsewhere, part_meets}
pub use Rattle.std.proofs.Common.{Bool, IfSome, List, None, Option, Some, [], ap, append-nil, append_assoc, arith, drop, false, inl, inr, is_some, length, length-append, length-take, map, refl, replicate, rules, subst, suc, sum, sym, take, true, unwrap_or, zero, ℕ, ◌*◌, ◌++◌, ◌+◌, ◌-◌, ◌<◌, ◌==◌, ◌∙◌, ◌∷◌, ◌≡◌, ◌≤◌, ◌⊎◌}
pub use Rattle.std.proofs.Math.Nat.{le_of_mul-le-mul_left}
pub use Rattle.std.proofs.lemmas.Bool.{cases_lt, eq-eqb}
pub use Rattle.std.proofs.lemmas.List.{length-map, map-append, nil_from_length}
pub use Rattle.std.proofs.lemmas.Option.{same_Some}
pub use Rattle.std.specs.List.{AllByRecursion}
