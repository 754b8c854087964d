-- The names that most of these proofs use.
pub use Rattle.std.proofs.lemmas.Bool.{and_from, and_left, and_parts, and_right, cases_Bool, cases_eq, cases_lt, cond_both, eq-eqb, eqb-true, false_from_ne_true, le-leb, ne_eqb, or_cases, or_right, true_from_ne_false}
pub use Rattle.std.proofs.lemmas.Bool.Decides.{eqb_tells, leb_tells, nat_tests}
pub use Rattle.std.proofs.lemmas.Grind.{flat_map-append, get_or-set_at}
pub use Rattle.std.proofs.lemmas.List.{get_or-append_right, get_or-set_other, get_or-set_same, get_or_append_left, length-replicate, length-set}
pub use Rattle.std.proofs.lemmas.List.Elements.{filter-append, filter_passes, recursion_from_All}
pub use Rattle.std.proofs.lemmas.List.Folds.{list_any-append}
pub use Rattle.std.proofs.lemmas.Option.{same_Some}
pub use Rattle.std.specs.Int.{IsInRange, bit_at}
pub use Rattle.std.specs.List.{AllByRecursion, filter, find, list_all, list_any, slice_get}
pub use Rattle.std.specs.Option.{option_map, option_or}
pub use Rattle.std.specs.Prelude.{IsSome, IsSomeAnd, IsTrue, None, is_none, is_some, vec_capacity, vec_len}
pub use Rattle.iim_dataset.proofs.Each.{all_append, all_back, all_front}
pub use Rattle.iim_dataset.proofs.Lists.{all_there, handed_on, nothing_of_two, within_most}
pub use Rattle.iim_dataset.proofs.OctetLists.{are_octets, number-cons, octets_append, zeros_are}
pub use Rattle.iim_dataset.specs.Format.Datasets.{Dataset, head_of, of_record}
pub use Rattle.iim_dataset.specs.Format.Octets.{IsOctet, Octets, greatest_size, is_digit, number, within}
pub use Rattle.iim_dataset.specs.declared.head.Head.{Head}
pub use Rattle.iim_tables.proofs.GoodDatasets.{admitted_as, good_elsewhere, meets_as, none_counts, none_meets, occurrences_append, occurrences_cons, repeats_as, some_counts}
pub use Rattle.iim_tables.specs.Format.Kinds.{has_kind, size_octets}
pub use Rattle.iim_tables.specs.Format.Records.{HasValueOfLength, IsGoodDataset, IsGoodRecord, has_file_format, must_occur, mandatory, occurrences, occurs, repeats}
pub use Rattle.iim_tables.specs.Format.Rows.{OctetsMeetRow, is_admitted, row_of_unread}
unfoldable pub use Rattle.iim_tables.specs.Format.Rows.{row_of, table}
pub use Rattle.iim_tables.specs.declared.shape.Row.{Row}
pub use Rattle.iim_fields.specs.Steps.{IsBuilderState, IsEnvelopeStore, IsRecordPlace, place_fault, MayAcceptDataset, OrderAddsHead, end_fault, StoreHasCapacity, IsReaderState, IsReachedByDatasets, reader_view}
pub use Rattle.iim_fields.specs.Format.Records.{AreViableSections, AreViableSectionsWithHead, IsWithin, IsEnvelope, AreRecords, AreSections, after, records, data_of, encoded_number, has_number_value, first_data, has_names}
pub use Rattle.iim_fields.specs.Format.Causes.{fault_by_row, fault_on, first_fault, head_fault, is_first, is_in_order, is_kept, joined, kept, kept_octets, last_record, limit_exceeded, limits_fault, missing_fault, missing_of, record_fault, room_fault, row_fault, section_after, current_datasets, value_fault}
pub use Rattle.iim_fields.specs.Laws.{DatasetsDetermineTheCheck, BuildersAcceptEnvelopes, EnvelopesEndWithTheLastRecord, HeadsAreRejectedForFaults, HeadsReportTheLowestCause, IsFaultIfAny, NoSectionsAreAPrefixOfOthers, ValuesAreRejectedForFaults, ValuesReportTheLowestCause}
pub use Rattle.iim_fields.specs.States.Standing.{AdmitsDataset, DatasetEncodesNumber, BuilderView, added_field_fault, missing_field_fault, limit_exceeded_by, IsBetweenHeads, ExpectsNoValue, HasChecked, LastRecordHasEnded, HasAcceptedHead, IsChecking, IsInDataset, IsRecordFault, IsValueFault, AcceptsHead, current_head, section_at, IsOrderOf, has_seen, AcceptsEnd, AcceptsData, FieldsPlace, IsBetweenDatasets, RecordReaderHasEnded, IsHeadFault, IsInsideDataset, IsDatasetOf, AcceptedSubfile, HasReadDatasets, IsReadingDataset, current_head_of, limits_of, section_of}
pub use Rattle.iim_fields.specs.States.Stores.{fields_from}
pub use Rattle.iim_fields.specs.States.Walks.{data_left, rest_of}
pub use Rattle.iim_fields.specs.StoreLayout.{HasStored, current_octets, ends_at, entries_of, fields_of, entries_are_sound, store_room}
pub use Rattle.iim_fields.specs.declared.check.Begun.{Begun}
pub use Rattle.iim_fields.specs.declared.check.RecordPlace.{RecordPlace}
pub use Rattle.iim_fields.specs.declared.fault.FieldCause.TheVariants.{BadValue, CountRange, FileFormat, HeaderFull, Missing, RecordOrder, Repeated, TooManyFields, UnknownDataset}
pub use Rattle.iim_fields.specs.declared.fault.FieldFault.{FieldFault}
pub use Rattle.iim_fields.specs.declared.limits.Limits.{Limits}
pub use Rattle.iim_fields.specs.declared.order.Order.{Order}
pub use Rattle.iim_fields.specs.declared.store.Entry.{Entry}
pub use Rattle.iim_fields.specs.declared.store.Store.{Store}
