-- Names that most of these proofs use, re-exported from one module.
pub use Rattle.std.proofs.Math.Seq.{drop-append-add, take-append-add, take-append_seam, take-length}
pub use Rattle.std.proofs.lemmas.Bool.{and_parts, cases_Bool, cases_lt, eq-eqb, eqb-false, eqb-true, false≢true, le-leb, le-ltb, leb-true, lt-ltb, ltb-true, ne_eqb, or_cases}
pub use Rattle.std.proofs.lemmas.Bool.Decides.{eqb_tells, nat_tests}
pub use Rattle.std.proofs.lemmas.List.{append-nil, append_cancel_left, drop-append-le, length-drop, length-map, length-replicate, length-take, length-take-le, map-append, nil_from_length, take-append-drop, take-append-le, take-take}
pub use Rattle.std.proofs.lemmas.List.Concat.{flat_map-append}
pub use Rattle.std.proofs.lemmas.List.Elements.{filter-append}
pub use Rattle.std.proofs.lemmas.List.Folds.{list_all-append, list_any-append}
pub use Rattle.std.proofs.lemmas.Option.{same_Some}
pub use Rattle.std.specs.List.{AllByRecursion, after_first, before_first, filter, flat_map, fold, list_any, position_or_len}
pub use Rattle.std.specs.Option.{option_map, option_or, unwrap_or}
pub use Rattle.iim_dataset.proofs.Agreeing.{compare}
pub use Rattle.iim_dataset.proofs.Each.{all_append, all_back, all_front, all_map}
pub use Rattle.iim_dataset.proofs.Lists.{nothing_fits, some_of, sum_append, sum_cons, sum_fits, within_most_and}
pub use Rattle.iim_dataset.proofs.OctetLists.{front_are, number-lt, octets_append, zeros_are}
pub use Rattle.iim_dataset.proofs.WrittenNumbers.{few_octets, number_back}
pub use Rattle.iim_dataset.specs.Format.Datasets.{Dataset, EncodesCount, EncodesDataset, EncodesStream, EncodesTag, canonical_count, canonical_dataset, canonical_stream, canonical_tag, count_octets, head_of, of_record, tag_octets, written_number, PartialDataset, InData, InTag, EncodesPartial, ReadsAsDatasets, BeginsNoTag, BeginsTag}
pub use Rattle.iim_dataset.specs.Format.Octets.{IsViablePrefix, IsOctet, IsProperPrefix, Octets, greatest_size, number, within}
pub use Rattle.iim_dataset.specs.Laws.{CanonicalStreamsAreEncodings, EventsDetermineTheDatasets, IsEncodable, NoDatasetIsAPrefixOfAnother, NoTagIsAPrefixOfAnother, OctetsDetermineTheEvents}
pub use Rattle.iim_dataset.specs.States.Reading.{DatasetEvent, emitted_events, StoresPartial, between}
pub use Rattle.iim_dataset.specs.declared.head.Head.{Head}
pub use Rattle.iim_dataset.specs.declared.place.DatasetPlace.{DatasetPlace}
pub use Rattle.iim_tables.proofs.GoodDatasets.{good_elsewhere, none_counts, none_meets, occurrences_append, occurrences_cons, part_meets, some_counts}
pub use Rattle.iim_tables.specs.Format.Records.{IsGoodDataset, IsGoodRecord, mandatory, occurrences, occurs, repeats}
pub use Rattle.iim_tables.specs.Format.Rows.{OctetsMeetRow}
pub use Rattle.iim_fields.proofs.Sections.{by_record, front_alive, head_alive, last_more, last_of_joined, taken_alive}
pub use Rattle.iim_fields.specs.Format.Records.{AreViableSections, AreViableSectionsWithHead, IsWithin, AreRecords, AreSections, after, records, data_of, encoded_number, has_number_value}
pub use Rattle.iim_fields.specs.Format.Causes.{fault_by_row, fault_on, first_fault, head_fault, is_kept, kept, kept_octets, last_record, limits_fault, record_fault, room_fault, section_after, value_fault}
pub use Rattle.iim_fields.specs.Laws.{EnvelopesEndWithTheLastRecord, HeadsAreRejectedForFaults, HeadsReportTheLowestCause, NoSectionsAreAPrefixOfOthers, ValuesAreRejectedForFaults, ValuesReportTheLowestCause}
pub use Rattle.iim_fields.specs.States.Standing.{HasChecked, HasAcceptedHead, IsChecking, IsValueFault, AcceptsHead}
pub use Rattle.iim_fields.specs.declared.check.RecordPlace.{RecordPlace}
pub use Rattle.iim_fields.specs.declared.fault.FieldFault.{FieldFault}
pub use Rattle.iim_fields.specs.declared.limits.Limits.{Limits}
pub use Rattle.iim_object.proofs.Bounded.{begun_within, mode_known, row_low, within_append}
pub use Rattle.iim_object.specs.Format.Causes.{cause_at, confirmed_cause, end_cause, number_cause, subfile_cause}
pub use Rattle.iim_object.specs.Format.Objects.{ending_of, place_after_datasets, place_ended, Confirmed, NumberRead, ObjectEnded, ObjectLanguage, ObjectToken, SubfileBegun, number_tokens, ConfirmedAs, Ended, Ending, HasModeAndLargest, MayFollow, NotEnded, ending_tokens, head_token, place_after, tokens_of, value_token, max_subfiles, AreObjectRecords, HaveSizes, lengths_of, numbers_of, HaveNoRepeats, AreStatedNumbers, IsAllowedByRow, StatedNumber, mode_number, number_at, LanguageWithin, TokensAreWithin}
pub use Rattle.iim_object.specs.Format.Packing.{number_dataset, subfile_datasets}
pub use Rattle.iim_object.specs.Laws.{DatasetsEndWithTheirTokens, DatasetsAreViableWithTheirTokens, RecordsAreByNumber, TokensExtendThePlace, AreSized, SizesAreDetermined}
pub use Rattle.iim_object.specs.States.Reading.{IsPossible, LastIsPartial, stated_numbers}
pub use Rattle.iim_object.specs.declared.reading.fault.SizeCause.{SizeCause}
pub use Rattle.iim_object.specs.declared.reading.state.State.{State}
pub use Rattle.iim_object.specs.declared.size.Sizes.{Sizes}
pub use Rattle.wire_story.specs.Format.Texts.{HasLines, EndsInReturns, IsText, IsTextSoFar, is_line_octet, line_end, End, Octet, OctetOrEnd, StoryLanguage, with_end}
pub use Rattle.wire_message.specs.Format.Causes.{HasMessageCause, EndsViableStoryIn}
pub use Rattle.wire_message.specs.Format.Messages.{EndsViableMessage, MessageLanguage, IsViableMessage, HasViableStory, after_stx, text_so_far, Header, IsMessage}
pub use Rattle.wire_message.specs.Laws.{MessagesEndAfterEot, MessagesHaveOneReading, OctetsDetermineTheMessageState}
pub use Rattle.wire_message.specs.States.Reading.{ReachesSavedState, saved}
pub use Rattle.wire_message.specs.declared.fault.MessageCause.{MessageCause}
pub use Rattle.wire_message.specs.declared.saved.MessagePlace.{MessagePlace}
pub use Rattle.iim_places.specs.Format.Admitted.{Admits, Value, object_of, AreWithinLimits, IsFramedEnvelope}
pub use Rattle.iim_places.specs.Format.Causes.{AtHead, AtOctet, AtValue, IsInText, IsInvalidCountForm, Names, ReportsLowestCause, Token, rule_of, stated, total, partial_number, partial_record, layer_of, layer_of_message, message_fault_on, fault_of_record, refusal_at, size_fault_on, tag_cause, count_fault_on, CanContinue, CanContinueAt, RejectsHead, RejectsValue, HeadFits, IsFaultOfHead, IsFaultOfValue, CanContinueIn, ObjectIsViable, fault_at_head, fault_at_value, number_fault, object_fault, place_at, subfile_fault}
pub use Rattle.iim_places.specs.Format.Open.{AllCanContinue, CompletesToken, Delivers, Rejects, IsIncomplete, IsTextOf, IsTruncatedAt, IsBadEndAt, RefusesByTests, RefusesNext, message_tokens, object_so_far, section, truncation_refusal}
pub use Rattle.iim_places.specs.Format.Streams.{Answer, Answers, Finished, IsEnvelopeWithin, IsFinished, IsRefused, IsTruncated, RefusesOctet, Refused, Truncated, is_non_empty, sum_capped}
pub use Rattle.iim_places.specs.Format.TicketForm.{HasForm, HasOtherVersion, IsTicketFormFault, IsTicketPhase, IsTicketVersion, Contents, HasContents, came, contents_octets, AreTicketFields, AreTicketNumbers, AreTicketTexts, FitsInField, IsShortText, IsOptionalIn, FitsWidth}
pub use Rattle.iim_places.specs.Format.Tickets.{AllEnded, PartialData, ReachesPlace, Phase, PartialTag, field_octets, fields_octets, four, heads_of, layout, part_number, phase_octets, phase_of, place_of, present_version, text_octets, texts_octets, ticket_in_version, ticket_header, ticket_of, wide}
pub use Rattle.iim_places.specs.Laws.{EnvelopesAreFramed, EncodingIsUnambiguous, NoEncodingIsAPrefixOfAnother, NoEnvelopeIsEmpty, LayerLemmas, EqualExceptLines, HaveSameContinuations, PlacesDetermineLimits, OctetsHaveOnePlace, PlacesDetermineContinuations, PlacesDetermineRefusals, PossiblePlacesAreRestored, PresentScaleAddsNothing, SmallPlacesWerePossible, TicketsEncodeOnePlace, present_scale, EnvelopesAreBounded, ViableOctetsAreIncomplete, RefusedOctetsHaveNoContinuation, IncompleteOctetsAreBounded, IncompleteBeginsWithNoEnvelope, RefusalsAreUnique, RefusedOctetsWereIncomplete, StreamsHaveOneResult, OctetsHaveOneTicket, ContentsAreUnique, PlaceTicketsHaveContents, contents_of, texts_of}
pub use Rattle.iim_places.specs.States.Possible.{LayersReach, MessageReachesPlace, ObjectReachesPlace, PlacesArePossibleByLayers, RecordsAreViable, TagsReachPhase, phase_has_ended, partial_subfile_of, partial_subfiles, head_of_numbers, object_after, zero_or_one, record_datasets, Numbers, filled, mode_dataset, number_list, dataset_if, plain, witness_end, witness_numbers, AreHeadsWithin, AreViable, IsSmall, IsSmallPhase, IsSmallPlace, Possible, partial_count, partial_fields, first_greatest_size, widest, FitsRow, PartialFits, IsIncompleteAtScale, IsPossibleInVersion, IsEnvelopeAtScale, IsPossibleAtScale, Scale, SectionsIn, SectionsAreViableIn, first_scale, object_place_in}
pub use Rattle.iim_places.specs.States.Restored.{IsLimitFault, IsRestoreFault, EncodesPlace, counted_fields, counted_octets}
pub use Rattle.iim_places.specs.Restoring.{AreStored, CanContinueWithin, HasMessageParts, ConsumesEach, numbers_of_list, state_datasets}
pub use Rattle.iim_places.specs.TicketParts.{EncodesNoBody, EncodesNoMessage, AreRecordNumbers, BeginsWithNoData, IsAbsentOrSize, body_octets, message_parts}
pub use Rattle.iim_places.specs.declared.fault.TokenFault.{TokenFault}
pub use Rattle.iim_places.specs.declared.refusal.Layer.{Layer}
pub use Rattle.iim_places.specs.declared.ticket.fault.TicketFault.TheVariants.{TicketForm, HeaderFull, Impossible, OutOfMemory, TooManyFields, TicketVersion}
