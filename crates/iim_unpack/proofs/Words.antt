-- Names that several proofs use, re-exported from one module.
pub use Rattle.iim_dataset.proofs.Lists.{no_some}
pub use Rattle.iim_dataset.proofs.OctetLists.{are_octets}
pub use Rattle.iim_dataset.specs.Format.Datasets.{Dataset, count_octets, head_of, of_record, PartialDataset, InData, InTag, ReadsAsDatasets}
pub use Rattle.iim_dataset.specs.Format.Octets.{IsOctet, Octets, number}
pub use Rattle.iim_dataset.specs.Laws.{EventsDetermineTheDatasets}
pub use Rattle.iim_dataset.specs.States.Reading.{DataOctet, DatasetEnd, DatasetEvent, HeadRead, events_of_dataset, emitted_events, EmitsEvents, StoresPartial, ReachesDatasetState, between, current_name, to_come, DatasetReaderAccepts}
pub use Rattle.iim_dataset.specs.declared.head.Head.{Head}
pub use Rattle.iim_dataset.specs.declared.place.DatasetPlace.{DatasetPlace}
pub use Rattle.iim_dataset.specs.declared.place.DatasetPlace.TheVariants.{Inside, Tag}
pub use Rattle.iim_fields.proofs.Sections.{head_alive}
pub use Rattle.iim_fields.specs.Format.Records.{AreViableSections, AreViableSectionsWithHead, data_of, has_number_value}
pub use Rattle.iim_fields.specs.Format.Causes.{first_fault, is_kept, kept, section_after, value_fault}
pub use Rattle.iim_fields.specs.States.Standing.{AdmitsDataset, DatasetEncodesNumber, IsValueFault, current_head, FieldsPlace, IsBetweenDatasets, IsHeadFault, HasReadDatasets, IsReadingDataset, current_head_of, limits_of, section_of}
pub use Rattle.iim_fields.specs.States.Walks.{rest_of}
pub use Rattle.iim_fields.specs.declared.fault.FieldFault.{FieldFault}
pub use Rattle.iim_fields.specs.declared.limits.Limits.{Limits}
pub use Rattle.iim_object.specs.Format.Objects.{place_after_datasets, NumberRead, ObjectLanguage, ObjectToken, SubfileBegun, head_token, value_token, max_subfiles, numbers_of}
pub use Rattle.iim_object.specs.States.Reading.{events_at, stated_numbers}
pub use Rattle.iim_object.specs.declared.reading.state.State.{State}
pub use Rattle.iim_object.specs.declared.size.Sizes.{Sizes}
pub use Rattle.iim_places.proofs.StreamResults.{one_reading, reads_envelope}
pub use Rattle.iim_places.proofs.Following.{alive_of}
pub use Rattle.iim_places.proofs.Lasts.{not_all, sections_last}
pub use Rattle.iim_places.proofs.Places.{HeadLeads}
pub use Rattle.iim_places.proofs.PlacesOfTickets.{heads_within, ticket_at}
pub use Rattle.iim_places.proofs.SamePlace.{fields_after, fields_in, opened, some_read}
pub use Rattle.iim_places.proofs.SameRecords.{stated_after_all}
pub use Rattle.iim_places.proofs.Tickets.{count_of}
pub use Rattle.iim_places.specs.Format.Admitted.{Value, object_of, AreWithinLimits}
pub use Rattle.iim_places.specs.Format.Open.{AllCanContinue, Delivers, IsIncomplete, IsTextOf, IsTruncatedAt, object_so_far, section, truncation_refusal}
pub use Rattle.iim_places.specs.Format.Causes.{partial_number, partial_record, message_fault_on, fault_of_record, refusal_at, count_fault_on, CanContinue, CanContinueAt, IsFaultOfHead, IsFaultOfValue, CanContinueIn, ObjectIsViable, place_at}
pub use Rattle.iim_places.specs.Format.Streams.{Answer, Answers, Finished, IsEnvelopeWithin, IsFinished, Refused, Truncated, is_non_empty, sum_capped}
pub use Rattle.iim_places.specs.Format.TicketForm.{Contents}
pub use Rattle.iim_places.specs.Format.Tickets.{IsTicketOf, Place, field_octets, four, place_of, present_version}
pub use Rattle.iim_places.specs.Laws.{LayerLemmas, PlaceLaws, StreamsHaveOneResult}
pub use Rattle.iim_places.specs.States.Restored.{contents_from}
pub use Rattle.iim_places.specs.declared.fault.TokenFault.{TokenFault}
pub use Rattle.iim_places.specs.declared.refusal.Cause.{Cause}
pub use Rattle.iim_places.specs.declared.refusal.Refusal.{Refusal}
pub use Rattle.iim_unpack.specs.Format.Pieces.{IsRejected, stream_of, HasParts, Unpacked}
pub use Rattle.iim_unpack.specs.Steps.{HasFedChunks, IsConsistent, IsReachable}
pub use Rattle.iim_unpack.specs.RouterSteps.{PartsAreBetween, EventsAreInOrder, PartsReject, PartsEmit, ConsumesWhole, AllowsSubfile, IsFaultOfObject, MessageRejects, MessageEmits, octets_of, message_emits_nil, Takes}
pub use Rattle.iim_unpack.specs.States.Blocks.{with_unread}
pub use Rattle.iim_unpack.specs.States.Unpacking.{StoresFew, PartsAreAfter, AreReachedBy, CountsSinkFailure, Parts, PartsAreAt, PartsAreIn, has_ended, Done, Progresses, IsDone, IsDoneWith, IsReachedBy, IsRefusedIn, AreSame, More, Progress, HasRead, Unpacking, limits_in}
pub use Rattle.iim_unpack.specs.States.Intakes.{HasFed, AcceptsInput, input_of}
pub use Rattle.iim_unpack.specs.States.Restored.{IsRestored}
pub use Rattle.std.proofs.Common.{Bool, Bor, Err, IsSome, List, None, Ok, Option, Result, Some, [], ap, append-nil, append_assoc, arith, cond, drop, false, flat_map, get_or, if◌then◌else◌, inl, inr, length, length-append, map, nat_eq, not, refl, slice_index, subst, sym, take, true, ℕ, ◌*◌, ◌++◌, ◌+◌, ◌-◌, ◌<◌, ◌==◌, ◌^◌, ◌||◌, ◌∙◌, ◌∷◌, ◌≡◌, ◌≤◌, ◌⊎◌}
pub use Rattle.std.proofs.Math.Seq.{take-append-add}
pub use Rattle.std.proofs.lemmas.Bool.{cases_Bool, eqb-true, ne_eqb, true≢false}
pub use Rattle.std.proofs.lemmas.List.{get_or-append-add, length-take-le, take-append-drop, take_all}
pub use Rattle.std.proofs.lemmas.List.Concat.{flat_map-append}
pub use Rattle.std.proofs.lemmas.Option.{same_Some}
pub use Rattle.std.proofs.lemmas.Result.{IfErr-weaker, on_ok_weaker}
pub use Rattle.std.specs.Option.{option_map, option_or}
pub use Rattle.wire_message.specs.Format.Messages.{text_so_far}
pub use Rattle.wire_message.specs.Laws.{TextsAreBetweenStxAndEtx}
pub use Rattle.wire_message.specs.States.Reading.{ReachesSavedState}
pub use Rattle.wire_message.specs.declared.fault.MessageCause.{MessageCause}
pub use Rattle.wire_message.specs.declared.saved.MessagePlace.{MessagePlace}
pub use Rattle.wire_story.specs.Laws.{DeliveryOfChunksJoins}
