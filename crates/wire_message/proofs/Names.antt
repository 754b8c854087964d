-- The names that most of these proofs use.
pub use Rattle.std.proofs.Math.Bool.{or-false, or_assoc}
pub use Rattle.std.proofs.Math.Seq.{drop-append-add, drop-append_seam, take-add, take-append_seam, take-length}
pub use Rattle.std.proofs.lemmas.Bool.{and_from, and_left, and_parts, and_right, both_ways, cases_lt, cond-false, cond-true, cond_both, eqb-true, le-ltb, lt-ltb, ltb-true, ne_eqb, not-true, not_from_false, or_from, or_left, or_right, true_from_ne_false}
pub use Rattle.std.proofs.lemmas.Bool.Decides.{nat_tests}
pub use Rattle.std.proofs.lemmas.List.{append_cancel_left, append_cancel_right, get_or-drop, length-replicate, take_more, take_rest}
pub use Rattle.std.proofs.lemmas.List.Folds.{list_all-append, list_any-append}
pub use Rattle.std.proofs.lemmas.Option.{same_Some}
pub use Rattle.std.specs.List.{after_first, before_first, list_all, list_any, position_or_len, slice_range}
pub use Rattle.arrayvec.specs.ArrayVec.{ArrayVec}
pub use Rattle.iim_dataset.specs.Format.Octets.{Octets, is_digit, is_letter}
pub use Rattle.wire_story.proofs.SoFar.{end_of, front_of, map_snoc, so_far_two, with_end-append}
pub use Rattle.wire_story.proofs.Spans.{Are-append, Are-cons, Are-head, Are-tail}
pub use Rattle.wire_story.specs.Format.Texts.{HasLines, EndsInReturns, IsLine, IsText, IsTextSoFar, is_line_octet, line_end, packed_text, End, IsViableStory, Octet, EndsViableStory, StoryLanguage, with_end}
pub use Rattle.wire_story.specs.Laws.{StoryLaws}
pub use Rattle.wire_story.specs.declared.fault.TextCause.{TextCause}
pub use Rattle.wire_story.specs.declared.reader.TextReader.{TextReader}
pub use Rattle.wire_message.specs.Format.Messages.{canonical, packed_info, Are, IsField, is_alphanumeric, is_filler_octet, is_info_octet, is_text_octet, is_trailer_octet, max_category, max_filler, max_info, max_number, max_priority, max_source, max_trailer, max_words, EndsViableMessage, IsViableMessage, HasViableStory, after_stx, story_tokens_of, text_so_far, trailer_so_far, BeginsWithHeader, Header, IsFiller, IsGap, IsHeader, IsMessage, IsTrailer, EncodesInfo, fixed_header, has_feed, header_of}
pub use Rattle.wire_message.specs.Format.Causes.{HasMessageCause, EndsViableStoryIn}
pub use Rattle.wire_message.specs.Laws.{HeadersAreReturnedFromStx, ViableOctetsReachStates, MessagesEndAfterEot, MessagesKeepTheirHeader, StatesDetermineRejections, MessageStatesDetermineLaterOnes, OctetsDetermineTheMessageState, MessageStatesAreReached, SavedStatesAreDistinct, ReadersConsumeViableOctets, ReturnsHeaderOf, TextsAreBetweenStxAndEtx, TrailersAreReturnedFromEtx, TrailersAreBetweenEtxAndEot}
pub use Rattle.wire_message.specs.Steps.{DoesNotExtendPart, begins, begun, ends, is_octet_of, lengthens_gap, most_of_part, octets_of_part, OctetEndsViableMessage, RejectsOctetOfMessage, ConsumesOctets, ConsumesAnOctet, message_cause_of}
pub use Rattle.wire_message.specs.States.Reading.{SinkCountsMessageCause, ReachesSomeState, IsCompleteMessage, ChunkAdvancesMessage, RejectsMessageOctet, MessageReaderRejects, MessageReaderHasRead, MessageReaderConsumes, head_read, is_ended, trailer_read, IsMessageState, ReachesMessageState, MatchesState, IsStoryState, so_far}
pub use Rattle.wire_message.specs.declared.fault.MessageCause.{MessageCause}
pub use Rattle.wire_message.specs.declared.fault.MessageCause.TheVariants.{BadOctet, ControlOctet, LoneReturn, Sink, Unfinished}
pub use Rattle.wire_message.specs.declared.part.HeaderPart.{HeaderPart}
pub use Rattle.wire_message.specs.declared.part.HeaderPart.TheVariants.{Category, Number, Priority, Source, Words}
pub use Rattle.wire_message.specs.declared.part.HeaderTexts.{HeaderTexts}
pub use Rattle.wire_message.specs.declared.place.Place.{Place}
pub use Rattle.wire_message.specs.declared.place.Place.TheVariants.{AfterEnd, Filler, Gap, InHeader, Info, Text, Trailer}
