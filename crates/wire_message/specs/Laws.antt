-- Statements of the lemmas about messages, and about the states of a reader of messages.
use Rattle.std.specs.Prelude.{◌≡◌, ◌↔◌, ℕ, ◌==◌, IsTrue, List, ◌++◌, Option, Some, IsSome}
use Rattle.std.specs.List.{list_any}
use Rattle.iim_dataset.specs.Format.Octets.{stx, IsViablePrefix}
use Rattle.wire_story.specs.Format.Texts.{packed_text, IsText, LinesMakeText, with_end}
use Rattle.wire_message.specs.Format.Messages.{Header, IsHeader, IsTrailer, IsMessage, BeginsWithHeader, canonical, MessageLanguage, IsViableMessage, text_so_far, trailer_so_far, HasViableStory}
use Rattle.wire_message.specs.States.Reading.{IsMessageState, ReachesMessageState, Place, MessageReaderHasRead, head_read, trailer_read, is_ended, saved}
use Rattle.wire_message.specs.{Format.Causes.HasMessageCause, declared.fault.MessageCause.MessageCause}

-- An object can be read as a message in at most one way.
abbrev pub MessagesHaveOneReading : Type 0
MessagesHaveOneReading = (object : List ℕ) (head other : Header) (text other_text trailer other_trailer : List ℕ)
    → IsMessage object head text trailer → IsMessage object other other_text other_trailer
    → (head ≡ other) × (text ≡ other_text) × (trailer ≡ other_trailer)

-- The packed octets of a header, of lines that make a text, and of a trailer are a message with
-- these parts, and its text has these lines.
abbrev pub CanonicalObjectsAreMessages : Type 0
CanonicalObjectsAreMessages = (head : Header) (lines : List (List ℕ)) (trailer : List ℕ)
    → IsHeader head → LinesMakeText lines → IsTrailer trailer
    → IsMessage (canonical head lines trailer) head (packed_text lines) trailer × IsText (packed_text lines) lines

-- The text of a reader's state is the text of the octets so far: those after STX and before ETX.
abbrev pub TextsAreBetweenStxAndEtx : Type 0
TextsAreBetweenStxAndEtx = (octets text : List ℕ) (place : Place) → ReachesMessageState octets text place → text ≡ text_so_far octets

-- Octets that reach a state are a viable prefix of a message, and their text is a viable prefix of
-- a story.
abbrev pub ReadersConsumeViableOctets : Type 0
ReadersConsumeViableOctets = (octets text : List ℕ) (place : Place) → ReachesMessageState octets text place → IsViableMessage octets × HasViableStory octets

-- If octets reach a state, and together with further octets they are a viable prefix of a message
-- and their text is a viable prefix of a story, then the further octets reach a state from there.
abbrev pub ViableOctetsReachStates : Type 0
ViableOctetsReachStates = (octets more text : List ℕ) (place : Place) → ReachesMessageState octets text place
    → IsViableMessage (octets ++ more) → HasViableStory (octets ++ more)
    → (added : List ℕ) × (new : Place) × ReachesMessageState (octets ++ more) (text ++ added) new

-- The states that satisfy the invariant of a reader are exactly the states that some octets reach.
abbrev pub MessageStatesAreReached : Type 0
MessageStatesAreReached = (place : Place) → IsMessageState place ↔ ((octets : List ℕ) × (text : List ℕ) × ReachesMessageState octets text place)

-- The octets determine the state that they reach, and the text, regardless of how they are split
-- into chunks.
abbrev pub OctetsDetermineTheMessageState : Type 0
OctetsDetermineTheMessageState = (octets text other : List ℕ) (p q : Place) → ReachesMessageState octets text p → ReachesMessageState octets other q → (text ≡ other) × (p ≡ q)

-- If two lists of octets reach the same state, then after the same further octets they reach the
-- same state, and the same text is added to both.
abbrev pub MessageStatesDetermineLaterOnes : Type 0
MessageStatesDetermineLaterOnes = (a b x t u y : List ℕ) (p q : Place) → ReachesMessageState a t p → ReachesMessageState b u p → ReachesMessageState (a ++ x) (t ++ y) q → ReachesMessageState (b ++ x) (u ++ y) q

-- If two lists of octets reach the same state, an octet is rejected after both for the same cause.
abbrev pub StatesDetermineRejections : Type 0
StatesDetermineRejections = (octets others text other : List ℕ) (place : Place) (cause : MessageCause) (next : ℕ)
    → ReachesMessageState octets text place → ReachesMessageState others other place → HasMessageCause cause octets next → HasMessageCause cause others next

-- A reader returns a header if and only if STX was received. It is the header with which the octets
-- begin.
pub record ReturnsHeaderOf (reader : Option Place) (octets : List ℕ) : Type 0 where
  pub told : IsSome (head_read reader) ↔ IsTrue (list_any (λ b. b == stx) octets)
  pub parts : (head : Header) → (head_read reader ≡ Some head) ↔ BeginsWithHeader octets head

-- A reader returns a header if and only if the octets so far contain an STX. The parts of the
-- header are those of the octets.
abbrev pub HeadersAreReturnedFromStx : Type 0
HeadersAreReturnedFromStx = (reader : Option Place) (octets text : List ℕ) → MessageReaderHasRead reader octets text → ReturnsHeaderOf reader octets

-- The trailer that a reader returns is the trailer of the octets so far: those after ETX and before
-- EOT.
abbrev pub TrailersAreReturnedFromEtx : Type 0
TrailersAreReturnedFromEtx = (reader : Option Place) (octets text : List ℕ) → MessageReaderHasRead reader octets text → trailer_read reader ≡ trailer_so_far octets

-- Octets with an STX are a prefix of messages with one header only.
abbrev pub MessagesKeepTheirHeader : Type 0
MessagesKeepTheirHeader = (octets more text trailer : List ℕ) (head other : Header)
    → BeginsWithHeader octets head → IsMessage (octets ++ more) other text trailer → other ≡ head

-- The trailer of a message consists of the octets after ETX and before EOT.
abbrev pub TrailersAreBetweenEtxAndEot : Type 0
TrailersAreBetweenEtxAndEot = (object text trailer : List ℕ) (head : Header)
    → IsMessage object head text trailer → trailer_so_far object ≡ trailer

-- Octets that reach a state are a complete message if and only if EOT was received.
abbrev pub MessagesEndAfterEot : Type 0
MessagesEndAfterEot = (octets text : List ℕ) (place : Place) → ReachesMessageState octets text place → IsViablePrefix MessageLanguage (with_end octets) ↔ IsTrue (is_ended (Some place))

-- Two states with the same saved form are equal.
abbrev pub SavedStatesAreDistinct : Type 0
SavedStatesAreDistinct = (p q : Place) → IsMessageState p → IsMessageState q → saved p ≡ saved q → p ≡ q

-- The lemmas about messages, with a field for each.
pub record MessageLaws : Type 0 where
  -- lemmas about which octets are messages:
  pub messages_have_one_reading : MessagesHaveOneReading
  pub canonical_objects_are_messages : CanonicalObjectsAreMessages
  pub messages_keep_their_header : MessagesKeepTheirHeader
  pub trailers_are_between_etx_and_eot : TrailersAreBetweenEtxAndEot
  -- lemmas about what a reader returns:
  pub texts_are_between_stx_and_etx : TextsAreBetweenStxAndEtx
  pub headers_are_returned_from_stx : HeadersAreReturnedFromStx
  pub trailers_are_returned_from_etx : TrailersAreReturnedFromEtx
  pub messages_end_after_eot : MessagesEndAfterEot
  -- lemmas about the states that octets reach:
  pub viable_octets_reach_states : ViableOctetsReachStates
  pub octets_determine_the_message_state : OctetsDetermineTheMessageState
  pub message_states_determine_later_ones : MessageStatesDetermineLaterOnes
  pub states_determine_rejections : StatesDetermineRejections
