-- The transitions of a state, and restoring a saved state.
use Rattle.std.specs.Prelude.{◌≡◌, ℕ, ◌+◌, ◌<◌, ◌&&◌, ◌||◌, ◌==◌, nat_lt, if◌then◌else◌, Bool, false, List, [], ◌∷◌, length, Option, Some, ◌≤◌, ◌++◌, take}
use Rattle.iim_dataset.specs.Format.Octets.{lf, sp, is_digit, is_letter}
use Rattle.wire_message.specs.Format.Messages.{is_alphanumeric, is_info_octet, is_trailer_octet, is_filler_octet, max_filler, max_source, max_number, max_priority, max_category, max_words, max_info, max_trailer, Header, header_of, EndsViableMessage}
use Rattle.wire_message.specs.States.Reading.{IsMessageState, saved, MatchesState, IsStoryState, PassesStoryToSink, PassesPrefixToSink, RejectsMessageOctet, SinkCountsMessageCause}
use Rattle.wire_message.specs.declared.part.HeaderPart.TheVariants.{Source, Number, Priority, Category, Words}
use Rattle.wire_message.specs.declared.place.Place.TheVariants.{Filler, InHeader, Info, Gap, Trailer, AfterEnd}
use Rattle.wire_message.specs.declared.fault.MessageCause.TheVariants.{LoneReturn, ControlOctet, Sink}
use Rattle.wire_message.specs.declared.{part.HeaderPart.HeaderPart, part.HeaderTexts.HeaderTexts, place.Place.Place}
use Rattle.wire_message.specs.declared.{saved.MessagePlace.MessagePlace, fault.MessageCause.MessageCause}
use Rattle.wire_message.specs.declared.{fault.MessageFault.MessageFault}
use Rattle.wire_story.specs.{Format.Texts.StoryEvent, Format.Texts.Octet, declared.fault.TextCause.TextCause}
use Rattle.wire_story.specs.declared.fault.TextCause.TheVariants as text_cause

-- ---- The parts of a header before its info.

-- the octets that are allowed in the part
abbrev pub is_octet_of : HeaderPart → ℕ → Bool
is_octet_of Source = is_letter
is_octet_of Category = is_alphanumeric
is_octet_of _ = is_digit

-- the maximum length of the part, in octets
abbrev pub most_of_part : HeaderPart → ℕ
most_of_part Source = max_source
most_of_part Number = max_number
most_of_part Priority = max_priority
most_of_part Category = max_category
most_of_part Words = max_words

-- the octets received of the part
abbrev pub octets_of_part : HeaderPart → HeaderTexts → List ℕ
octets_of_part Source t = t.source.items
octets_of_part Number t = t.number.items
octets_of_part Priority t = t.priority.items
octets_of_part Category t = t.category.items
octets_of_part Words t = t.words.items

-- the header with these parts and an empty info
abbrev pub begun : HeaderTexts → Header
begun t = header_of t.source.items t.number.items t.priority.items t.category.items t.words.items []

-- ---- All parts.

-- The octet may be the next octet of a gap of `count` octets, so that STX may still follow. `feed`
-- is whether the gap has an LF.
abbrev pub lengthens_gap : ℕ → Bool → ℕ → Bool
lengthens_gap count feed octet = is_filler_octet octet && nat_lt count max_filler && (feed || octet == lf || nat_lt (count + 1) max_filler)

-- The octet cannot be the next octet of the part in progress: it is not allowed in that part, or
-- the part is full.
abbrev pub DoesNotExtendPart : Place → ℕ → Type 0
DoesNotExtendPart (Filler count) octet = (is_filler_octet octet && nat_lt count max_filler) ≡ false
DoesNotExtendPart (InHeader part t) octet = length (octets_of_part part t) < most_of_part part → is_octet_of part octet ≡ false
DoesNotExtendPart (Info h) octet = length h.info < max_info → is_info_octet octet ≡ false
DoesNotExtendPart (Gap h count feed) octet = lengthens_gap count feed octet ≡ false
DoesNotExtendPart (Trailer h t) octet = length t.items < max_trailer → is_trailer_octet octet ≡ false
DoesNotExtendPart (AfterEnd h t count) octet = (is_filler_octet octet && nat_lt count max_filler) ≡ false
DoesNotExtendPart _ octet = Unit {0}

-- The octet ends a part of the header, if the part is non-empty.
abbrev pub ends : HeaderPart → ℕ → Bool
ends Source octet = is_digit octet
ends Words octet = octet == sp || is_filler_octet octet
ends _ octet = octet == sp

-- the state after the octet that ends a part: the digit that ends the source begins the number;
-- after the words, SP begins the info and filler begins the gap
abbrev pub begins : HeaderPart → ℕ → HeaderTexts → Place
begins Source octet t = InHeader Number (record t { number = record { items = octet ∷ [] } })
begins Number octet t = InHeader Priority t
begins Priority octet t = InHeader Category t
begins Category octet t = InHeader Words t
begins Words octet t = if octet == sp then Info (begun t) else Gap (begun t) 1 (octet == lf)

-- the header in a saved state
abbrev pub head_in : MessagePlace → Header
head_in place = header_of place.source.items place.number.items place.priority.items place.category.items place.words.items place.info.items

-- the parts of the header so far in a saved state
abbrev pub texts_in : MessagePlace → HeaderTexts
texts_in m = record { source = m.source; number = m.number; priority = m.priority; category = m.category; words = m.words }

-- No other state than the one found has this saved form.
abbrev pub IsOnlyState : Option Place → MessagePlace → Type 0
IsOnlyState found place = (at : Place) → IsMessageState at → saved at ≡ place → found ≡ Some at

-- converts a cause of the text to a cause of the message
abbrev pub message_cause_of : TextCause → MessageCause
message_cause_of text_cause.LoneReturn = LoneReturn
message_cause_of text_cause.ControlOctet = ControlOctet
message_cause_of text_cause.Sink = Sink

-- ---- Transitions.

-- The octets so far, followed by this octet, are not a viable prefix of a message.
abbrev pub OctetEndsViableMessage : Place → ℕ → Type 0
OctetEndsViableMessage place octet = (octets text : List ℕ) → MatchesState octets text place → EndsViableMessage octets (Octet octet)

-- After one or more of the octets this is the state. These octets add no text.
pub record ConsumesAnOctet (old : Place) (rest : List ℕ) (new : Place) (used : ℕ) : Type 0 where
  pub some : 0 < used
  pub within : used ≤ length rest
  pub is_place : IsMessageState new
  pub adds : (before text : List ℕ) → MatchesState before text old → MatchesState (before ++ take used rest) text new
  pub story : (text : List ℕ) → IsStoryState text old → IsStoryState text new

-- Octets were consumed: they reach the next state, the sink received the events that are delivered
-- for them, and it did not stop.
pub record ConsumesOctets {S : Type 0} (goes : S → List StoryEvent → S → Type 0) (failures : S → ℕ) (old : Place) (before : S) (octets : List ℕ)
    (new : Place) (after : S) : Type 0 where
  pub is_place : IsMessageState new
  pub told : PassesStoryToSink goes before (Some old) octets (Some new) after
  pub no_failure : failures after ≡ failures before

-- An octet of a chunk was rejected, for its cause, and the sink received the events that are
-- delivered for the octets before it.
pub record RejectsOctetOfMessage {S : Type 0} (goes : S → List StoryEvent → S → Type 0) (failures : S → ℕ) (old : Place) (before : S) (piece : List ℕ)
    (after : S) (fault : MessageFault) : Type 0 where
  pub within : fault.taken < length piece
  pub refused : RejectsMessageOctet (Some old) piece fault
  pub told : PassesPrefixToSink goes before (Some old) (take fault.taken piece) after
  pub counted : SinkCountsMessageCause (failures before) (failures after) fault.cause
