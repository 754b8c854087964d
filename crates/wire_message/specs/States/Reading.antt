-- The states of a reader of messages, the octets that reach them, and the saved form of a state.
use Rattle.std.specs.Prelude.{◌≡◌, ℕ, ◌≤◌, ◌||◌, nat_lt, IsTrue, List, [], ◌∷◌, ◌++◌, length, ◌<◌, take, slice_index, Bool, true, false, Option, Some, None, if◌then◌else◌, ◌+◌, IfSome}
use Rattle.iim_dataset.specs.Format.Octets.{soh, stx, etx, sp, is_digit, is_letter, CounterRose}
use Rattle.wire_story.specs.Format.Texts.{HasLines, StoryEvent, delivered}
use Rattle.wire_story.specs.States.Reading as story
use Rattle.wire_message.specs.Format.Messages.{Are, IsField, is_alphanumeric, is_filler_octet, is_text_octet, max_filler, max_source, max_number, max_priority, max_category, max_words, IsHeader, IsTrailer, IsFiller, IsGap, IsMessage, EncodesInfo, fixed_header, has_feed, Header, IsViableMessage, HasViableStory, packed_info}
use Rattle.wire_message.specs.declared.part.HeaderPart.TheVariants.{Source, Number, Priority, Category, Words}
use Rattle.wire_message.specs.{Format.Causes.HasMessageCause, declared.part.HeaderPart.HeaderPart}
use Rattle.wire_message.specs.{declared.part.HeaderTexts.HeaderTexts, declared.fault.MessageCause.MessageCause}
use Rattle.wire_message.specs.{declared.fault.MessageCause.TheVariants.Sink, declared.fault.MessageFault.MessageFault}
use Rattle.wire_message.specs.{declared.saved.MessagePart.MessagePart, declared.saved.MessagePlace.MessagePlace}
pub use Rattle.wire_message.specs.declared.place.Place.{Place}
pub use Rattle.wire_message.specs.declared.place.Place.TheVariants.{Filler, InHeader, Info, Gap, Text, Trailer, AfterEnd}
use Rattle.wire_message.specs.declared.saved.MessagePart.TheVariants as part

-- ---- The parts of a header.

-- Each part has only octets that are allowed in it, and its length is within these bounds.
abbrev pub HavePartBounds : (s s' n n' p p' c c' w w' : ℕ) → HeaderTexts → Type 0
HavePartBounds s s' n n' p p' c c' w w' t = IsField is_letter s s' t.source.items × IsField is_digit n n' t.number.items × IsField is_digit p p' t.priority.items
    × IsField is_alphanumeric c c' t.category.items × IsField is_digit w w' t.words.items

-- the octets after SOH up to the part in progress: the number directly follows the source, and
-- other parts are separated by SP
abbrev pub so_far : HeaderPart → HeaderTexts → List ℕ
so_far Source t = t.source.items
so_far Number t = t.source.items ++ t.number.items
so_far Priority t = t.source.items ++ (t.number.items ++ (sp ∷ t.priority.items))
so_far Category t = t.source.items ++ (t.number.items ++ (sp ∷ (t.priority.items ++ (sp ∷ t.category.items))))
so_far Words t = t.source.items ++ (t.number.items ++ (sp ∷ (t.priority.items ++ (sp ∷ (t.category.items ++ (sp ∷ t.words.items))))))

-- ---- Possible states.

-- What was received has lengths and octets with which a message can continue. In a header, the
-- parts before the one in progress are non-empty, and so is the number, which begins with its first
-- digit. The parts after the one in progress are empty.
abbrev pub IsMessageState : Place → Type 0
IsMessageState (Filler count) = count ≤ max_filler
IsMessageState (InHeader Source t) = HavePartBounds 0 max_source 0 0 0 0 0 0 0 0 t
IsMessageState (InHeader Number t) = HavePartBounds 1 max_source 1 max_number 0 0 0 0 0 0 t
IsMessageState (InHeader Priority t) = HavePartBounds 1 max_source 1 max_number 0 max_priority 0 0 0 0 t
IsMessageState (InHeader Category t) = HavePartBounds 1 max_source 1 max_number 1 max_priority 0 max_category 0 0 t
IsMessageState (InHeader Words t) = HavePartBounds 1 max_source 1 max_number 1 max_priority 1 max_category 0 max_words t
IsMessageState (Info h) = IsHeader h
IsMessageState (Gap h count feed) = IsHeader h × (1 ≤ count) × (count ≤ max_filler) × IsTrue (feed || nat_lt count max_filler)
IsMessageState (Text h reader) = IsHeader h × story.IsTextState reader
IsMessageState (Trailer h t) = IsHeader h × IsTrailer t.items
IsMessageState (AfterEnd h t count) = IsHeader h × IsTrailer t.items × (count ≤ max_filler)

-- The octets are those that the state describes, in order, and `text` is the text in them.
abbrev pub MatchesState : List ℕ → List ℕ → Place → Type 0
MatchesState octets text (Filler count) = IsFiller octets × (length octets ≡ count) × (text ≡ [])
MatchesState octets text (InHeader part t) = (before : List ℕ) × IsFiller before × (octets ≡ before ++ (soh ∷ so_far part t)) × (text ≡ [])
MatchesState octets text (Info h) = (before : List ℕ) × IsFiller before
    × (octets ≡ before ++ (soh ∷ (fixed_header h ++ (sp ∷ h.info)))) × (text ≡ [])
MatchesState octets text (Gap h count feed) = (before : List ℕ) × (info : List ℕ) × (gap : List ℕ) × IsFiller before × EncodesInfo h.info info
    × Are is_filler_octet gap × (length gap ≡ count) × (has_feed gap ≡ feed)
    × (octets ≡ before ++ (soh ∷ (fixed_header h ++ (info ++ gap)))) × (text ≡ [])
MatchesState octets text (Text h reader) = (before : List ℕ) × (info : List ℕ) × (gap : List ℕ) × IsFiller before × EncodesInfo h.info info
    × IsGap gap × Are is_text_octet text
    × (octets ≡ before ++ (soh ∷ (fixed_header h ++ (info ++ (gap ++ (stx ∷ text))))))
MatchesState octets text (Trailer h t) = (before : List ℕ) × (info : List ℕ) × (gap : List ℕ) × IsFiller before × EncodesInfo h.info info
    × IsGap gap × Are is_text_octet text
    × (octets ≡ before ++ (soh ∷ (fixed_header h ++ (info ++ (gap ++ (stx ∷ (text ++ (etx ∷ t.items))))))))
MatchesState octets text (AfterEnd h t count) = (message : IsMessage octets h text t.items) × (length message.after ≡ count)

-- The text so far is a viable prefix of a story: a reader of the text has consumed it, and after
-- ETX the text is complete.
abbrev pub IsStoryState : List ℕ → Place → Type 0
IsStoryState text (Text h reader) = story.TextReaderHasRead reader text
IsStoryState text (Trailer h t) = HasLines text
IsStoryState text (AfterEnd h t count) = HasLines text
IsStoryState text _ = text ≡ []

-- The octets so far, which contain this text, reach the state.
pub record ReachesMessageState (octets text : List ℕ) (place : Place) : Type 0 where
  pub is_place : IsMessageState place
  pub spelled : MatchesState octets text place
  pub story : IsStoryState text place

-- ---- The state of a reader of messages, and why the reader rejects an octet.

-- The reader has consumed these octets, which contain this text.
abbrev pub MessageReaderHasRead : Option Place → List ℕ → List ℕ → Type 0
MessageReaderHasRead reader octets text = (place : Place) × (reader ≡ Some place) × ReachesMessageState octets text place

-- From the state after any octets, the chunk moves the reader to the new state, and adds this text.
abbrev pub ChunkAdvancesMessage : Option Place → List ℕ → List ℕ → Option Place → Type 0
ChunkAdvancesMessage old piece more new = (octets text : List ℕ) → MessageReaderHasRead old octets text → MessageReaderHasRead new (octets ++ piece) (text ++ more)

-- From the state after any octets, the chunk reaches some state, and adds this text.
abbrev pub ReachesSomeState : Option Place → List ℕ → List ℕ → Type 0
ReachesSomeState old piece more = (octets text : List ℕ) → MessageReaderHasRead old octets text
    → (place : Place) × ReachesMessageState (octets ++ piece) (text ++ more) place

-- The sink received exactly the events that are delivered for the text that the chunk adds.
abbrev pub PassesStoryToSink : {S : Type 0} → (S → List StoryEvent → S → Type 0) → S → Option Place → List ℕ → Option Place → S → Type 0
PassesStoryToSink goes before old piece new after = (more : List ℕ) × goes before (delivered more) after × ChunkAdvancesMessage old piece more new

-- The sink received exactly the events that are delivered for the text that the octets before a
-- rejected one add.
abbrev pub PassesPrefixToSink : {S : Type 0} → (S → List StoryEvent → S → Type 0) → S → Option Place → List ℕ → S → Type 0
PassesPrefixToSink goes before old piece after = (more : List ℕ) × goes before (delivered more) after × ReachesSomeState old piece more

-- After any octets so far, these octets and the chunk are a viable prefix of a message, and their
-- text is a viable prefix of a story.
abbrev pub IsViableWithChunk : Option Place → List ℕ → Type 0
IsViableWithChunk old piece = (octets text : List ℕ) → MessageReaderHasRead old octets text → IsViableMessage (octets ++ piece) × HasViableStory (octets ++ piece)

-- After any octets so far, the octet of the chunk at the index `taken` is rejected for that cause.
abbrev pub RejectsMessageOctet : Option Place → List ℕ → MessageFault → Type 0
RejectsMessageOctet old piece fault = (octets text : List ℕ) → MessageReaderHasRead old octets text →
    HasMessageCause fault.cause (octets ++ take fault.taken piece) (slice_index piece fault.taken)

-- The sink's count of failures increased if and only if the sink rejected the octet.
abbrev pub SinkCountsMessageCause : ℕ → ℕ → MessageCause → Type 0
SinkCountsMessageCause old new Sink = CounterRose old new
SinkCountsMessageCause old new _ = new ≡ old

-- ---- The results of calls.

-- All octets of a chunk were consumed. The octets so far are a viable prefix of a message, and
-- their text is a viable prefix of a story. The sink received exactly the events that are delivered
-- for the text that the chunk adds, and did not stop.
pub record MessageReaderConsumes {S : Type 0} (goes : S → List StoryEvent → S → Type 0) (failures : S → ℕ) (old : Option Place) (piece : List ℕ) (new : Option Place) (a b : S) : Type 0 where
  pub lives : IsViableWithChunk old piece
  pub told : PassesStoryToSink goes a old piece new b
  pub no_failure : failures b ≡ failures a

-- An octet of a chunk was rejected, for its cause. The octets before it are a viable prefix of a
-- message, and their text is a viable prefix of a story, and the sink received exactly the events
-- that are delivered for that text. The sink's count of failures increased if the sink rejected the
-- octet.
pub record MessageReaderRejects {S : Type 0} (goes : S → List StoryEvent → S → Type 0) (failures : S → ℕ) (old : Option Place) (piece : List ℕ) (fault : MessageFault) (a b : S) : Type 0 where
  pub before : fault.taken < length piece
  pub lives : IsViableWithChunk old (take fault.taken piece)
  pub refused : RejectsMessageOctet old piece fault
  pub told : PassesPrefixToSink goes a old (take fault.taken piece) b
  pub counted : SinkCountsMessageCause (failures a) (failures b) fault.cause

-- ---- The values that a reader returns.

-- the header, after STX was received
abbrev pub head_read : Option Place → Option Header
head_read (Some (Text h reader)) = Some h
head_read (Some (Trailer h t)) = Some h
head_read (Some (AfterEnd h t count)) = Some h
head_read _ = None

-- the trailer so far, which is empty before ETX
abbrev pub trailer_read : Option Place → List ℕ
trailer_read (Some (Trailer h t)) = t.items
trailer_read (Some (AfterEnd h t count)) = t.items
trailer_read _ = []

-- whether EOT was received
abbrev pub is_ended : Option Place → Bool
is_ended (Some (AfterEnd h t count)) = true
is_ended _ = false

-- The octets are a message with a text, and with the header and the trailer that were received.
abbrev pub IsCompleteMessage : Option Place → Type 0
IsCompleteMessage reader = (octets text : List ℕ) → MessageReaderHasRead reader octets text
    → (head : Header) × (head_read reader ≡ Some head) × IsMessage octets head text (trailer_read reader) × HasLines text

-- ---- The saved state of a reader of messages.

-- a saved state: a part, its counter and flag, and the octets of source, number, priority,
-- category, words, info and trailer
abbrev pub place_from : MessagePart → ℕ → ℕ → List ℕ → List ℕ → List ℕ → List ℕ → List ℕ → List ℕ → List ℕ → MessagePlace
place_from part counter flag source number priority category words info trailer = record {
  part = part;
  counter = counter;
  flag = flag;
  source = record { items = source };
  number = record { items = number };
  priority = record { items = priority };
  category = record { items = category };
  words = record { items = words };
  info = record { items = info };
  trailer = record { items = trailer };
}

-- a saved state with the parts of a header: a part, its counter and flag, the header, and the
-- trailer
abbrev pub place_with_header : MessagePart → ℕ → ℕ → Header → List ℕ → MessagePlace
place_with_header part counter flag h trailer = place_from part counter flag h.source h.number h.priority h.category h.words h.info trailer

-- the saved form of a part of the header, in which the priority before its digit differs from the
-- priority after it
abbrev pub saved_part : HeaderPart → List ℕ → MessagePart
saved_part Source _ = part.Source
saved_part Number _ = part.Number
saved_part Priority [] = part.Priority
saved_part Priority (b ∷ bs) = part.PriorityRead
saved_part Category _ = part.Category
saved_part Words _ = part.Words

-- the saved form of a state, in which the parts after the one in progress are empty
abbrev pub saved : Place → MessagePlace
saved (Filler count) = place_from part.Filler count 0 [] [] [] [] [] [] []
saved (InHeader at t) = place_from (saved_part at t.priority.items) 0 0 t.source.items t.number.items t.priority.items t.category.items t.words.items [] []
saved (Info h) = place_with_header part.Info 0 0 h []
saved (Gap h count feed) = place_with_header part.Gap count (if feed then 1 else 0) h []
saved (Text h (Some held)) = place_with_header part.Text 0 held h []
saved (Text h None) = place_with_header part.Text 0 0 h []
saved (Trailer h t) = place_with_header part.Trailer 0 0 h t.items
saved (AfterEnd h t count) = place_with_header part.AfterEnd count 0 h t.items

-- The octets so far, which contain this text, reach the state with this saved form.
abbrev pub ReachesSavedState : List ℕ → List ℕ → MessagePlace → Type 0
ReachesSavedState octets text place = (at : Place) × ReachesMessageState octets text at × (saved at ≡ place)

-- The reader is in the state with this saved form.
abbrev pub ReaderHasSavedState : Option Place → MessagePlace → Type 0
ReaderHasSavedState reader place = (at : Place) × (reader ≡ Some at) × (saved at ≡ place)

-- Some octets of length `count` reach the state of the reader.
abbrev pub IsReachedByLength : Option Place → ℕ → Type 0
IsReachedByLength reader count = (octets : List ℕ) × (text : List ℕ) × MessageReaderHasRead reader octets text × (length octets ≡ count)

-- The number is at least the minimum and, if there is a maximum, at most the maximum.
abbrev pub IsPossibleLength : ℕ → Option ℕ → ℕ → Type 0
IsPossibleLength least greatest count = (least ≤ count) × IfSome greatest (λ most. count ≤ most)

-- the length of SOH and the parts up to the words, including the SP between them
abbrev pub fixed_octets : Header → ℕ
fixed_octets h = 1 + length (fixed_header h)

-- the minimum length from SOH to STX: an empty info has no SP, and the gap is a single LF
abbrev pub least_head : Header → ℕ
least_head h = fixed_octets h + length (packed_info h.info) + 2

-- The minimum length of octets that reach a state: there is no filler before SOH; an empty info has
-- no SP if the gap has begun; the gap is a single LF if it has ended; and the text consists of the
-- pending CR.
abbrev pub least_of : Place → ℕ
least_of (Filler count) = count
least_of (InHeader part t) = 1 + length (so_far part t)
least_of (Info h) = fixed_octets h + 1 + length h.info
least_of (Gap h count feed) = fixed_octets h + length (packed_info h.info) + count
least_of (Text h (Some held)) = least_head h + held
least_of (Text h None) = least_head h
least_of (Trailer h t) = least_head h + 1 + length t.items
least_of (AfterEnd h t count) = least_head h + 2 + length t.items + count

-- The maximum length of octets that reach a state: there are 32 octets of filler before SOH, and in
-- the gap an empty info has its SP. From STX on there is no maximum, since the text may have any
-- length.
abbrev pub greatest_of : Place → Option ℕ
greatest_of (Filler count) = Some count
greatest_of (Gap h count feed) = Some (max_filler + (fixed_octets h + 1 + length h.info + count))
greatest_of (Text h reader) = None
greatest_of (Trailer h t) = None
greatest_of (AfterEnd h t count) = None
greatest_of place = Some (max_filler + least_of place)
