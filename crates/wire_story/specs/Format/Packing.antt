-- The packed form of events, and the lines that events form.
use Rattle.std.specs.Prelude.{◌≡◌, ℕ, List, [], ◌∷◌, flat_map, IsTrue}
use Rattle.std.specs.List.{AllByRecursion}
use Rattle.wire_story.specs.Format.Texts.{is_line_octet, line_end, packed_text, LinesMakeText, StoryEvent, LineOctet, LineEnd}
use Rattle.wire_story.specs.States.Reading.{collect}

-- the packed form of an event: an octet of a line as itself, and the end of a line as CR LF
abbrev pub packed_event : StoryEvent → List ℕ
packed_event (LineOctet b) = b ∷ []
packed_event LineEnd = line_end 1

-- the octets that a packer writes for a text that is passed as these events
abbrev pub packed_events : List StoryEvent → List ℕ
packed_events events = flat_map packed_event events

-- the octet is allowed in a line
abbrev pub IsStoryEvent : StoryEvent → Type 0
IsStoryEvent (LineOctet b) = IsTrue (is_line_octet b)
IsStoryEvent LineEnd = Unit {0}

abbrev pub AreStoryEvents : List StoryEvent → Type 0
AreStoryEvents events = AllByRecursion IsStoryEvent events

-- the lines that events form
abbrev pub lines_of : List StoryEvent → List (List ℕ)
lines_of events = collect ([] ∷ []) events

-- The packed form of events is that of their lines, and these make a text.
pub record IsPackedAsLines (events : List StoryEvent) : Type 0 where
  pub text : packed_text (lines_of events) ≡ packed_events events
  pub make : LinesMakeText (lines_of events)
