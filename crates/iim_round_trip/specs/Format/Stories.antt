-- Unpacking a story and collecting its lines.
use Rattle.std.specs.Prelude.{◌≡◌, ℕ, List, length, Result, Ok, Err}
use Rattle.wire_story.specs.Format.Texts.{StoryEvent}
use Rattle.iim_unpack.specs.Format.Pieces.{HasParts}
use Rattle.iim_places.specs.Format.Streams.{Answer, Finished, IsFinished}
use Rattle.iim_round_trip.specs.Format.RoundTrip.{packed_value, BeginsWithPacked, RepresentsUnpackResult, UnpackFault, Limits, Value}
use Rattle.iim_round_trip.specs.declared.unpacking.Story.{Story}

-- The story has all parts of the value, including the lines and the sizes, and `used` octets were
-- consumed.
pub record IsCollectedStory (value : Value) (used : ℕ) (got : Story) : Type 0 where
  pub used_is : got.used ≡ used
  pub parts : HasParts got.unpacked value
  pub lines_are : got.lines.lines ≡ value.lines

-- If the stream begins with a packed form within the limits, then this is its story, from exactly
-- the octets of that form.
abbrev pub ReturnsPackedStory : Limits → List ℕ → Story → Type 0
ReturnsPackedStory limits stream got = (p : BeginsWithPacked limits stream)
    → IsCollectedStory (packed_value p.fields p.head p.lines p.trailer p.plan p.packed.written.parts) (length p.octets) got

-- ---- any stream

-- The stream begins with an envelope, and this is the story of that envelope.
pub record IsStoryOfStream (limits : Limits) (stream : List ℕ) (got : Story) : Type 0 where
  pub value : Value
  pub finished : IsFinished limits stream got.used value
  pub story : IsCollectedStory value got.used got

-- Nothing is required of the lines that were collected before a refusal, since they are dropped.
abbrev pub dropped_events : Unit {0} → List StoryEvent → Unit {0} → Type 0
dropped_events before events after = Unit {0}

-- The returned value represents the result of the stream.
abbrev pub RepresentsStoryResult : Result Story UnpackFault → Answer → Type 0
RepresentsStoryResult (Ok got) (Finished used value) = IsCollectedStory value used got
RepresentsStoryResult (Ok got) answer = ⊥
RepresentsStoryResult (Err fault) answer = RepresentsUnpackResult (Err fault) answer
