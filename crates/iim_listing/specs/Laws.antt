-- The output of `story`: the text of each envelope in the output, and the lines of `check` in the
-- error output.
use Rattle.std.specs.Prelude.{◌≡◌, ℕ, List}
use Rattle.wire_story.specs.Format.Texts.{StoryEvent, events_of_lines}
use Rattle.iim_places.specs.Format.Admitted.{Value, Admits}
use Rattle.iim_listing.specs.Format.{EventsAreDelivered}

-- The text that is delivered for an envelope consists of the lines of its story, joined by LF.
abbrev pub EnvelopesAreDeliveredAsLines : Type 0
EnvelopesAreDeliveredAsLines = (octets : List ℕ) (v : Value) (more : List StoryEvent) → Admits octets v → EventsAreDelivered octets more → more ≡ events_of_lines v.lines
