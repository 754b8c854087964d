-- The parts of a packed envelope, in the order in which they are written. (Private to proofs.)
use Rattle.std.specs.Prelude.{ℕ, Bool, true, false, List, ◌∷◌, map, ◌≡◌, length}
use Rattle.wire_story.specs.Format.Texts.{StoryEvent, LineOctet, LineEnd}
use Rattle.iim_dataset.specs.States.Devices.{Device, WroteAllOf, WithinInterruptionLimit}
use Rattle.iim_object.specs.{States.Writing.Writing, declared.plan.Plan.Plan}
use Rattle.iim_object.specs.States.Writing as object

-- The events of a line, if lines are packed one after another: each line but the first is preceded
-- by a line end.
abbrev pub line_events : Bool → List ℕ → List StoryEvent
line_events true line = map LineOctet line
line_events false line = LineEnd ∷ map LineOctet line

-- The object begins with these octets. At most a million interruptions occurred for each octet
-- written.
pub record OpensObject {W : Type 0} (state : W → Device) (writer : W) (plan : Plan) (front : List ℕ) (w : Writing W) : Type 0 where
  pub out : List ℕ
  pub wrote : WroteAllOf (state writer) (state w.writer) out
  pub retry_limit : WithinInterruptionLimit (length out) (state writer) (state w.writer)
  pub is_plan : w.plan ≡ plan
  pub stands : object.HasWritten w front out
