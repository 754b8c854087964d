use Rattle.std.proofs.Common.{◌≤◌, ◌-◌, length, take}
use Rattle.wire_story.specs.Format.Texts.{IsLine}
use Rattle.wire_story.proofs.marks.tail_len.Given as goal

abbrev pub invariant-loop-at : goal.invariant-loop-at
invariant-loop-at l = (l.at ≤ length l.octets) × IsLine (take l.at l.octets)

abbrev pub decreases-loop-at : goal.decreases-loop-at
decreases-loop-at l = length l.octets - l.at
