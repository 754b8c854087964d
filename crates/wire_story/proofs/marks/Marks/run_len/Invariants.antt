use Rattle.std.proofs.Common.{◌+◌, ◌-◌, ◌*◌, length}
use Rattle.wire_story.proofs.Marked.{IsUnmarkedTo}
use Rattle.wire_story.proofs.marks.Marks.run_len.Given as goal

abbrev pub invariant-loop-left : goal.invariant-loop-left
invariant-loop-left l = IsUnmarkedTo l.octets l.at l.left

abbrev pub decreases-loop-left : goal.decreases-loop-left
decreases-loop-left l = 2 * (length l.octets - l.at) + (2 - l.left)
