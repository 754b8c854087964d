use Rattle.std.proofs.Common.{◌≡◌, ◌≤◌, ◌+◌, ◌-◌, length, take, map}
use Rattle.std.specs.List.{slice_range}
use Rattle.std.specs.Simd.Lanes.{mask_l}
use Rattle.wire_story.specs.{Format.Texts.IsLine, Steps.is_low}
use Rattle.wire_story.proofs.marks.next_marks.Given as goal

-- The octets so far lie in one line.
abbrev pub invariant-loop-mask : goal.invariant-loop-mask
invariant-loop-mask l = record {
  later : l.from ≤ l.at;
  room : l.at + 16 ≤ length l.octets;
  line : IsLine (take l.at l.octets);
  mask : l.mask ≡ mask_l (map is_low (take 16 (slice_range l.octets l.at (length l.octets))));
}

abbrev pub decreases-loop-mask : goal.decreases-loop-mask
decreases-loop-mask l = length l.octets - l.at
