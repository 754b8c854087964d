use Rattle.std.proofs.Common.{◌+◌, ◌*◌, ◌≤◌, length}
use Rattle.iim_script.proofs.Stories.{StoryStands}
use Rattle.iim_script.proofs.story.text_by_lines.Given as goal

abbrev pub invariant-loop-line : goal.invariant-loop-line
invariant-loop-line l = record {
  stands : StoryStands l.story.octets.now l.story.lines l.rest.0.now l.rest.1.0 l.packed_len;
  short : l.rest.1.0 + length l.rest.0.now ≤ 16777216;
  within : length l.rest.0.now ≤ length l.story.octets.now;
  small : l.packed_len + 2 * length l.rest.0.now ≤ 33554432;
}

abbrev pub decreases-loop-line : goal.decreases-loop-line
decreases-loop-line l = length l.rest.0.now
