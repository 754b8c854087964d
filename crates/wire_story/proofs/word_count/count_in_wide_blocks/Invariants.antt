use Rattle.std.proofs.Common.{◌≡◌, ◌≤◌, ◌+◌, ◌-◌, ◌==◌, length, take}
use Rattle.wire_story.specs.{Format.Texts.words_begun, Steps.outside_after}
use Rattle.wire_story.proofs.word_count.count_in_wide_blocks.Given as goal

-- The words that begin in the octets so far were counted, and whether they end inside one is
-- stored.
abbrev pub invariant-loop-at : goal.invariant-loop-at
invariant-loop-at l = record {
  room : l.at + 32 ≤ length l.octets;
  one : l.after ≤ 1;
  begun : l.begun ≡ words_begun (l.before == 0) (take l.at l.octets);
  last : l.after ≡ outside_after (l.before == 0) (take l.at l.octets);
}

abbrev pub decreases-loop-at : goal.decreases-loop-at
decreases-loop-at l = length l.octets - l.at
