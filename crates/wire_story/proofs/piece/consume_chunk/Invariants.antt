use Rattle.std.proofs.Common.{◌≤◌, ◌-◌, take, drop, length, Some}
use Rattle.wire_story.specs.{States.Reading.TextReaderConsumes, Steps.MaskCovers}
use Rattle.wire_story.proofs.piece.consume_chunk.Given as goal

-- The octets so far were consumed.
abbrev pub invariant-loop-at : goal.invariant-loop-at
invariant-loop-at g l = record {
  few : l.now ≤ 2;
  within : l.at ≤ length l.piece;
  marks : MaskCovers (drop l.at l.piece) l.marks;
  taken : TextReaderConsumes g.S.StorySink.goes g.S.StorySink.failures (Some l.held) (take l.at l.piece) (Some l.now) l.initial.sink l.sink;
}

abbrev pub decreases-loop-at : goal.decreases-loop-at
decreases-loop-at g l = length l.piece - l.at
