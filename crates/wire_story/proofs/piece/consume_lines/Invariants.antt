use Rattle.std.proofs.Common.{◌≤◌, ◌-◌, take, drop, length, Some}
use Rattle.wire_story.specs.{States.Reading.TextReaderConsumes, Steps.MaskCovers}
use Rattle.wire_story.proofs.piece.consume_lines.Given as goal

-- The lines so far were consumed.
abbrev pub invariant-loop-sink : goal.invariant-loop-sink
invariant-loop-sink g l = record {
  within : l.at ≤ length l.rest;
  marks : MaskCovers (drop l.at l.rest) l.here;
  taken : TextReaderConsumes g.S.StorySink.goes g.S.StorySink.failures (Some 0) (take l.at l.rest) (Some 0) l.initial.sink l.sink;
}

abbrev pub decreases-loop-sink : goal.decreases-loop-sink
decreases-loop-sink g l = length l.rest - l.at
