use Rattle.std.proofs.Common.{◌-◌, ◌≤◌, length, take}
use Rattle.iim_dataset.specs.States.Reading.{IsDatasetState, PassesToSink, to_come}
use Rattle.iim_dataset.proofs.piece.consume_chunk.Given as goal

-- The octets so far reach this state, and the sink received what they completed.
abbrev pub invariant-loop-at : goal.invariant-loop-at
invariant-loop-at g l = record {
  is_place : IsDatasetState l.now;
  within : l.at ≤ length l.octets;
  told : PassesToSink g.D.DatasetSink.goes l.fn.place (take l.at l.octets) l.now l.initial.sink l.sink;
  stands : g.D.DatasetSink.stands l.sink (to_come l.now);
}

abbrev pub decreases-loop-at : goal.decreases-loop-at
decreases-loop-at g l = length l.octets - l.at
