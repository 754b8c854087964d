use Rattle.std.proofs.Common.{◌≡◌, ◌-◌, ◌≤◌, length, take, None}
use Rattle.iim_dataset.specs.States.Reading.{PassesToSink, between}
use Rattle.iim_dataset.proofs.piece.consume_whole_datasets.Given as goal

-- The octets so far are complete datasets, which the sink received.
abbrev pub invariant-loop-head : goal.invariant-loop-head
invariant-loop-head g l = record {
  within : l.at ≤ length l.rest;
  told : PassesToSink g.D.DatasetSink.goes between (take l.at l.rest) between l.initial.sink l.sink;
  stands : g.D.DatasetSink.stands l.sink None;
  none : l.at ≡ 0 → l.sink ≡ l.initial.sink;
}

abbrev pub decreases-loop-head : goal.decreases-loop-head
decreases-loop-head g l = length l.rest - l.at
