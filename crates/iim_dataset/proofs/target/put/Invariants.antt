use Rattle.std.proofs.Common.{length, take, ◌-◌, ◌≤◌}
use Rattle.iim_dataset.specs.States.Devices.{WroteAllOf, WithinInterruptionLimit}
use Rattle.iim_dataset.proofs.target.put.Given as goal

abbrev pub invariant-loop-at : goal.invariant-loop-at
invariant-loop-at g l = record {
  within : l.at ≤ length l.piece;
  out : WroteAllOf (g.W.Target.state l.fn.writer) (g.W.Target.state l.writer) (take l.at l.piece);
  retry_limit : WithinInterruptionLimit l.at (g.W.Target.state l.fn.writer) (g.W.Target.state l.writer);
}

abbrev pub decreases-loop-at : goal.decreases-loop-at
decreases-loop-at g l = length l.piece - l.at
