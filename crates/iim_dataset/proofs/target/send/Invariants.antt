use Rattle.std.proofs.Common.{◌+◌, ◌≤◌}
use Rattle.iim_dataset.specs.States.Devices.{CountedInterruptions}
use Rattle.iim_dataset.proofs.target.send.Given as goal

abbrev pub invariant-loop : goal.invariant-loop
invariant-loop g l = record {
  interrupted : CountedInterruptions l.counter (g.W.Target.state l.fn.writer) (g.W.Target.state l.writer);
  retry_limit : (g.W.Target.state l.writer).interruptions ≤ (g.W.Target.state l.fn.writer).interruptions + l.counter;
}
