use Rattle.std.proofs.Common.{◌+◌, ◌≤◌}
use Rattle.iim_dataset.specs.States.Devices.{CountedInterruptions}
use Rattle.iim_dataset.proofs.source.take.Given as goal

abbrev pub invariant-loop : goal.invariant-loop
invariant-loop g l = record {
  interrupted : CountedInterruptions l.counter (g.R.Source.state l.fn.reader) (g.R.Source.state l.reader);
  retry_limit : (g.R.Source.state l.reader).interruptions ≤ (g.R.Source.state l.fn.reader).interruptions + l.counter;
  leads : g.R.Source.leads l.fn.reader l.reader;
}
