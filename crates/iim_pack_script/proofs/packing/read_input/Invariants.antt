use Rattle.iim_pack_script.proofs.Words.{◌≤◌, ◌+◌, ◌-◌, length, ReadsGave, max_script}
use Rattle.iim_pack_script.proofs.packing.read_input.Given as goal

abbrev pub invariant-loop-block : goal.invariant-loop-block
invariant-loop-block g l = record {
  given : ReadsGave (g.R.Source.state l.fn.reader) (g.R.Source.state l.reader) l.script.items;
  few : length l.script.items ≤ max_script + 1;
  leads : g.R.Source.leads l.fn.reader l.reader;
}

abbrev pub decreases-loop-block : goal.decreases-loop-block
decreases-loop-block g l = 16777217 - length l.script.items
