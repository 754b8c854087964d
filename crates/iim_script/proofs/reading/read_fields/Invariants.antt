use Rattle.iim_script.proofs.Words.{◌≡◌, ◌+◌, ◌≤◌, length, ReachesStage, InFields}
use Rattle.iim_script.proofs.reading.read_fields.Given as goal

abbrev pub invariant-loop-line : goal.invariant-loop-line
invariant-loop-line l = record {
  same : l.builder.limits ≡ l.fn.builder.limits;
  stands : ReachesStage l.fn.builder.limits l.script (InFields l.builder.fields) l.rest.0.now l.rest.1.0;
  short : l.rest.1.0 + length l.rest.0.now ≤ 16777216;
}

abbrev pub decreases-loop-line : goal.decreases-loop-line
decreases-loop-line l = length l.rest.0.now
