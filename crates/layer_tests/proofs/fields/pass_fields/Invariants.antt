use Rattle.iim_fields.specs.States.Standing.{IsBetweenDatasets}
use Rattle.layer_tests.proofs.fields.pass_fields.Given as goal

abbrev pub invariant-loop-rec : goal.invariant-loop-rec
invariant-loop-rec l = IsBetweenDatasets l.fields
