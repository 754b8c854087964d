use Rattle.iim_fields.specs.States.Standing.{IsBetweenDatasets}
use Rattle.envelope_tests.proofs.memory.records.fields.Given as goal

abbrev pub invariant-loop-rec : goal.invariant-loop-rec
invariant-loop-rec l = IsBetweenDatasets l.fields
