use Rattle.iim_fields.specs.States.Standing.{IsBetweenDatasets}
use Rattle.vectors.proofs.records.pass_datasets.Given as goal

abbrev pub invariant-loop : goal.invariant-loop
invariant-loop l = IsBetweenDatasets l.fields
