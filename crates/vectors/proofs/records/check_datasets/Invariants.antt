use Rattle.iim_fields.specs.States.Standing.{AcceptsHead}
use Rattle.vectors.proofs.records.check_datasets.Given as goal

abbrev pub invariant-loop : goal.invariant-loop
invariant-loop l = AcceptsHead l.records
