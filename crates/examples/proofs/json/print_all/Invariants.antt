use Rattle.std.proofs.Common.{◌≡◌, None}
use Rattle.examples.proofs.json.print_all.Given as goal

abbrev pub invariant-receiving : goal.invariant-receiving
invariant-receiving g l = l.intake.failed ≡ None
