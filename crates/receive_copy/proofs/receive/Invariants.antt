use Rattle.std.proofs.Common.{◌≡◌, None}
use Rattle.receive_copy.proofs.receive.Given as goal

abbrev pub invariant-receiving : goal.invariant-receiving
invariant-receiving g l = l.intake.failed ≡ None
