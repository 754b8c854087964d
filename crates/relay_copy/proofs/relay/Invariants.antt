use Rattle.std.proofs.Common.{◌≡◌, None}
use Rattle.relay_copy.proofs.relay.Given as goal

abbrev pub invariant-receiving : goal.invariant-receiving
invariant-receiving g l = l.intake.failed ≡ None
