use Rattle.std.proofs.Common.{IsSome}
use Rattle.layer_tests.proofs.messages.read.Given as goal

abbrev pub invariant-loop-at : goal.invariant-loop-at
invariant-loop-at g l = IsSome l.reader
