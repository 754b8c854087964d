use Rattle.std.proofs.Common.{IsSome}
use Rattle.layer_tests.proofs.stories.read_by_octets.Given as goal

abbrev pub invariant-loop-octet : goal.invariant-loop-octet
invariant-loop-octet g l = IsSome l.reader
