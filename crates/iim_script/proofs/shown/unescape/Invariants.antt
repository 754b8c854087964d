use Rattle.std.proofs.Common.{length}
use Rattle.iim_script.proofs.Texts.{Onto}
use Rattle.iim_script.proofs.shown.unescape.Given as goal

abbrev pub invariant-loop-rest : goal.invariant-loop-rest
invariant-loop-rest l = Onto l.shown l.octets.items l.rest

abbrev pub decreases-loop-rest : goal.decreases-loop-rest
decreases-loop-rest l = length l.rest
