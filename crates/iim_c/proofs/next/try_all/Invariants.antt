use Rattle.iim_c.proofs.Tried.{BitsAreAcceptance}
use Rattle.iim_c.proofs.next.try_all.Given as goal

abbrev pub invariant-loop-next : goal.invariant-loop-next
invariant-loop-next l = BitsAreAcceptance l.limits l.ticket l.next l.bits
