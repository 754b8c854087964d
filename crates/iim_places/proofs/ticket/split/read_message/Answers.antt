use Rattle.std.proofs.Common.{arith}
use Rattle.iim_places.proofs.Splitting.{cut, seven, ending}
use Rattle.iim_places.proofs.ticket.split.read_message.Goals as goal

pub returns-in_err-texts-clause-none : goal.returns-in_err-texts-clause-none
returns-in_err-texts-clause-none c = grind (arith, cut, seven, ending)

pub returns-then-not-is_empty-clause-none : goal.returns-then-not-is_empty-clause-none
returns-then-not-is_empty-clause-none c = grind (arith, cut, seven, ending)
