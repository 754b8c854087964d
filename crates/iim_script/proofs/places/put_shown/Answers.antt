use Rattle.std.proofs.Common.{arith}
use Rattle.iim_script.proofs.Put.{all_unescaped}
use Rattle.iim_script.proofs.places.put_shown.Goals as goal

pub returns-then-are_plain-clause-written : goal.returns-then-are_plain-clause-written
returns-then-are_plain-clause-written c = grind (arith, all_unescaped)
