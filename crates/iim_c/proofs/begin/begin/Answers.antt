use Rattle.std.proofs.Common.{arith}
use Rattle.iim_c.proofs.Places.{begun_none}
use Rattle.iim_c.proofs.begin.begin.Goals as goal

pub returns-in-Ok-clause-begun : goal.returns-in-Ok-clause-begun
returns-in-Ok-clause-begun c = grind (arith, begun_none)
