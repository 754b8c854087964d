use Rattle.std.proofs.Common.{arith}
use Rattle.iim_tables.proofs.LaneLemmas.{all_graphic}
use Rattle.iim_tables.proofs.kinds.are_graphic.Goals as goal

pub returns : goal.returns
returns c = grind (arith, all_graphic)
