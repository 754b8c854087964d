use Rattle.std.proofs.Common.{arith}
use Rattle.iim_tables.proofs.LaneLemmas.{all_spaced}
use Rattle.iim_tables.proofs.kinds.are_spaced.Goals as goal

pub returns : goal.returns
returns c = grind (arith, all_spaced)
