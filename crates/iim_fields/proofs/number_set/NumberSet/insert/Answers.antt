use Rattle.std.proofs.Common.{arith}
use Rattle.iim_fields.proofs.NumberSets.{bit_added}
use Rattle.iim_fields.proofs.number_set.NumberSet.insert.Goals as goal

pub returns : goal.returns
returns c = grind (arith, bit_added)
