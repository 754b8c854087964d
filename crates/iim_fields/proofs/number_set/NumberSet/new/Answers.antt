use Rattle.std.proofs.Common.{arith}
use Rattle.iim_fields.proofs.NumberSets.{no_members}
use Rattle.iim_fields.proofs.number_set.NumberSet.new.Goals as goal

pub returns : goal.returns
returns c = grind (arith, no_members)
