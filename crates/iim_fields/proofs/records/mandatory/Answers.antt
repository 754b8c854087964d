use Rattle.std.proofs.Common.{arith}
use Rattle.iim_fields.proofs.Table.{mandatory_is}
use Rattle.iim_fields.proofs.records.mandatory.Goals as goal

pub returns-in-1 : goal.returns-in-1
returns-in-1 c = grind (arith, mandatory_is)

pub returns-in-2 : goal.returns-in-2
returns-in-2 c = grind (arith, mandatory_is)

pub returns-in-7 : goal.returns-in-7
returns-in-7 c = grind (arith, mandatory_is)

pub returns-in-8 : goal.returns-in-8
returns-in-8 c = grind (arith, mandatory_is)

pub returns-in_default : goal.returns-in_default
returns-in_default c = grind (arith, mandatory_is)
