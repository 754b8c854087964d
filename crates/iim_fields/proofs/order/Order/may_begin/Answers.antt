use Rattle.std.proofs.Common.{arith}
use Rattle.iim_fields.proofs.Table.{mandatory_is}
use Rattle.iim_fields.proofs.order.Order.may_begin.Goals as goal

pub returns-in-0 : goal.returns-in-0
returns-in-0 c = grind (arith, mandatory_is)
