use Rattle.std.proofs.Common.{arith}
use Rattle.iim_fields.proofs.Table.{no_application_fault}
use Rattle.iim_fields.proofs.order.no_application.Goals as goal

pub returns : goal.returns
returns c = grind (arith, no_application_fault)
