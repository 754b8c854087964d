use Rattle.std.proofs.Common.{arith}
use Rattle.iim_pack.proofs.Orders.{text_order}
use Rattle.iim_pack.proofs.packer.Packer.text.Goals as goal

pub returns-then-is_failed-clause-order : goal.returns-then-is_failed-clause-order
returns-then-is_failed-clause-order g c = grind (arith, text_order)

pub returns-then-not-is_text-clause-order : goal.returns-then-not-is_text-clause-order
returns-then-not-is_text-clause-order g c = grind (arith, text_order)
