use Rattle.std.proofs.Common.{arith}
use Rattle.iim_unpack.proofs.Intakes.{passes, fits}
use Rattle.iim_unpack.proofs.intake.block.Block.pass.Goals as goal

pub returns : goal.returns
returns c = grind (arith, passes, fits)
