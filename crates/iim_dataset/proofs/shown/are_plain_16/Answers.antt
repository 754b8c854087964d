use Rattle.std.proofs.Common.{arith}
use Rattle.iim_dataset.proofs.PlainLanes.{plain_first}
use Rattle.iim_dataset.proofs.shown.are_plain_16.Goals as goal

pub returns : goal.returns
returns c = grind (arith, plain_first)
