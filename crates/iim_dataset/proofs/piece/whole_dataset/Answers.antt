use Rattle.std.proofs.Common.{arith}
use Rattle.iim_dataset.proofs.Stopping.{standard_front}
use Rattle.iim_dataset.proofs.piece.whole_dataset.Goals as goal

pub returns-else-after-count : goal.returns-else-after-count
returns-else-after-count c = grind (arith, standard_front)
