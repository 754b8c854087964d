use Rattle.std.proofs.Common.{arith}
use Rattle.iim_dataset.proofs.Canonical.{inside}
use Rattle.iim_dataset.proofs.place.has_data_remaining.Goals as goal

pub returns-then-left-gt0 : goal.returns-then-left-gt0
returns-then-left-gt0 c = grind (arith, inside)
