use Rattle.std.proofs.Common.{arith}
use Rattle.iim_dataset.proofs.Fronts.{begun_none}
use Rattle.iim_dataset.proofs.piece.start.Goals as goal

pub returns-clause-is_place : goal.returns-clause-is_place
returns-clause-is_place c = grind (arith, begun_none)
