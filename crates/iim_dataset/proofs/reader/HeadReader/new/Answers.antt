use Rattle.std.proofs.Common.{arith}
use Rattle.iim_dataset.proofs.Places.{begins}
use Rattle.iim_dataset.proofs.reader.HeadReader.new.Goals as goal

pub returns-clause-stands : goal.returns-clause-stands
returns-clause-stands c = grind (arith, begins)
