use Rattle.std.proofs.Common.{arith}
use Rattle.iim_object.proofs.Steps.{starts}
use Rattle.iim_object.proofs.reading.reader.ObjectReader.new.Goals as goal

pub returns-clause-stands : goal.returns-clause-stands
returns-clause-stands c = grind (arith, starts)
