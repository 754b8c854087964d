use Rattle.std.proofs.Common.{[], refl, arith}
use Rattle.wire_story.proofs.reader.TextReader.new.Goals as goal

pub returns-clause-stands : goal.returns-clause-stands
returns-clause-stands c = (0, refl, ([], [], (refl, omega arith, refl)))
