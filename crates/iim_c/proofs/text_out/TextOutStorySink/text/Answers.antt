use Rattle.std.proofs.Common.{arith}
use Rattle.wire_story.specs.Steps.{octets_of_line}
use Rattle.iim_c.proofs.text_out.TextOutStorySink.text.Goals as goal

pub returns-clause-ok : goal.returns-clause-ok
returns-clause-ok c = grind (arith, octets_of_line)
