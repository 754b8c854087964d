use Rattle.std.proofs.Common.{arith}
use Rattle.iim_fields.proofs.Stand.{section_in}
use Rattle.iim_fields.proofs.fields.Fields.section.Goals as goal

pub returns-clause-inside : goal.returns-clause-inside
returns-clause-inside c = grind (arith, section_in)
