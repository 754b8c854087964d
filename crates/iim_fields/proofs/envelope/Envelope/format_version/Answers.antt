use Rattle.std.proofs.Common.{arith}
use Rattle.iim_fields.proofs.RowsMet.{first_of_one}
use Rattle.iim_fields.proofs.envelope.Envelope.format_version.Goals as goal

pub mandatory-requires : goal.mandatory-requires
mandatory-requires c = grind (arith, first_of_one)
