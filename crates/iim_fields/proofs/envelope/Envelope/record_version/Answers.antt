use Rattle.std.proofs.Common.{arith}
use Rattle.iim_fields.proofs.RowsMet.{first_of_two}
use Rattle.iim_fields.proofs.envelope.Envelope.record_version.Goals as goal

pub mandatory-requires : goal.mandatory-requires
mandatory-requires c = grind (arith, first_of_two)
