use Rattle.std.proofs.Common.{arith}
use Rattle.iim_fields.proofs.RowsMet.{first_of_one, number_fits}
use Rattle.iim_fields.proofs.envelope_ref.EnvelopeRef.number.Goals as goal

pub mandatory-requires : goal.mandatory-requires
mandatory-requires c = grind (arith, first_of_one, number_fits)

pub returns-clause-fits : goal.returns-clause-fits
returns-clause-fits c = grind (arith, first_of_one, number_fits)
