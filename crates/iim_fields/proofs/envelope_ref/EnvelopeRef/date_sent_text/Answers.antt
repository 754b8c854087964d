use Rattle.std.proofs.Common.{arith}
use Rattle.iim_fields.proofs.RowsMet.{first_of_one, date_fits, date_is}
use Rattle.iim_fields.proofs.envelope_ref.EnvelopeRef.date_sent_text.Goals as goal

pub mandatory-requires : goal.mandatory-requires
mandatory-requires c = grind (arith, first_of_one, date_fits, date_is)

pub returns-clause-fits : goal.returns-clause-fits
returns-clause-fits c = grind (arith, first_of_one, date_fits, date_is)

pub returns-clause-date : goal.returns-clause-date
returns-clause-date c = grind (arith, first_of_one, date_fits, date_is)
