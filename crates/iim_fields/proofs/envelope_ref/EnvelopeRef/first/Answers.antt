use Rattle.std.proofs.Common.{rules}
use Rattle.iim_fields.proofs.RowsMet.{data_meet}
use Rattle.iim_fields.proofs.envelope_ref.EnvelopeRef.first.Goals as goal

pub returns-then-field_set-set-clause-meets : goal.returns-then-field_set-set-clause-meets
returns-then-field_set-set-clause-meets c = data_meet c.args.self.now c.fields-fields.ensures.envelope c.args.rec c.args.set c.in-Some.octets.now (search rules)
