use Rattle.std.proofs.Common.{◌≡◌}
use Rattle.iim_fields.proofs.Words.{first_data, rest_of}
use Rattle.iim_fields.proofs.envelope_ref.EnvelopeRef.first.Given as goal

abbrev pub invariant-loop-field_rec : goal.invariant-loop-field_rec
invariant-loop-field_rec l = first_data l.rec l.set (rest_of l.fields) ≡ first_data l.rec l.set l.self
