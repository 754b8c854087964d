use Rattle.std.proofs.Common.{arith}
use Rattle.iim_fields.proofs.Entries.{sound}
use Rattle.iim_fields.proofs.envelope_ref.EnvelopeRef.fields.Goals as goal

pub invariant_of-result : goal.invariant_of-result
invariant_of-result c = grind (arith, sound)
