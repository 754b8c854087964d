use Rattle.std.proofs.Common.{arith}
use Rattle.iim_fields.proofs.RowsMet.{priority_is_one, only_octet}
use Rattle.iim_fields.proofs.envelope_ref.EnvelopeRef.priority.Goals as goal

pub returns : goal.returns
returns c = grind (arith, priority_is_one, only_octet)
