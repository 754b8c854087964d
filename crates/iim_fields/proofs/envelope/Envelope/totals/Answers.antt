use Rattle.std.proofs.Common.{arith}
use Rattle.iim_fields.proofs.Stand.{totals}
use Rattle.iim_fields.proofs.envelope.Envelope.totals.Goals as goal

pub returns : goal.returns
returns c = grind (arith, totals)
