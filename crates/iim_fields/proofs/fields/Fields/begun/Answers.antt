use Rattle.std.proofs.Common.{arith}
use Rattle.iim_fields.proofs.Stand.{ends_within}
use Rattle.iim_fields.proofs.fields.Fields.begun.Goals as goal

pub begun-requires-in-Some : goal.begun-requires-in-Some
begun-requires-in-Some c = grind (arith, ends_within)
