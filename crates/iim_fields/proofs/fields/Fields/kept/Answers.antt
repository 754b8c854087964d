use Rattle.std.proofs.Common.{arith}
use Rattle.iim_fields.proofs.Entries.{sound_holding}
use Rattle.iim_fields.proofs.fields.Fields.kept.Goals as goal

pub invariant_of-result : goal.invariant_of-result
invariant_of-result c = grind (arith, sound_holding)
