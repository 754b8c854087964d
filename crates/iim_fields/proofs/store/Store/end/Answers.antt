use Rattle.std.proofs.Common.{arith}
use Rattle.iim_fields.proofs.Entries.{ends_last}
use Rattle.iim_fields.proofs.store.Store.end.Goals as goal

pub returns-in-Some : goal.returns-in-Some
returns-in-Some c = grind (arith, ends_last)
