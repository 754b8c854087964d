use Rattle.std.proofs.Common.{arith}
use Rattle.iim_fields.proofs.{Words.has_seen, Subfiles.subfile_admitted}
use Rattle.iim_fields.proofs.order.Order.admits_subfile.Goals as goal

pub returns-else-is_subfile : goal.returns-else-is_subfile
returns-else-is_subfile c =
    let exact = subfile_admitted c.args.self.now.rec (has_seen c.args.self.now) c.args.head c.requires in grind (arith, exact)

pub returns-then-is_subfile : goal.returns-then-is_subfile
returns-then-is_subfile c = grind (arith, subfile_admitted)
