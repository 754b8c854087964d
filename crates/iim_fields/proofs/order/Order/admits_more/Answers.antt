use Rattle.std.proofs.Common.{arith}
use Rattle.iim_fields.proofs.{Words.has_seen, Numbers.more_admitted}
use Rattle.iim_fields.proofs.order.Order.admits_more.Goals as goal

pub returns-then-row-clause-exactly : goal.returns-then-row-clause-exactly
returns-then-row-clause-exactly c =
    let exact = more_admitted c.args.self.now.rec (has_seen c.args.self.now) c.args.head c.args.row.now c.requires.row c.requires.present in
    grind (arith, exact)

pub returns-else-row-clause-exactly : goal.returns-else-row-clause-exactly
returns-else-row-clause-exactly c =
    let exact = more_admitted c.args.self.now.rec (has_seen c.args.self.now) c.args.head c.args.row.now c.requires.row c.requires.present in
    grind (arith, exact)
