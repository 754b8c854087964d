use Rattle.iim_audit.proofs.Lines.{HaveShortIds-at}
use Rattle.iim_audit.proofs.report.Report.line.Goals as goal

pub line_of-requires : goal.line_of-requires
line_of-requires c =
    rw c.index-row.ensures (HaveShortIds-at c.self.inside.rows.items c.args.index c.index-row.result.now (rw c.self.view_is c.requires) c.self.invariant)
