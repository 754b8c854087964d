use Rattle.iim_audit.proofs.Words.{◌<◌, List, length, ap, arith}
use Rattle.iim_audit.specs.declared.row.AuditRow.{AuditRow}
use Rattle.iim_audit.proofs.Lines.{lines_from-take-push}
use Rattle.iim_audit.proofs.text.report_text.Goals as goal

pub rows-preserved : goal.rows-preserved
rows-preserved c =
    let rows : List AuditRow = c.args.report.now in
    let there : c.rows.index < length rows = omega (arith, ap length c.rows-index-end.ensures, c.rows-test.true) in
    rw (c.in_ok-extend_from_slice.ensures.items, c.rows.invariant, c.as_slice.ensures)
    (lines_from-take-push rows c.rows.index c.line.result there c.line.ensures)
