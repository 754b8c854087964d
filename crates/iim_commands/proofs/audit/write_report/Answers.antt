use Rattle.iim_commands.proofs.Imports.{◌≡◌, ◌<◌, ◌+◌, ◌++◌, List, length, take, ap, arith, take_all, handed_on, lines_from, AuditRow, partly_written_later}
use Rattle.std.proofs.lemmas.Result.{IfErr-weaker}
use Rattle.iim_object.proofs.Outputs.{on_ok}
use Rattle.iim_audit.proofs.Lines.{lines_from-take-push}
use Rattle.iim_output.specs.HoldingLaws.{buffered_nothing, buffered_joined}
use Rattle.iim_commands.proofs.Audits.{cut_in_line}
use Rattle.iim_commands.proofs.audit.write_report.Goals as goal

pub rows-init : goal.rows-init
rows-init g c = buffered_nothing g.W.Target.state c.args.output.now

pub rows-preserved : goal.rows-preserved
rows-preserved g c =
    let rows : List AuditRow = c.args.report.now in
    let there : c.rows.index < length rows = omega (arith, ap length c.rows-index-end.ensures, c.rows-test.true) in
    rw (c.as_slice.ensures, lines_from-take-push rows c.rows.index c.line.result there c.line.ensures) at
    (buffered_joined g.W.Target.state c.args.output.now c.rows.output
    c.append.new.output (lines_from 1 (take c.rows.index rows)) c.as_slice.result.now c.rows.invariant c.in_ok-append.ensures.ok)

pub returns-in_err-append-clause-err : goal.returns-in_err-append-clause-err
returns-in_err-append-clause-err g c =
    let rows : List AuditRow = c.args.report.now in
    let there : c.rows.index < length rows = omega (arith, ap length c.rows-index-end.ensures, c.rows-test.true) in
    let line : lines_from 1 (take c.rows.index rows) ++ c.as_slice.result.now ≡ lines_from 1 (take (c.rows.index + 1) rows) =
    rw c.as_slice.ensures (lines_from-take-push rows c.rows.index c.line.result there c.line.ensures) in
    handed_on _ c.from_residual.result c.in_err-append.field-0.0 c.from_residual.ensures.1 (cut_in_line g.W.Target.state c.writes_join.ensures c.args.output.now
    c.rows.output c.append.new.output rows c.rows.index c.as_slice.result.now c.in_err-append.field-0.0 line c.rows.invariant c.in_err-append.ensures.err)

pub returns-clause-ok : goal.returns-clause-ok
returns-clause-ok g c =
    let rows : List AuditRow = c.args.report.now in
    let before = rw (take_all c.rows.index rows (omega (arith, ap length c.rows-index-end.ensures, c.rows-test.false))) at c.rows.invariant in
    on_ok c.append_and_flush.result _ _ (λ put. rw (c.as_slice-2.ensures, c.last_line.ensures) at
    (buffered_joined g.W.Target.state c.args.output.now c.rows.output
    c.append_and_flush.new.output (lines_from 1 rows) c.as_slice-2.result.now before put)) c.append_and_flush.ensures.ok

pub returns-clause-err : goal.returns-clause-err
returns-clause-err g c =
    let rows : List AuditRow = c.args.report.now in
    let before = rw (take_all c.rows.index rows (omega (arith, ap length c.rows-index-end.ensures, c.rows-test.false))) at c.rows.invariant in
    IfErr-weaker c.append_and_flush.result _ _ (λ fault unadded. (
      unadded.0,
      rw (c.as_slice-2.ensures, c.last_line.ensures) at (partly_written_later g.W.Target.state
          c.writes_join.ensures c.args.output.now c.rows.output c.append_and_flush.new.output (lines_from 1 rows) c.as_slice-2.result.now before unadded.1),
    ))
    c.append_and_flush.ensures.err
