use Rattle.iim_commands.proofs.Imports.{rules, refl, inl, inr, handed_on, FailsAt, printed_report, input_of, limits, all_out}
use Rattle.iim_commands.proofs.Audits.{output_fails, error_has_no_line}
use Rattle.iim_output.specs.States.Holding.{device_of}
use Rattle.iim_commands.proofs.audit.report_input.Given.{Over}
use Rattle.iim_commands.proofs.audit.report_input.Goals.{In-Err}
use Rattle.iim_commands.proofs.audit.report_input.Goals as goal

-- why there is no report
why : (g : Over) (c : In-Err g) → FailsAt limits (input_of g.R.Source.state c.args.intake.now) (input_of g.R.Source.state c.audit.new.intake)
    c.in-Err.fault.envelope c.in-Err.fault.cause
why g c = (c.in-Err.ensures.fails c.requires.alive).0

pub returns-in_err-write_report-in-Ok-clause-err : goal.returns-in_err-write_report-in-Ok-clause-err
returns-in_err-write_report-in-Ok-clause-err g c =
    let fault = c.in_err-write_report-in-Ok.field-0.0 in
    let whole = rw c.timestamp_of.ensures at (c.in-Ok.ensures.audited c.requires.alive) in
    handed_on _ c.from_residual.result fault c.from_residual.ensures.1
    (output_fails g.W.Target.state c.args.output.now c.write_report.new.output c.args.now.nanosecond (input_of g.R.Source.state c.args.intake.now)
    (input_of g.R.Source.state c.audit.new.intake) (printed_report c.in-Ok.report) 0 fault c.requires.pending (inl (c.in-Ok.report, whole, refl, refl))
    c.in_err-write_report-in-Ok.ensures.err)

pub returns-in_ok-write_report-in-Ok-clause-ok : goal.returns-in_ok-write_report-in-Ok-clause-ok
returns-in_ok-write_report-in-Ok-clause-ok g c =
    let words = printed_report c.in-Ok.report in
    let whole = rw c.timestamp_of.ensures at (c.in-Ok.ensures.audited c.requires.alive) in
    let out = all_out g.W.Target.state c.args.output.now c.write_report.new.output words c.requires.pending c.in_ok-write_report-in-Ok.ensures.pending
    c.in_ok-write_report-in-Ok.ensures.ok in
    (words, inl (c.in-Ok.report, whole, refl, refl), out)

pub returns-in_err-line-in-Err-clause-err : goal.returns-in_err-line-in-Err-clause-err
returns-in_err-line-in-Err-clause-err g c =
    let at = (goal.at.returns-in_err-line-in-Err-clause-err g c).In-Err in
    let fault = c.in_err-line-in-Err.field-0.0 in
    handed_on _ c.from_residual-in_err-line-in-Err.result fault c.from_residual-in_err-line-in-Err.ensures.1
    (error_has_no_line c.args.now.nanosecond (input_of g.R.Source.state c.args.intake.now) (input_of g.R.Source.state c.audit.new.intake)
    (device_of g.W.Target.state c.args.output.now) c.in-Err.fault.envelope c.in-Err.fault.cause fault (why g at) c.in_err-line-in-Err.ensures.other)

pub returns-in_err-append_and_flush-in-Err-clause-err : goal.returns-in_err-append_and_flush-in-Err-clause-err
returns-in_err-append_and_flush-in-Err-clause-err g c =
    let at = (goal.at.returns-in_err-append_and_flush-in-Err-clause-err g c).In-Err in
    let fault = c.in_err-append_and_flush-in-Err.field-0.0 in
    handed_on _ c.from_residual-in_err-append_and_flush-in-Err.result fault c.from_residual-in_err-append_and_flush-in-Err.ensures.1
    (output_fails g.W.Target.state c.args.output.now c.append_and_flush.new.output c.args.now.nanosecond (input_of g.R.Source.state c.args.intake.now)
    (input_of g.R.Source.state c.audit.new.intake) c.as_slice.result.now 1 fault c.requires.pending
    (inr (c.in-Err.fault.envelope, c.in-Err.fault.cause, why g at, search rules, refl)) c.in_err-append_and_flush-in-Err.ensures.err)

pub returns-in_ok-append_and_flush-in-Err-clause-ok : goal.returns-in_ok-append_and_flush-in-Err-clause-ok
returns-in_ok-append_and_flush-in-Err-clause-ok g c =
    let at = (goal.at.returns-in_ok-append_and_flush-in-Err-clause-ok g c).In-Err in
    let words = c.as_slice.result.now in
    let out = all_out g.W.Target.state c.args.output.now c.append_and_flush.new.output words c.requires.pending c.in_ok-append_and_flush-in-Err.ensures.pending
    c.in_ok-append_and_flush-in-Err.ensures.ok in
    (words, inr (c.in-Err.fault.envelope, c.in-Err.fault.cause, why g at, search rules, refl), out)

-- ---- the writer is over the same target

pub returns-in_err-write_report-in-Ok-clause-same : goal.returns-in_err-write_report-in-Ok-clause-same
returns-in_err-write_report-in-Ok-clause-same g c = c.in_err-write_report-in-Ok.ensures.err.1.same

pub returns-in_ok-write_report-in-Ok-clause-same : goal.returns-in_ok-write_report-in-Ok-clause-same
returns-in_ok-write_report-in-Ok-clause-same g c = c.in_ok-write_report-in-Ok.ensures.ok.same

pub returns-in_err-append_and_flush-in-Err-clause-same : goal.returns-in_err-append_and_flush-in-Err-clause-same
returns-in_err-append_and_flush-in-Err-clause-same g c = c.in_err-append_and_flush-in-Err.ensures.err.1.same

pub returns-in_ok-append_and_flush-in-Err-clause-same : goal.returns-in_ok-append_and_flush-in-Err-clause-same
returns-in_ok-append_and_flush-in-Err-clause-same g c = c.in_ok-append_and_flush-in-Err.ensures.ok.same
