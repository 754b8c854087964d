use Rattle.iim_commands.proofs.Imports.{IfOk, IfErr, subst, Device, input_of, WritesAudit, AuditFails}
use Rattle.iim_commands.proofs.Runs.{begun, ends}
use Rattle.iim_commands.proofs.running.run_audit.Goals as goal

pub returns : goal.returns
returns g c =
    let now = c.args.now.nanosecond in
    let source = g.R.Source.state c.args.reader in
    let intake = c.write_audit-answer.new.intake in
    let rest = input_of g.R.Source.state intake in
    let old = g.W.Target.state c.args.output in
    let new = g.W.Target.state c.write_audit-answer.new.output in
    let start = begun g.R.Source.state c.new-intake.result c.args.reader c.new-intake.ensures.block c.new-intake.ensures.reader in (
      intake.reader,
      intake.block,
      subst (λ (r : g.row.R.Denot). g.R.Source.leads r intake.reader) c.new-intake.ensures.reader c.write_audit-answer.ensures.leads,
      ends (WritesAudit now source rest old new) (AuditFails now source rest old new) (g.E.Target.state c.args.errors)
          (g.E.Target.state c.finish-status.new.errors) c.write_audit-answer.result c.finish-status.result
          (subst (λ (d : Device). IfOk c.write_audit-answer.result (WritesAudit now d rest old new)) start c.write_audit-answer.ensures.ok)
          (subst (λ (d : Device). IfErr c.write_audit-answer.result (AuditFails now d rest old new)) start c.write_audit-answer.ensures.err)
          c.finish-status.ensures.ok c.finish-status.ensures.fault,
    )
