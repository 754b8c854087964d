use Rattle.iim_commands.proofs.Imports.{IfOk, IfErr, inl, inr, subst, Device, input_of, StoriesFail, WritesStories}
use Rattle.iim_commands.proofs.Runs.{begun, ends}
use Rattle.iim_commands.proofs.running.run_stories.Goals as goal

pub returns : goal.returns
returns g c =
    let source = g.R.Source.state c.args.reader in
    let intake = c.write_stories-answer.new.intake in
    let rest = input_of g.R.Source.state intake in
    let old = g.W.Target.state c.args.output in
    let new = g.W.Target.state c.write_stories-answer.new.output in
    let errors_old = g.E.Target.state c.args.errors in
    let errors = g.E.Target.state c.write_stories-answer.new.errors in
    let start = begun g.R.Source.state c.new-intake.result c.args.reader c.new-intake.ensures.block c.new-intake.ensures.reader in
    let answer = c.write_stories-answer.result in
    let ok = subst (λ (d : Device). IfOk answer (WritesStories d rest old new errors_old errors)) start c.write_stories-answer.ensures.ok in
    let err = subst (λ (d : Device). IfErr answer (StoriesFail d rest old new errors_old errors)) start c.write_stories-answer.ensures.err in
    let ended = ends (WritesStories source rest old new errors_old errors) (StoriesFail source rest old new errors_old errors) errors
    (g.E.Target.state c.finish-status.new.errors) answer c.finish-status.result ok err c.finish-status.ensures.ok c.finish-status.ensures.fault in (
      intake.reader,
      intake.block,
      subst (λ (r : g.row.R.Denot). g.R.Source.leads r intake.reader) c.new-intake.ensures.reader c.write_stories-answer.ensures.leads,
      elim ended [
        | inl (told, same) ↦ inl (rw same told)
        | inr (fault, before, (why, is), told, failed) ↦ inr (fault, errors, why, rw is at told, failed)
      ],
    )
