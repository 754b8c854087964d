use Rattle.iim_commands.proofs.Imports.{◌≡◌, ℕ, Result, Ok, Err, IfOk, IfErr, OnErr, inl, inr, refl, Device, devices, status_failed, PrintsError, EndsOrPrintsError, CompletesPack, Asked, FailsToComplete, asked, CommandFault}
use Rattle.iim_output.specs.declared.fault.CommandFault.TheVariants.{CannotRead, CannotWrite, OutOfMemory}
use Rattle.iim_commands.proofs.running.pack.Goals as goal

-- the error output does not matter for the fault
unanswered : (a : Asked) (source rest old new errors mid told : Device) (fault : CommandFault)
    → FailsToComplete a (devices source old errors) (devices rest new mid) fault → FailsToComplete a (devices source old errors) (devices rest new told) fault
unanswered a source rest old new errors mid told CannotRead h = h
unanswered a source rest old new errors mid told CannotWrite h = h
unanswered a source rest old new errors mid told OutOfMemory h = h

packs : {E : Type 0} (state : E → Device) (a : Asked) (source rest old new : Device) (errors mid : E) (told : Device)
    (answer : Result ℕ CommandFault) (status : ℕ) → IfOk answer (CompletesPack a (devices source old (state errors)) (devices rest new (state mid)))
    → IfErr answer (FailsToComplete a (devices source old (state errors)) (devices rest new (state mid))) → OnErr answer (mid ≡ errors)
    → IfOk answer (λ want. (status ≡ want) × (told ≡ state mid)) → IfErr answer (λ fault. (status ≡ status_failed) × PrintsError (state mid) told fault)
    → EndsOrPrintsError (CompletesPack a (devices source old (state errors)) (devices rest new told) status)
    (λ fault before. FailsToComplete a (devices source old (state errors)) (devices rest new told) fault × (before ≡ state errors)) told status
packs state a source rest old new errors mid told (Ok want) status ok err same kept said = inl (rw (kept.0, kept.1) ok)
packs state a source rest old new errors mid told (Err fault) status ok err same kept said =
    inr (fault, state errors, (unanswered a source rest old new (state errors) (state mid) told fault err, refl), rw same at said.1, said.0)

pub returns : goal.returns
returns g c = (
  c.pack_script-answer.new.reader,
  c.pack_script-answer.ensures.leads,
  packs g.E.Target.state (asked c.args.request.subfile c.args.request.unknown c.args.request.max) (g.R.Source.state c.args.reader)
      (g.R.Source.state c.pack_script-answer.new.reader) (g.W.Target.state c.args.output) (g.W.Target.state c.pack_script-answer.result.1)
      c.args.errors c.pack_script-answer.new.errors (g.E.Target.state c.finish-status.new.errors) c.pack_script-answer.result.0 c.finish-status.result
      c.pack_script-answer.ensures.completed c.pack_script-answer.ensures.fails c.pack_script-answer.ensures.prints_nothing
      c.finish-status.ensures.ok c.finish-status.ensures.fault,
)
