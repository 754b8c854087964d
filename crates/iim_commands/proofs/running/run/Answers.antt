use Rattle.iim_commands.proofs.Imports.{[], refl, sym, subst, Device, devices, RunsJob}
use Rattle.iim_commands.proofs.Runs.{with_none_held}
use Rattle.iim_commands.proofs.running.run.Goals as goal

pub returns-in-Story : goal.returns-in-Story
returns-in-Story g c = rw c.in-Story.is c.run_stories.ensures

pub returns-in-Pack : goal.returns-in-Pack
returns-in-Pack g c =
    let (last, leads, packed) = c.pack.ensures in
    let old = devices (g.R.Source.state c.args.reader) (g.W.Target.state c.args.output) (g.E.Target.state c.args.errors) in (
      last,
      [],
      leads,
      subst (λ (d : Device). RunsJob c.args.request.job old (devices d (g.W.Target.state c.pack.result.1) (g.E.Target.state c.pack.result.2)) c.pack.result.0)
          (sym (with_none_held [] (g.R.Source.state last) refl)) (rw c.in-Pack.is packed),
    )

pub returns-in-Audit : goal.returns-in-Audit
returns-in-Audit g c = rw c.in-Audit.is c.run_audit.ensures
