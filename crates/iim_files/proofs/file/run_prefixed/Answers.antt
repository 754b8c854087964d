use Rattle.iim_files.specs.States.Seen.{seen}
use Rattle.iim_files.proofs.file.run_prefixed.Goals as goal

pub returns : goal.returns
returns g c = (
  c.run-status.ensures.0,
  c.run-status.ensures.1,
  seen g.W.Target.state c.run-status.result.1,
  seen g.E.Target.state c.run-status.result.2,
  c.run-status.result.0,
  c.finish-output.result.1,
  c.finish-errors.result.1,
  c.run-status.ensures.2,
  c.run-status.ensures.3,
  c.finish-output.ensures,
  c.finish-errors.ensures,
  c.either-broken.ensures,
  c.status_after-status.ensures,
)
