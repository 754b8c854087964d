use Rattle.std.proofs.Common.{◌≡◌, ◌∙◌, ap, inr}
use Rattle.iim_dataset.specs.States.Devices.{Device}
use Rattle.iim_files.specs.States.Runs.{line_prefix}
use Rattle.iim_files.specs.States.Seen.{empty_prefixed_device, seen}
use Rattle.iim_files.proofs.Runs.{run_as}
use Rattle.iim_files.proofs.file.run_file.Goals as goal

pub returns-in-Ok : goal.returns-in-Ok
returns-in-Ok g c =
    let prefix = c.as_slice.ensures.value ∙ c.in-Ok.ensures.0 in
    let prefix_of_errors = c.as_slice-in-Ok.ensures.value ∙ c.in-Ok.ensures.0 in
    inr (run_as g.R.Source.state g.R.Source.leads c.args.job c.args.reader _ _ _ _ _ _ _
    (c.new-output.ensures ∙ ap (λ p. empty_prefixed_device p (g.W.Target.state c.args.output)) prefix)
    (c.new-errors.ensures ∙ ap (λ p. empty_prefixed_device p (g.E.Target.state c.args.errors)) prefix_of_errors) c.run_prefixed.ensures)
