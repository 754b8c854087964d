use Rattle.iim_commands.proofs.Imports.{IfOk, IfErr, subst, Device, input_of}
use Rattle.iim_commands.proofs.Runs.{begun, ends}
use Rattle.iim_listing.specs.Format.{WritesListing, ListingFails}
use Rattle.iim_commands.proofs.running.run_listing.Goals as goal

pub returns : goal.returns
returns g c =
    let source = g.R.Source.state c.args.reader in
    let intake = c.list-answer.new.intake in
    let rest = input_of g.R.Source.state intake in
    let old = g.W.Target.state c.args.output in
    let new = g.W.Target.state c.list-answer.new.output in
    let start = begun g.R.Source.state c.new-intake.result c.args.reader c.new-intake.ensures.block c.new-intake.ensures.reader in (
      intake.reader,
      intake.block,
      subst (λ (r : g.row.R.Denot). g.R.Source.leads r intake.reader) c.new-intake.ensures.reader c.list-answer.ensures.leads,
      ends (WritesListing g.P.EnvelopeLines.written source rest old new) (ListingFails g.P.EnvelopeLines.written source rest old new)
          (g.E.Target.state c.args.errors) (g.E.Target.state c.finish-status.new.errors) c.list-answer.result c.finish-status.result
          (subst (λ (d : Device). IfOk c.list-answer.result (WritesListing g.P.EnvelopeLines.written d rest old new)) start c.list-answer.ensures.ok)
          (subst (λ (d : Device). IfErr c.list-answer.result (ListingFails g.P.EnvelopeLines.written d rest old new)) start c.list-answer.ensures.err)
          c.finish-status.ensures.ok c.finish-status.ensures.fault,
    )
