use Rattle.iim_listing.proofs.Words.{◌≡◌, ◌-◌, None, input_of, limits_in, limits, EnvelopesAreListed}
use Rattle.iim_listing.proofs.list.list_texts.Given as goal

abbrev pub invariant-listing : goal.invariant-listing
invariant-listing g l = record {
  alive : l.intake.failed ≡ None;
  same : limits_in l.unpacker ≡ limits;
  listed : EnvelopesAreListed g.W.Target.state g.P.EnvelopeLines.written (input_of g.R.Source.state l.fn.intake)
      (input_of g.R.Source.state l.intake) l.fn.null_sink.output
      l.null_sink.output l.count;
  leads : (last : _) → g.R.Source.leads l.intake.reader last → g.R.Source.leads l.fn.intake.reader last;
}

abbrev pub decreases-listing : goal.decreases-listing
decreases-listing g l = 1000000 - l.count
