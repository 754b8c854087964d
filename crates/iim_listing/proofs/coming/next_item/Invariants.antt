use Rattle.iim_listing.proofs.Words.{◌≡◌, ◌-◌, ◌^◌, None, input_of}
use Rattle.iim_listing.proofs.Taken.{HasFedFromStart}
use Rattle.iim_listing.proofs.coming.next_item.Given as goal

abbrev pub invariant-feeding : goal.invariant-feeding
invariant-feeding g l = record {
  alive : l.intake.failed ≡ None;
  taken : HasFedFromStart g.S.StorySink.goes (input_of g.R.Source.state l.fn.intake) (input_of g.R.Source.state l.intake) l.unpacker l.fn.sink l.sink;
  no_failure : g.S.StorySink.failures l.sink ≡ g.S.StorySink.failures l.fn.sink;
  leads : g.R.Source.leads l.fn.intake.reader l.intake.reader;
}

abbrev pub decreases-feeding : goal.decreases-feeding
decreases-feeding g l = 2 ^ 64 - 1 - l.unpacker.octets
