use Rattle.iim_unpack.proofs.Words.{HasFed, AcceptsInput, AreSame, None, [], input_of, ◌-◌, ◌^◌, ◌≡◌}
use Rattle.iim_unpack.proofs.intake.Intake.feed_envelope.Given as goal

abbrev pub invariant-feeding : goal.invariant-feeding
invariant-feeding g l = record {
  alive : l.self.failed ≡ None;
  octets : l.self.octets ≡ 0;
  fed :
      (fed : HasFed g.S.StorySink.goes (input_of g.R.Source.state l.fn.self) (input_of g.R.Source.state l.self) l.fn.unpacker l.unpacker l.fn.sink l.sink
      l.used)
      × (fed.octets ≡ [] → AreSame l.fn.unpacker l.fn.sink l.unpacker l.sink);
  ready : AcceptsInput l.unpacker;
  no_failure : g.S.StorySink.failures l.sink ≡ g.S.StorySink.failures l.fn.sink;
  leads : g.R.Source.leads l.fn.self.reader l.self.reader;
}

abbrev pub decreases-feeding : goal.decreases-feeding
decreases-feeding g l = 2 ^ 64 - 1 - l.used
