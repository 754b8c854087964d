use Rattle.std.proofs.Common.{◌≡◌, List, ◌++◌, length, true}
use Rattle.iim_places.proofs.Words.{Dataset, AreStored, ConsumesEach}
use Rattle.iim_places.proofs.ticket.taker.take_fields.Given as goal

-- some datasets were consumed
abbrev pub invariant-loop-rec : goal.invariant-loop-rec
invariant-loop-rec g l = record {
  done : List Dataset;
  parts : l.fn.fields ≡ done ++ l.fields;
  each : AreStored done;
  took : ConsumesEach g.T.DatasetTaker.ready g.T.DatasetTaker.stands g.T.DatasetTaker.limits l.fn.taker done l.taker true;
  room : g.T.DatasetTaker.room l.taker ≡ g.T.DatasetTaker.room l.fn.taker;
}

abbrev pub decreases-loop-rec : goal.decreases-loop-rec
decreases-loop-rec g l = length l.fields
