use Rattle.std.proofs.Common.{◌≡◌, length}
use Rattle.iim_fields.proofs.Words.{rest_of, data_left}
use Rattle.iim_fields.proofs.walk.DataIterIterator.next.Given as goal

abbrev pub invariant-loop-rec : goal.invariant-loop-rec
invariant-loop-rec l = record {
  left : data_left l.self ≡ data_left l.initial.self;
  rec : l.self.rec ≡ l.initial.self.rec;
  set : l.self.set ≡ l.initial.self.set;
}

abbrev pub decreases-loop-rec : goal.decreases-loop-rec
decreases-loop-rec l = length (rest_of l.self.fields)
