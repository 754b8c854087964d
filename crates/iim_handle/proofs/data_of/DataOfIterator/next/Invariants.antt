use Rattle.std.proofs.Common.{◌≡◌, length}
use Rattle.iim_fields.specs.States.Walks.{rest_of}
use Rattle.iim_handle.specs.Walks.{remaining_data}
use Rattle.iim_handle.proofs.data_of.DataOfIterator.next.Given as goal

abbrev pub invariant-loop-rec : goal.invariant-loop-rec
invariant-loop-rec l = record {
  left : remaining_data l.self ≡ remaining_data l.initial.self;
  rec : l.self.rec ≡ l.initial.self.rec;
  set : l.self.set ≡ l.initial.self.set;
}

abbrev pub decreases-loop-rec : goal.decreases-loop-rec
decreases-loop-rec l = length (rest_of l.self.fields)
