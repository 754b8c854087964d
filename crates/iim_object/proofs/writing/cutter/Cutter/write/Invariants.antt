use Rattle.iim_object.proofs.Words.{◌≡◌, ◌≤◌, ◌-◌, length, take, WriterAccepts, CutterHasCapacity, writing_of}
use Rattle.iim_object.proofs.writing.cutter.Cutter.write.Given as goal

abbrev pub invariant-loop-at : goal.invariant-loop-at
invariant-loop-at g l = record {
  within : l.at ≤ length l.octets;
  room : CutterHasCapacity l.self;
  same_room : l.self.held.room ≡ l.fn.self.held.room;
  lengthened : WriterAccepts (g.W.Target.state) (writing_of l.fn.self) (writing_of l.self) (take l.at l.octets);
}

abbrev pub decreases-loop-at : goal.decreases-loop-at
decreases-loop-at g l = length l.octets - l.at
