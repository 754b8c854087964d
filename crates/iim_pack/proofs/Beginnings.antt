-- The state `HasPackedSoFar` of a packer, call by call.
use Rattle.iim_pack.proofs.Words.{List, ℕ, ◌++◌, arith, length-append, Device, WritesJoin, Packing, StoryEvent}
use Rattle.iim_pack.specs.States.Packing.{Lengthens, Finishes, KeepsPacking, WritesPackedForm}

pub packed_on : {W : Type 0} (state : W → Device) (old new : Packing W) (events : List StoryEvent) → WritesJoin → Lengthens state old new events
    → KeepsPacking state old new events
packed_on state old new events join l first fields head before plan b = record {
  out = b.out ++ l.more;
  wrote = join.more first (state old.object.writer) (state new.object.writer) b.out l.more b.wrote l.wrote;
  counted = omega (arith, l.counted, b.counted, length-append b.out l.more);
  stands = l.stands fields head before plan b.out b.stands;
}

pub packed_ends : {W : Type 0} (state : W → Device) (old : Packing W) (trailer : List ℕ) (writer : W) → WritesJoin → Finishes state old trailer writer
    → WritesPackedForm state old trailer writer
packed_ends state old trailer writer join f first fields head events plan b = (
  b.out ++ f.more,
  f.whole fields head events plan b.out b.stands,
  join.more first (state old.object.writer) (state writer) b.out f.more b.wrote f.wrote,
)
