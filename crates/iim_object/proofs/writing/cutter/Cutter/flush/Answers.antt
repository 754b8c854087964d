use Rattle.iim_object.proofs.Words.{refl, arith, canonical_dataset, subfile_dataset, dataset_length}
use Rattle.iim_object.proofs.Rooms.{room_flushed, room_halted}
use Rattle.iim_object.proofs.writing.cutter.Cutter.flush.Goals as goal

pub returns-in-Ok-clause-ok : goal.returns-in-Ok-clause-ok
returns-in-Ok-clause-ok g c =
    let put = rw c.as_slice.ensures at c.in-Ok.ensures.ok in
    let clear = c.clear.ensures in
    let flushed = room_flushed g.W.Target.state c.args.self.now c.clear.new.self c.put_dataset.new.self c.requires.room c.requires.unfailed c.requires.full in
    (put, rw c.len.ensures (flushed clear.items clear.room put))

pub returns-in-Err-clause-err : goal.returns-in-Err-clause-err
returns-in-Err-clause-err g c =
    let cut = rw c.as_slice.ensures at c.in-Err.ensures.err in
    let text = subfile_dataset c.args.self.now.held.items in
    let halted = room_halted g.W.Target.state c.args.self.now c.put_dataset.new.self (canonical_dataset text) c.requires.room c.requires.unfailed in
    (c.in-Err.ensures.cause, cut, record { same = refl; room = halted cut (omega (arith, dataset_length text)) })
