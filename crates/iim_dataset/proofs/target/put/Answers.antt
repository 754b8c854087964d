use Rattle.std.proofs.Common.{◌<◌, take, drop, arith, length-take, length-drop}
use Rattle.std.proofs.lemmas.List.{take_rest}
use Rattle.std.proofs.Math.Seq.{take-add}
use Rattle.iim_dataset.proofs.target.put.Goals as goal
use Rattle.iim_dataset.specs.Steps.{appends_joined}

pub loop-at-preserved : goal.loop-at-preserved
loop-at-preserved g c =
    let piece = c.args.piece.now in
    let at = c.loop-at.at in
    let old = g.W.Target.state c.args.writer.now in
    let middle = g.W.Target.state c.loop-at.writer in
    let new = g.W.Target.state c.send.new.writer in
    let some : 0 < c.in-Ok.taken = omega arith in
    let sent = c.in-Ok.ensures.ok some in
    let out = c.loop-at.invariant.out in
    record {
      within = omega (arith, simp (length-take, length-drop) at c.in-Ok.ensures.within);
      out = (
        rw (take-add at c.in-Ok.taken piece) (appends_joined old.octets middle.octets new.octets (take at piece) (take c.in-Ok.taken (drop at piece)) out.0
            (rw (take_rest piece at) at sent.0)),
        (omega (arith, sent.1.0, out.1.0), omega (arith, sent.1.1, out.1.1)),
      );
      retry_limit = omega (arith, some, c.in-Ok.ensures.retry_limit, c.loop-at.invariant.retry_limit);
    }
