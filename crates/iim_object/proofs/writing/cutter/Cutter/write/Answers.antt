use Rattle.iim_object.proofs.Words.{length, take, drop, refl, sym, ap, ◌∙◌, arith, write_cause, writing_of}
use Rattle.std.proofs.Common.{length-drop, take-append-drop}
use Rattle.std.proofs.lemmas.List.{take_rest}
use Rattle.std.proofs.Math.Seq.{take-add}
use Rattle.iim_object.proofs.Written.{goes_nowhere, leads_on, breaks_later, if_none, may_write}
use Rattle.iim_object.proofs.writing.cutter.Cutter.write.Goals as goal

pub loop-at-init : goal.loop-at-init
loop-at-init g c = record {
  within = omega arith;
  room = c.requires;
  same_room = refl;
  lengthened = goes_nowhere g.W.Target.state (writing_of c.args.self.now) c.writes_join.ensures
      (may_write (writing_of c.args.self.now) (length c.args.octets.now) (sym c.write_cause.ensures ∙ c.in_default.is));
}

pub loop-at-preserved : goal.loop-at-preserved
loop-at-preserved g c =
    let xs = c.args.octets.now in
    let at = c.loop-at.at in
    let more = (rw (take_rest xs at) at c.in-Ok.ensures.ok.2) in
    record {
      within = omega (arith, ap length (take_rest xs at), length-drop at xs, c.in-Ok.ensures.ok.1, c.loop-at.invariant.within);
      room = c.consume_prefix.ensures.room;
      same_room = c.consume_prefix.ensures.same_room ∙ c.loop-at.invariant.same_room;
      lengthened = rw (take-add at c.in-Ok.taken xs)
          (leads_on g.W.Target.state (writing_of c.args.self.now) (writing_of c.loop-at.self) (writing_of c.consume_prefix.new.self) (take at xs)
          (take c.in-Ok.taken (drop at xs))
          c.writes_join.ensures c.loop-at.invariant.lengthened more);
    }

pub returns-in-Err-clause-broke : goal.returns-in-Err-clause-broke
returns-in-Err-clause-broke g c =
    let xs = c.args.octets.now in
    let at = c.loop-at.at in
    let a = writing_of c.args.self.now in
    let here = (rw (take_rest xs at) at c.in-Err.ensures.err.1) in
    if_none (write_cause a (length xs)) _
    (rw (take-append-drop at xs) at
    (breaks_later g.W.Target.state a (writing_of c.loop-at.self) (writing_of c.consume_prefix.new.self) (take at xs) (drop at xs) c.writes_join.ensures
    c.loop-at.invariant.lengthened here))
