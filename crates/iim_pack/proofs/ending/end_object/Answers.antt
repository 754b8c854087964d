use Rattle.std.proofs.Common.{length}
use Rattle.std.proofs.lemmas.Result.{IfOk-weaker, IfErr-weaker}
use Rattle.iim_object.specs.States.Writing.{write_cause, finish_cause}
use Rattle.iim_pack.proofs.{Goings.of_none, Endings.tail_broke, Endings.end_broke, Endings.may_write, Endings.may_finish}
use Rattle.iim_pack.proofs.ending.end_object.Goals as goal

pub returns-in-Ok-clause-ok : goal.returns-in-Ok-clause-ok
returns-in-Ok-clause-ok g c =
    IfOk-weaker c.finish.result _ _ (λ writer finishes. (c.write.new.self, c.in-Ok.ensures.ok, finishes)) c.finish.ensures.ok

pub returns-in-Ok-clause-broke : goal.returns-in-Ok-clause-broke
returns-in-Ok-clause-broke g c =
    let mid = c.write.new.self in
    IfErr-weaker c.finish.result _ _ (λ refused. end_broke g.W.Target.state c.args.object mid refused.0 c.args.tail.now c.writes_join.ensures
    c.in-Ok.ensures.ok)
    (of_none (finish_cause mid) _ (may_finish g.W.Target.state c.args.object mid c.args.tail.now c.in-Ok.ensures.ok c.requires.whole) c.finish.ensures.broke)

pub returns-in-Err-clause-broke : goal.returns-in-Err-clause-broke
returns-in-Err-clause-broke g c =
    let tail = c.args.tail.now in
    tail_broke g.W.Target.state c.args.object c.write.new.self tail
    (of_none (write_cause c.args.object (length tail)) _ (may_write c.args.object (length tail) c.requires.unfailed c.requires.fits) c.in-Err.ensures.broke)
