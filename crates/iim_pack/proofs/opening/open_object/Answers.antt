use Rattle.iim_pack.proofs.{Words.length, Words.arith, Words.write_cause, Goings.of_none}
use Rattle.iim_pack.proofs.Openings.{not_started, opened, opening_broke, may_open, plan_small}
use Rattle.iim_pack.proofs.opening.open_object.Goals as goal

pub returns-in-Ok-write-clause-ok : goal.returns-in-Ok-write-clause-ok
returns-in-Ok-write-clause-ok g c =
    opened g.W.Target.state c.args.writer c.args.buffer c.args.front.now c.in-Ok.object c.write.new.self c.writes_join.ensures c.in-Ok.ensures.plan
    c.in-Ok.ensures.stands c.in-Ok.ensures.wrote c.in-Ok.ensures.retry_limit c.in-Ok-write.ensures.ok

pub returns-in-Err-write-clause-err : goal.returns-in-Err-write-clause-err
returns-in-Err-write-clause-err g c =
    let none = may_open c.in-Ok.object c.args.buffer c.args.front.now c.in-Ok.ensures.plan c.in-Ok.ensures.stands c.requires in
    opening_broke g.W.Target.state c.args.writer c.args.buffer c.args.front.now c.in-Ok.object c.write.new.self
    (record { cause = c.in-Err-write.cause; writer = c.into_writer-writer.result; written = c.written-written.result })
    c.writes_join.ensures c.in-Ok.ensures.plan c.in-Ok.ensures.stands c.in-Ok.ensures.wrote c.in-Ok.ensures.retry_limit
    (of_none (write_cause c.in-Ok.object (length c.args.front.now)) _ none c.in-Err-write.ensures.broke)
    (of_none (write_cause c.in-Ok.object (length c.args.front.now)) _ none c.in-Err-write.ensures.cause) c.into_writer-writer.ensures
    c.written-written.ensures.count

pub returns-in-Err-clause-err : goal.returns-in-Err-clause-err
returns-in-Err-clause-err g c = not_started g.W.Target.state c.args.writer c.args.buffer c.args.front.now c.in-Err.fault c.in-Err.ensures.cause
    c.in-Err.ensures.stopped c.in-Err.ensures.given_up

pub returns-in-Err-clause-small : goal.returns-in-Err-clause-small
returns-in-Err-clause-small g c = omega (arith, c.in-Err.ensures.stopped.0, plan_small c.args.buffer)
