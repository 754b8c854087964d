use Rattle.std.proofs.Common.{◌≡◌, arith}
use Rattle.wire_story.proofs.Fronts.{takes_both, refuses_later, front_after}
use Rattle.wire_story.proofs.piece.consume_prefixes.Goals as goal

pub returns-in-Ok-clause-taken : goal.returns-in-Ok-clause-taken
returns-in-Ok-clause-taken g c =
    let none : c.in_ok-now.now ≡ 0 = omega (arith, c.if-now-gt0.false) in
    takes_both g.met.S.StorySink.joined c.args.rest.now c.in_ok-now.used c.in-Ok.more (rw none at c.in_ok-now.ensures.taken) c.in-Ok.ensures.taken

pub returns-in-Err-clause-refused : goal.returns-in-Err-clause-refused
returns-in-Err-clause-refused g c =
    let none : c.in_ok-now.now ≡ 0 = omega (arith, c.if-now-gt0.false) in
    rw c.after.ensures (refuses_later g.met.S.StorySink.joined c.args.rest.now c.in_ok-now.used (rw none at c.in_ok-now.ensures.taken)
    c.in-Err.ensures.refused)

pub returns-in-Ok-clause-front : goal.returns-in-Ok-clause-front
returns-in-Ok-clause-front g c =
    let f = c.in_ok-now.ensures.front in
    front_after c.args.rest.now c.in_ok-now.used c.in-Ok.more 0 c.in-Ok.last (omega arith) (omega (arith, f.some)) f.within c.in-Ok.ensures.within
    c.in-Ok.ensures.marks
