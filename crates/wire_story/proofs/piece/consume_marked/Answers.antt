use Rattle.std.proofs.Common.{◌≡◌, arith}
use Rattle.wire_story.proofs.Fronts.{feed_first, end_taken, end_refused, lone_refused, control_refused}
use Rattle.wire_story.proofs.piece.consume_marked.Goals as goal

pub returns-in-Ok-clause-taken : goal.returns-in-Ok-clause-taken
returns-in-Ok-clause-taken g c = end_taken (feed_first c.requires.some c.if-octet-eq-LF.true) (omega (arith, c.requires.few)) c.in-Ok.ensures.ok
    c.in-Ok.ensures.no_failure

pub returns-in-Err-clause-refused : goal.returns-in-Err-clause-refused
returns-in-Err-clause-refused g c = end_refused (feed_first c.requires.some c.if-octet-eq-LF.true) (omega (arith, c.requires.few)) c.in-Err.ensures.front
    c.in-Err.ensures.counted

pub returns-then-held-gt0-clause-refused : goal.returns-then-held-gt0-clause-refused
returns-then-held-gt0-clause-refused g c =
    lone_refused c.requires.some c.if-held-gt0.true c.if-octet-eq-LF.false (λ return. absurd (c.if-octet-eq-CR.false return))
    (g.met.S.StorySink.nothing c.args.sink.now)

pub returns-clause-refused : goal.returns-clause-refused
returns-clause-refused g c =
    let none : c.args.held ≡ 0 = omega arith in
    rw none
    (control_refused c.requires.some (c.type_inv.rest 0).fits c.if-octet-eq-LF.false c.if-octet-eq-CR.false (c.requires.mark none)
    (g.met.S.StorySink.nothing c.args.sink.now))
