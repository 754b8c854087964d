use Rattle.std.proofs.Common.{arith}
use Rattle.wire_story.proofs.Fronts.{both_first, end_taken, end_refused, return_taken, lone_refused}
use Rattle.wire_story.proofs.piece.consume_return.Goals as goal

pub returns-in-Ok-clause-taken : goal.returns-in-Ok-clause-taken
returns-in-Ok-clause-taken g c =
    let h = c.has_line_end.ensures in
    let yes = c.if-has_line_end.true in
    end_taken (both_first (h.two yes) (h.first yes) (h.second yes)) (omega (arith, h.none yes)) c.in-Ok.ensures.ok c.in-Ok.ensures.no_failure

pub returns-in-Err-clause-refused : goal.returns-in-Err-clause-refused
returns-in-Err-clause-refused g c =
    let h = c.has_line_end.ensures in
    let yes = c.if-has_line_end.true in
    end_refused (both_first (h.two yes) (h.first yes) (h.second yes)) (omega (arith, h.none yes)) c.in-Err.ensures.front c.in-Err.ensures.counted

pub returns-then-held-lt-MAX_RETURNS-clause-taken : goal.returns-then-held-lt-MAX_RETURNS-clause-taken
returns-then-held-lt-MAX_RETURNS-clause-taken g c =
    return_taken c.args.rest.now c.requires.some c.requires.first c.if-held-lt-MAX_RETURNS.true (g.met.S.StorySink.nothing c.args.sink.now)

pub returns-clause-refused : goal.returns-clause-refused
returns-clause-refused g c =
    lone_refused c.requires.some (omega (arith, c.if-held-lt-MAX_RETURNS.false)) (λ feed. omega (arith, feed, c.requires.first))
    (λ _. omega (arith, c.if-held-lt-MAX_RETURNS.false, c.requires.few)) (g.met.S.StorySink.nothing c.args.sink.now)
