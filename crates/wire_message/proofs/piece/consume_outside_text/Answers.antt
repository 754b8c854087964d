use Rattle.std.proofs.Common.{◌∙◌, arith}
use Rattle.wire_message.proofs.piece.consume_outside_text.Goals as goal

pub returns-clause-dies : goal.returns-clause-dies
returns-clause-dies c =
    rw (c.lengthen-used.ensures.same (omega (arith, c.if-used-gt0.false)) ∙ c.in_default.ensures.same) at (c.begin_next.ensures.dies c.if-begin_next.false)
