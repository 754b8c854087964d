use Rattle.std.proofs.Common.{arith}
use Rattle.iim_script.proofs.Texts.{escape_begins, escape_at}
use Rattle.iim_script.proofs.shown.escape.Goals as goal

pub returns-in-Some-clause-some : goal.returns-in-Some-clause-some
returns-in-Some-clause-some c =
    escape_begins c.args.after.now c.in-Some.octet (omega (arith, c.if-after-lt3.false)) c.if-after-ne120.false c.in-Some.ensures.some

pub returns-in-None-clause-none : goal.returns-in-None-clause-none
returns-in-None-clause-none c = λ octet rest h. c.in-None.ensures.none octet (escape_at c.args.after.now rest octet h).2
