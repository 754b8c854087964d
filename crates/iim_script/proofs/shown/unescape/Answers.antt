use Rattle.std.proofs.Common.{arith}
use Rattle.iim_script.proofs.Texts.{onto_end, onto_none}
use Rattle.iim_script.proofs.shown.unescape.Goals as goal
use Rattle.iim_script.proofs.Texts.{onto_step}

pub loop-rest-preserved : goal.loop-rest-preserved
loop-rest-preserved c = rw c.in_ok-push.ensures.items
    (onto_step c.args.shown.now c.loop-rest.octets.items c.loop-rest.rest.now c.in-Some.after.now c.in-Some.octet c.loop-rest.invariant c.in-Some.ensures.some)

pub returns-in_default-clause-none : goal.returns-in_default-clause-none
returns-in_default-clause-none c = grind (arith, onto_end, onto_none, onto_step)

pub returns-clause-some : goal.returns-clause-some
returns-clause-some c = grind (arith, onto_end, onto_none, onto_step)
