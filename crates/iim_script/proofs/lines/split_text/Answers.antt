use Rattle.std.proofs.Common.{arith}
use Rattle.iim_script.proofs.Next.{split_one}
use Rattle.iim_script.proofs.Next.{split_more}
use Rattle.iim_script.proofs.lines.split_text.Goals as goal

pub returns-in-Some-clause-more : goal.returns-in-Some-clause-more
returns-in-Some-clause-more c lines h =
    split_more c.args.text.now c.in-Some.ended.now c.in-Some.rest.now c.without_returns.result.now lines h c.in-Some.ensures.found.0 c.in-Some.ensures.found.1
    c.without_returns.ensures

pub returns-in-None-clause-one : goal.returns-in-None-clause-one
returns-in-None-clause-one c = grind (arith, split_one)
