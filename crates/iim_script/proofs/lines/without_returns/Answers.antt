use Rattle.iim_script.proofs.Next.{line_left}
use Rattle.iim_script.proofs.lines.without_returns.Goals as goal

pub returns : goal.returns
returns c line n is few e = line_left line n c.args.ended.now c.without_return.result.now c.without_return-2.result.now is few e c.without_return.ensures
    c.without_return-2.ensures
