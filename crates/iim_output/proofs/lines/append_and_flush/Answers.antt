use Rattle.std.proofs.Common.{refl}
use Rattle.iim_output.proofs.Holding.{partly_written_by_flush}
use Rattle.iim_output.proofs.lines.append_and_flush.Goals as goal

pub returns-in-Err-clause-err : goal.returns-in-Err-clause-err
returns-in-Err-clause-err g c = (
  refl,
  partly_written_by_flush g.W.Target.state c.writes_join.ensures c.args.output.now c.append.new.output c.flush.new.self c.args.text.now
      c.in_ok-append.ensures.ok
      c.in-Err.ensures.write_failed,
)
