use Rattle.std.proofs.Common.{refl}
use Rattle.iim_output.proofs.Holding.{partly_written_by_write}
use Rattle.iim_output.proofs.lines.append.Goals as goal

pub returns-in-Err-clause-err : goal.returns-in-Err-clause-err
returns-in-Err-clause-err g c = (
  refl,
  partly_written_by_write g.W.Target.state c.args.output.now c.put.new.self c.args.text.now c.in-Err.field-0.taken c.in-Err.ensures.refused
      c.in-Err.ensures.write_failed,
)
