use Rattle.iim_commands.proofs.Imports.{take, lines_from, HasBuffered}
use Rattle.iim_commands.proofs.audit.write_report.Given as goal

abbrev pub invariant-rows : goal.invariant-rows
invariant-rows g l = HasBuffered g.W.Target.state l.fn.output l.output (lines_from 1 (take l.index l.report))
