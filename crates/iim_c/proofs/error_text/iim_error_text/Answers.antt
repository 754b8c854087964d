use Rattle.iim_c.proofs.ErrorLines.{line_of_command}
use Rattle.iim_c.proofs.error_text.iim_error_text.Goals as goal

pub returns-clause-line : goal.returns-clause-line
returns-clause-line c = line_of_command c.args.number c.args.answer.now
