use Rattle.iim_audit.proofs.Words.{◌≡◌, take, lines_from}
use Rattle.iim_audit.proofs.text.report_text.Given as goal

abbrev pub invariant-rows : goal.invariant-rows
invariant-rows l = l.text.items ≡ lines_from 1 (take l.index l.report)
