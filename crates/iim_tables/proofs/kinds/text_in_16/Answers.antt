use Rattle.std.proofs.Common.{true, arith}
use Rattle.iim_tables.proofs.LaneLemmas.{text_first}
use Rattle.iim_tables.proofs.kinds.text_in_16.Goals as goal

pub returns-then-lines : goal.returns-then-lines
returns-then-lines c = text_first c.args.octets.now 16 c.requires (omega arith) c.args.least c.args.lines true c.if-lines.true
