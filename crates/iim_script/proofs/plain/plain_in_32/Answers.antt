use Rattle.std.proofs.Common.{arith}
use Rattle.iim_script.proofs.Put.{unescaped_part}
use Rattle.iim_script.proofs.plain.plain_in_32.Goals as goal

pub returns : goal.returns
returns c = unescaped_part c.args.octets.now 32 c.requires (omega arith)
