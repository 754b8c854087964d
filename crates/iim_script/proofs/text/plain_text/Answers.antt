use Rattle.std.proofs.Common.{arith}
use Rattle.iim_script.proofs.Plains.{tells_plain}
use Rattle.iim_script.proofs.text.plain_text.Goals as goal

pub returns-in-Some : goal.returns-in-Some
returns-in-Some c = grind (arith, tells_plain)
