use Rattle.std.proofs.Common.{arith}
use Rattle.wire_story.proofs.Collected.{packed_len}
use Rattle.wire_story.proofs.size.text_len.Goals as goal

pub returns-then-len-le-GREATEST_SIZE-clause-len : goal.returns-then-len-le-GREATEST_SIZE-clause-len
returns-then-len-le-GREATEST_SIZE-clause-len c = grind (arith, packed_len)

pub returns-then-len-le-GREATEST_SIZE-clause-fits : goal.returns-then-len-le-GREATEST_SIZE-clause-fits
returns-then-len-le-GREATEST_SIZE-clause-fits c = grind (arith, packed_len)

pub returns-else-len-le-GREATEST_SIZE-clause-fits : goal.returns-else-len-le-GREATEST_SIZE-clause-fits
returns-else-len-le-GREATEST_SIZE-clause-fits c = grind (arith, packed_len)
