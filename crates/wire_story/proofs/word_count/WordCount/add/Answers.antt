use Rattle.std.proofs.Common.{arith}
use Rattle.wire_story.proofs.Blanks.{outside_count}
use Rattle.wire_story.proofs.word_count.WordCount.add.Goals as goal

pub returns : goal.returns
returns c = grind (arith, outside_count)
