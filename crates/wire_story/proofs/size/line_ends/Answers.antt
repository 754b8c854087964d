use Rattle.std.proofs.Common.{arith}
use Rattle.wire_story.proofs.Collected.{next_feeds, rest_feeds, few_feeds}
use Rattle.wire_story.proofs.size.line_ends.Goals as goal

pub loop-at-preserved : goal.loop-at-preserved
loop-at-preserved c = grind (arith, next_feeds, rest_feeds, few_feeds)
