use Rattle.wire_story.proofs.Blanks.{rest_begun, begun_few}
use Rattle.std.proofs.Common.{◌==◌, arith}
use Rattle.wire_story.proofs.Blanks.{next_begun, outside_few}
use Rattle.wire_story.proofs.word_count.count_in_wide_blocks.Goals as goal

pub loop-at-preserved : goal.loop-at-preserved
loop-at-preserved c =
    let next = next_begun (c.args.before == 0) c.args.octets.now c.loop-at.at in
    record { room = omega arith; one = grind (arith, outside_few); begun = cc; last = cc }

pub overflow_add-begun : goal.overflow_add-begun
overflow_add-begun c = grind (arith, next_begun, rest_begun, begun_few, outside_few)

pub overflow_add-result : goal.overflow_add-result
overflow_add-result c = grind (arith, next_begun, rest_begun, begun_few, outside_few)

pub returns-clause-begun : goal.returns-clause-begun
returns-clause-begun c = grind (arith, next_begun, rest_begun, begun_few, outside_few)

pub returns-clause-last : goal.returns-clause-last
returns-clause-last c = grind (arith, next_begun, rest_begun, begun_few, outside_few)
