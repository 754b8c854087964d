use Rattle.std.proofs.Common.{arith}
use Rattle.wire_story.proofs.Blanks.{begun_by_mask, blanks_small}
use Rattle.wire_story.proofs.word_count.count_words_begun.Goals as goal

pub overflow_mul-begun : goal.overflow_mul-begun
overflow_mul-begun c = grind (arith, begun_by_mask, blanks_small)

pub overflow_add-begun : goal.overflow_add-begun
overflow_add-begun c = grind (arith, begun_by_mask, blanks_small)

pub overflow_sub-result : goal.overflow_sub-result
overflow_sub-result c = grind (arith, begun_by_mask, blanks_small)

pub returns : goal.returns
returns c = grind (arith, begun_by_mask, blanks_small)
