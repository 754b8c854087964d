use Rattle.std.proofs.Common.{arith}
use Rattle.wire_story.proofs.Blanks.{few_overlap, few_outside, blanks_small}
use Rattle.wire_story.proofs.word_count.count_in_two_blocks.Goals as goal

pub overflow_mul-blanks-2 : goal.overflow_mul-blanks-2
overflow_mul-blanks-2 c = grind (arith, few_overlap, few_outside, blanks_small)

pub overflow_add-blanks : goal.overflow_add-blanks
overflow_add-blanks c = grind (arith, few_overlap, few_outside, blanks_small)

pub count_words_begun-requires-clause-blanks : goal.count_words_begun-requires-clause-blanks
count_words_begun-requires-clause-blanks c = grind (arith, few_overlap, few_outside, blanks_small)

pub count_words_begun-requires-clause-last : goal.count_words_begun-requires-clause-last
count_words_begun-requires-clause-last c = grind (arith, few_overlap, few_outside, blanks_small)

pub returns-clause-last : goal.returns-clause-last
returns-clause-last c = grind (arith, few_overlap, few_outside, blanks_small)
