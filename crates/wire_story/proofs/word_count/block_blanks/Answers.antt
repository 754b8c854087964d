use Rattle.std.proofs.Common.{take, arith}
use Rattle.std.proofs.lemmas.List.{length-take-le}
use Rattle.wire_story.proofs.Blanks.{blank_lanes}
use Rattle.wire_story.proofs.word_count.block_blanks.Goals as goal

pub returns : goal.returns
returns c = blank_lanes (take 16 c.args.block.now) 16 (length-take-le 16 c.args.block.now c.requires) (omega arith)
