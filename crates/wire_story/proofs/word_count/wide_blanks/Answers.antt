use Rattle.std.proofs.Common.{take, arith}
use Rattle.std.proofs.lemmas.List.{length-take-le}
use Rattle.wire_story.proofs.Blanks.{blank_lanes}
use Rattle.wire_story.proofs.word_count.wide_blanks.Goals as goal

pub returns : goal.returns
returns c = blank_lanes (take 32 c.args.block.now) 32 (length-take-le 32 c.args.block.now c.requires) (omega arith)
