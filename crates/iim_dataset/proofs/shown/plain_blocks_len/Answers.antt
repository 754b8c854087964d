use Rattle.std.proofs.Common.{arith}
use Rattle.iim_dataset.proofs.PlainLanes.{more_plain}
use Rattle.std.proofs.lemmas.List.{take_rest}
use Rattle.iim_dataset.proofs.shown.plain_blocks_len.Goals as goal

pub loop-at-preserved : goal.loop-at-preserved
loop-at-preserved c = grind (arith, more_plain, take_rest)
