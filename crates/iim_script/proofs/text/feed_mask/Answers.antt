use Rattle.iim_script.proofs.Words.{take, nat_eq, arith, w8, length-take-le, bitmask_splat}
use Rattle.iim_script.proofs.text.feed_mask.Goals as goal

pub returns : goal.returns
returns c = bitmask_splat w8 nat_eq (take 16 c.args.block.now) 16 10 (length-take-le 16 c.args.block.now c.requires) (omega arith)
