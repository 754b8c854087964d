use Rattle.iim_script.proofs.Words.{take, nat_lt, arith, w8, length-take-le, bitmask_splat}
use Rattle.iim_script.proofs.text.low_in_block.Goals as goal

pub returns : goal.returns
returns c = bitmask_splat w8 nat_lt (take 16 c.args.block.now) 16 14 (length-take-le 16 c.args.block.now c.requires) (omega arith)
