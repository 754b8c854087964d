use Rattle.std.proofs.Common.{◌==◌, ℕ, nat_eq, count_ones, arith, ap, take, w8, ◌∙◌}
use Rattle.std.proofs.lemmas.List.{length-take-le}
use Rattle.std.proofs.lemmas.Simd.{bitmask_splat, ones-mask_l}
use Rattle.wire_story.proofs.size.feeds_in_block.Goals as goal

pub returns : goal.returns
returns c =
    let block = take 16 c.args.block.now in
    ap count_ones (bitmask_splat w8 nat_eq block 16 10 (length-take-le 16 c.args.block.now c.requires) (omega arith)) ∙ ones-mask_l (λ (b : ℕ). b == 10) block
