use Rattle.std.proofs.Common.{◌==◌, ℕ, count_ones, take, sym, ap, ◌∙◌}
use Rattle.std.proofs.lemmas.Simd.{ones-mask_l}
use Rattle.iim_script.proofs.Plains.{allowed_prefix}
use Rattle.iim_script.proofs.text.feeds_in_block.Goals as goal

pub returns : goal.returns
returns c =
    let feeds = c.feed_mask-feeds.ensures in (
      allowed_prefix 16 c.args.block.now (λ k. (c.type_inv.block k).fits) (sym c.low_in_block.ensures ∙ (c.if-low_in_block-feeds.false ∙ feeds)),
      ap count_ones feeds ∙ ones-mask_l (λ (b : ℕ). b == 10) (take 16 c.args.block.now),
    )
