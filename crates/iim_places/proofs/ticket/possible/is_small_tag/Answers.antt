use Rattle.std.proofs.Common.{arith}
use Rattle.iim_places.proofs.SmallTags.{small_tag, no_small_tag}
use Rattle.iim_places.proofs.ticket.possible.is_small_tag.Goals as goal

pub returns-then-held-lt5 : goal.returns-then-held-lt5
returns-then-held-lt5 c = grind (arith, small_tag, no_small_tag)

pub returns : goal.returns
returns c = grind (arith, small_tag, no_small_tag)
