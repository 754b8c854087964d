use Rattle.std.proofs.Common.{arith}
use Rattle.iim_dataset.proofs.HeldTags.{room_is}
use Rattle.iim_dataset.proofs.place.joined_tag.Goals as goal

pub returns : goal.returns
returns c = grind (arith, room_is)
