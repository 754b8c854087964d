use Rattle.std.proofs.Common.{arith}
use Rattle.iim_dataset.proofs.HeldTags.{first_have, first_begin, first_refuse}
use Rattle.iim_dataset.proofs.place.read_tag.Goals as goal

pub returns-clause-found : goal.returns-clause-found
returns-clause-found c = grind (arith, first_have, first_begin, first_refuse)

pub returns-clause-fault : goal.returns-clause-fault
returns-clause-fault c = grind (arith, first_have, first_begin, first_refuse)
