use Rattle.std.proofs.Common.{arith}
use Rattle.iim_dataset.proofs.Fronts.{front_of_tag}
use Rattle.iim_dataset.proofs.head.read_head.Goals as goal

pub returns-in-len1-up-clause-fault : goal.returns-in-len1-up-clause-fault
returns-in-len1-up-clause-fault c = grind (arith, front_of_tag)

pub returns-in-len4-up-clause-fault : goal.returns-in-len4-up-clause-fault
returns-in-len4-up-clause-fault c = grind (arith, front_of_tag)

pub returns-in-0-clause-fault : goal.returns-in-0-clause-fault
returns-in-0-clause-fault c = grind (arith, front_of_tag)

pub returns-in-len5-up-2-clause-fault : goal.returns-in-len5-up-2-clause-fault
returns-in-len5-up-2-clause-fault c = grind (arith, front_of_tag)

pub returns-in-len5-up-3-clause-found : goal.returns-in-len5-up-3-clause-found
returns-in-len5-up-3-clause-found c = grind (arith, front_of_tag)

pub returns-in_default-clause-found : goal.returns-in_default-clause-found
returns-in_default-clause-found c = grind (arith, front_of_tag)

pub returns-in_default-2-clause-found : goal.returns-in_default-2-clause-found
returns-in_default-2-clause-found c = grind (arith, front_of_tag)

pub returns-in_default-3-clause-found : goal.returns-in_default-3-clause-found
returns-in_default-3-clause-found c = grind (arith, front_of_tag)

pub returns-in_default-4-clause-found : goal.returns-in_default-4-clause-found
returns-in_default-4-clause-found c = grind (arith, front_of_tag)
