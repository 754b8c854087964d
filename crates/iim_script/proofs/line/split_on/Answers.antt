use Rattle.std.proofs.Common.{arith}
use Rattle.iim_script.proofs.Cuts.{has_none}
use Rattle.iim_script.proofs.Cuts.{cut_parts}
use Rattle.iim_script.proofs.line.split_on.Goals as goal

pub returns-then-end-octets-clause-found : goal.returns-then-end-octets-clause-found
returns-then-end-octets-clause-found c = cut_parts c.args.octet c.args.octets.now c.index_of_first-end.result c.index_of_first-end.ensures.place
    c.if-end-octets.true

pub returns-else-end-octets-clause-none : goal.returns-else-end-octets-clause-none
returns-else-end-octets-clause-none c = grind (arith, has_none)
