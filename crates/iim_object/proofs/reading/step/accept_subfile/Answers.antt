use Rattle.iim_object.proofs.{Words.rules, Words.SubfileBegun, Steps.leads_on, Steps.refused, Staying.subfile_state}
use Rattle.iim_object.proofs.reading.step.accept_subfile.Goals as goal

pub returns-in-Some-clause-refused : goal.returns-in-Some-clause-refused
returns-in-Some-clause-refused c = refused c.args.state (SubfileBegun c.args.count) c.in-Some.cause (cc)

pub returns-in-None-clause-is_state : goal.returns-in-None-clause-is_state
returns-in-None-clause-is_state c = rw c.with_subfile.ensures (subfile_state c.args.state c.args.count c.requires (search rules) (cc))

pub returns-in-None-clause-leads_on : goal.returns-in-None-clause-leads_on
returns-in-None-clause-leads_on c = rw c.with_subfile.ensures (leads_on c.args.state (SubfileBegun c.args.count) (cc))
