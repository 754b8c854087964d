use Rattle.iim_object.specs.Format.Objects.{NumberRead}
use Rattle.iim_object.proofs.Steps.{leads_on, refused}
use Rattle.iim_object.proofs.reading.step.accept_number.Goals as goal

pub returns-in-Some-clause-refused : goal.returns-in-Some-clause-refused
returns-in-Some-clause-refused c = refused c.args.state (NumberRead c.args.set c.args.number) c.in-Some.cause (cc)

pub returns-in-None-clause-leads_on : goal.returns-in-None-clause-leads_on
returns-in-None-clause-leads_on c = rw c.with_number-new.ensures (leads_on c.args.state (NumberRead c.args.set c.args.number) (cc))
