use Rattle.iim_object.specs.Format.Objects.{Confirmed}
use Rattle.iim_object.proofs.Steps.{leads_on, refused}
use Rattle.iim_object.proofs.reading.step.accept_confirmed_size.Goals as goal

pub returns-in-Some-clause-refused : goal.returns-in-Some-clause-refused
returns-in-Some-clause-refused c = refused c.args.state (Confirmed c.args.number) c.in-Some.cause (cc)

pub returns-in-None-clause-leads_on : goal.returns-in-None-clause-leads_on
returns-in-None-clause-leads_on c = leads_on c.args.state (Confirmed c.args.number) (cc)
