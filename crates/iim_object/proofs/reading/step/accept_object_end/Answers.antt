use Rattle.iim_object.proofs.{Words.Some, Words.ObjectEnded, Steps.leads_on, Steps.refused, Steps.lives_with}
use Rattle.iim_object.proofs.reading.step.accept_object_end.Goals as goal

pub returns-in-Some-clause-refused : goal.returns-in-Some-clause-refused
returns-in-Some-clause-refused c = refused c.args.state ObjectEnded c.in-Some.cause (cc)

pub returns-in-None-clause-leads_on : goal.returns-in-None-clause-leads_on
returns-in-None-clause-leads_on c = leads_on c.args.state ObjectEnded (cc)

pub returns-in-None-clause-lives : goal.returns-in-None-clause-lives
returns-in-None-clause-lives c = lives_with (Some c.args.state) (Some c.args.state) ObjectEnded (leads_on c.args.state ObjectEnded (cc))
