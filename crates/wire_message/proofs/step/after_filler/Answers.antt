use Rattle.wire_message.specs.declared.place.Place.TheVariants.{Filler}
use Rattle.wire_message.proofs.Living.{dies}
use Rattle.wire_message.proofs.step.after_filler.Goals as goal

pub returns-clause-dies : goal.returns-clause-dies
returns-clause-dies c = dies (Filler c.args.count) _ c.requires.place c.requires.ends c.if-rest-eq-SOH.false
