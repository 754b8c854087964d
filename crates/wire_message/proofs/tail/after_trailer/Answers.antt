use Rattle.std.proofs.Common.{arith}
use Rattle.wire_message.proofs.Goings.{trailer_ends}
use Rattle.wire_message.specs.declared.place.Place.TheVariants.{Trailer}
use Rattle.wire_message.proofs.Living.{dies}
use Rattle.wire_message.proofs.tail.after_trailer.Goals as goal

pub returns-clause-dies : goal.returns-clause-dies
returns-clause-dies c = dies (Trailer c.args.head c.args.trailer) _ c.requires.place c.requires.ends c.if-rest-eq-EOT.false

pub returns-then-rest-eq-EOT-clause-takes : goal.returns-then-rest-eq-EOT-clause-takes
returns-then-rest-eq-EOT-clause-takes c = grind (arith, trailer_ends)
