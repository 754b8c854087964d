use Rattle.std.proofs.Common.{arith}
use Rattle.wire_message.proofs.Goings.{info_to_gap}
use Rattle.std.proofs.Common.{sym, ◌∙◌}
use Rattle.wire_message.specs.declared.place.Place.TheVariants.{Info}
use Rattle.wire_message.proofs.Living.{dies}
use Rattle.wire_message.proofs.tail.after_info.Goals as goal

pub returns-clause-dies : goal.returns-clause-dies
returns-clause-dies c = dies (Info c.args.head) _ c.requires.place c.requires.ends (sym c.is_in.ensures ∙ c.if-is_in.false)

pub returns-then-is_in-clause-takes : goal.returns-then-is_in-clause-takes
returns-then-is_in-clause-takes c = grind (arith, info_to_gap)
