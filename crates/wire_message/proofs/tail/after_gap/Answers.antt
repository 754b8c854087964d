use Rattle.std.proofs.Common.{[], sym, ◌∙◌}
use Rattle.wire_message.specs.declared.place.Place.TheVariants.{Gap}
use Rattle.wire_message.proofs.{Goings.gap_ends, Living.dies, Alike.stands_two}
use Rattle.wire_message.proofs.tail.after_gap.Goals as goal

pub returns-then-ends_gap-clause-takes : goal.returns-then-ends_gap-clause-takes
returns-then-ends_gap-clause-takes c =
    gap_ends c.args.head c.args.count c.args.feed c.new-text.result c.args.rest.now c.requires.some c.requires.place
    (c.requires.place.0, stands_two c.new-text.result [] c.new-text.ensures.stands) c.new-text.ensures.stands (sym c.ends_gap.ensures ∙ c.if-ends_gap.true)

pub returns-clause-dies : goal.returns-clause-dies
returns-clause-dies c = dies (Gap c.args.head c.args.count c.args.feed) _ c.requires.place c.requires.ends (sym c.ends_gap.ensures ∙ c.if-ends_gap.false)
