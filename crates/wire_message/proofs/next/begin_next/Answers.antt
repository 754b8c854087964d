use Rattle.std.proofs.Common.{sym, ◌∙◌}
use Rattle.wire_message.specs.declared.place.Place.TheVariants.{InHeader}
use Rattle.wire_message.proofs.{Goings.part_ends, Living.dies}
use Rattle.wire_message.proofs.next.begin_next.Goals as goal

pub returns-in-None-clause-dies : goal.returns-in-None-clause-dies
returns-in-None-clause-dies c = λ none. rw c.replace-old.ensures.value at c.in-None.ensures.dies

pub returns-then-not-ends_part-clause-dies : goal.returns-then-not-ends_part-clause-dies
returns-then-not-ends_part-clause-dies c = λ no.
    let at = c.in-InHeader in
    rw at.is
    (dies (InHeader at.part at.texts) _ (rw at.is at c.requires.place) (rw at.is at c.requires.ends) (sym c.ends_part.ensures ∙ c.if-not-ends_part.true))

pub returns-in-Some-clause-takes : goal.returns-in-Some-clause-takes
returns-in-Some-clause-takes c = λ yes.
    part_ends c.in-InHeader.part c.in-InHeader.texts _ _ c.args.rest.now c.requires.some c.in-InHeader.is c.in-Some.ensures c.requires.place
    (sym c.ends_part.ensures ∙ c.if-not-ends_part.false)

pub returns-in_default-begin_part-clause-takes : goal.returns-in_default-begin_part-clause-takes
returns-in_default-begin_part-clause-takes c = λ yes.
    part_ends c.in-InHeader.part c.in-InHeader.texts _ _ c.args.rest.now c.requires.some c.in-InHeader.is c.in_default-begin_part.ensures c.requires.place
    (sym c.ends_part.ensures ∙ c.if-not-ends_part.false)
