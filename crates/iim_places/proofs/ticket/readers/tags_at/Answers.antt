use Rattle.iim_places.proofs.{Words.TagsReachPhase, Words.head_of_numbers, AtPlaces.no_place}
use Rattle.iim_dataset.specs.declared.place.DatasetPlace.TheVariants.{Tag, Inside}
use Rattle.iim_places.specs.States.Restored.{phase_of_ticket}
use Rattle.iim_places.proofs.ticket.readers.tags_at.Goals as goal

pub returns-in-Data-clause-none : goal.returns-in-Data-clause-none
returns-in-Data-clause-none c =
    let place = Inside (head_of_numbers c.args.section c.in-Data.set c.in-Data.count) c.in-Data.left in
    no_place c.at-in-Data.result place c.at-in-Data.ensures.exactly (c.dataset_states_are_reached.ensures place) (TagsReachPhase c.args.section
    (phase_of_ticket c.args.phase.now))
    (λ lead. let is = rw c.in-Data.is at lead in is.0)

pub returns-in_ok-copy_if_fits-in-Tag-clause-none : goal.returns-in_ok-copy_if_fits-in-Tag-clause-none
returns-in_ok-copy_if_fits-in-Tag-clause-none c =
    let place = Tag c.in_ok-copy_if_fits-in-Tag.field-0 in
    no_place c.at.result place c.at.ensures.exactly (c.dataset_states_are_reached.ensures place) (TagsReachPhase c.args.section
    (phase_of_ticket c.args.phase.now))
    (λ lead. rw (← c.in_ok-copy_if_fits-in-Tag.ensures.some) at (rw c.in-Tag.is at lead))
