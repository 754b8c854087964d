use Rattle.wire_message.specs.declared.place.Place.TheVariants.{AfterEnd}
use Rattle.wire_message.proofs.Living.{dies}
use Rattle.wire_message.proofs.next.next_part.Goals as goal

pub returns-in-Filler-clause-dies : goal.returns-in-Filler-clause-dies
returns-in-Filler-clause-dies c = rw c.in-Filler.is c.after_filler.ensures.dies

pub returns-in-Info-clause-dies : goal.returns-in-Info-clause-dies
returns-in-Info-clause-dies c = rw c.in-Info.is c.after_info.ensures.dies

pub returns-in-Gap-clause-dies : goal.returns-in-Gap-clause-dies
returns-in-Gap-clause-dies c = rw c.in-Gap.is c.after_gap.ensures.dies

pub returns-in-Trailer-clause-dies : goal.returns-in-Trailer-clause-dies
returns-in-Trailer-clause-dies c = rw c.in-Trailer.is c.after_trailer.ensures.dies

pub returns-in-AfterEnd-clause-dies : goal.returns-in-AfterEnd-clause-dies
returns-in-AfterEnd-clause-dies c =
    let end = c.in-AfterEnd in
    rw end.is (dies (AfterEnd end.head end.trailer end.count) _ (rw end.is at c.requires.place) (rw end.is at c.requires.ends) tt)
