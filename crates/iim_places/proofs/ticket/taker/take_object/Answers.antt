use Rattle.iim_places.proofs.Taking.{no_more}
use Rattle.iim_places.proofs.ticket.taker.take_object.Goals as goal

pub returns-else-take_subfile-clause-took : goal.returns-else-take_subfile-clause-took
returns-else-take_subfile-clause-took g c =
    let none = rw c.if-take_subfile.false at c.take_subfile.ensures.took in rw c.if-take_subfile.false (λ ds s. no_more _ ds _ _ (none ds s))
