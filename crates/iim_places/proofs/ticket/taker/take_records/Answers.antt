use Rattle.iim_places.proofs.Taking.{no_more}
use Rattle.iim_places.proofs.ticket.taker.take_records.Goals as goal

pub returns-else-take_fields-clause-all : goal.returns-else-take_fields-clause-all
returns-else-take_fields-clause-all g c all =
    let none = rw c.if-take_fields.false at (c.take_fields.ensures.all all) in rw c.if-take_fields.false (λ ds s. no_more _ ds _ _ (none ds s))
