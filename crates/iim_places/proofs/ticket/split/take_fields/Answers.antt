use Rattle.iim_places.proofs.Splitting.{split_encodes}
use Rattle.iim_places.proofs.ticket.split.take_fields.Goals as goal

pub returns : goal.returns
returns c =
    let told = split_encodes _ _ c.in_ok-count.start.now c.in_ok-rest.rest.now _ _ c.in_ok-count.ensures.fits c.in_ok-count.ensures.parts
    c.in_ok-rest.ensures.parts
    c.split_at.ensures.front c.split_at.ensures.back c.iterate.result c.iterate.ensures.each c.iterate.ensures.spelled in
    record { parts = told.0; fits = told.1; none = tt }
