use Rattle.iim_places.proofs.ObjectPlaces.{end_refused}
use Rattle.iim_places.proofs.ticket.object.ended.Goals as goal

pub returns-in-Err-clause-none : goal.returns-in-Err-clause-none
returns-in-Err-clause-none c = end_refused c.layer_lemmas.ensures.tokens c.args.object _ _ c.in-Err.field-0 c.in-Err.ensures.refused
