use Rattle.iim_object.specs.Format.Objects.{Confirmed}
use Rattle.iim_places.proofs.ObjectPlaces.{value_refused}
use Rattle.iim_places.proofs.ticket.object.confirmed.Goals as goal

pub returns-in-Err-clause-none : goal.returns-in-Err-clause-none
returns-in-Err-clause-none c = value_refused c.layer_lemmas.ensures.tokens c.args.object (Confirmed c.args.size) c.in-Err.field-0 c.in-Err.ensures.refused
