use Rattle.iim_places.specs.States.Restored.{contents_from}
use Rattle.caller_tests.proofs.TicketParts.{same_taken}
use Rattle.caller_tests.proofs.places.octets_of_object.Goals as goal

pub returns-in-Ok : goal.returns-in-Ok
returns-in-Ok c =
    same_taken c.place_laws.ensures.place_tickets_have_contents c.place_laws.ensures.contents_are_unique c.args.ticket.now (contents_from c.in-Ok.parts)
    c.in-Ok.ensures.parts
