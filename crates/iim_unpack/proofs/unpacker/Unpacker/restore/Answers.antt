use Rattle.iim_unpack.proofs.Words.{Contents, heads_within, contents_from, ticket_at}
use Rattle.iim_places.proofs.PlacesOfTickets.{limit_reported, no_ticket}
use Rattle.iim_unpack.proofs.unpacker.Unpacker.restore.Goals as goal

pub returns-in_default-clause-fault : goal.returns-in_default-clause-fault
returns-in_default-clause-fault c =
    let s : Contents = contents_from c.in_ok-parts.parts in
    let splits = c.in_ok-parts.ensures.parts in (
      (s, splits),
      no_ticket c.place_laws.ensures.places_are_possible_by_layers c.place_laws.ensures.small_places_were_possible
          c.place_laws.ensures.place_tickets_have_contents c.place_laws.ensures.contents_are_unique c.args.ticket.now s splits c.in_default.ensures.none,
    )

pub returns-in-Some-limit_fault-clause-fault : goal.returns-in-Some-limit_fault-clause-fault
returns-in-Some-limit_fault-clause-fault c =
    let s : Contents = contents_from c.in_ok-parts.parts in
    let at = c.in-Some.ensures.some.at in
    let is = ticket_at c.place_laws.ensures.places_are_possible_by_layers c.place_laws.ensures.small_places_were_possible c.args.ticket.now s at.place
    c.in_ok-parts.ensures.parts at.parts at.leads c.in-Some.ensures.some.small in
    limit_reported c.args.limits c.args.ticket.now s c.in-Some.readers at is c.in-Some-limit_fault.fault c.in-Some-limit_fault.ensures.some

pub returns-in-Err-clause-fault : goal.returns-in-Err-clause-fault
returns-in-Err-clause-fault c =
    let s : Contents = contents_from c.in_ok-parts.parts in
    let at = c.in-Some.ensures.some.at in
    let is = ticket_at c.place_laws.ensures.places_are_possible_by_layers c.place_laws.ensures.small_places_were_possible c.args.ticket.now s at.place
    c.in_ok-parts.ensures.parts at.parts at.leads c.in-Some.ensures.some.small in
    (at.place, is, heads_within c.args.limits s c.in-Some.readers at c.in_default-limit_fault.ensures.none)

pub returns-in-Ok-clause-restored : goal.returns-in-Ok-clause-restored
returns-in-Ok-clause-restored c = c.in-Ok.ensures.restored c.args.ticket.now c.in_ok-parts.ensures.parts
