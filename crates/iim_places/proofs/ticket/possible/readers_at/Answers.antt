use Rattle.iim_places.specs.{States.Readers.ReadersAreAt, Format.TicketForm.Contents, States.Restored.contents_from}
use Rattle.iim_places.proofs.PlacesOfTickets.{small_place}
use Rattle.iim_places.proofs.ticket.possible.readers_at.Goals.{else-parts-eq-FIRST_VERSION-via-then-parts-eq-FIRST_VERSION+else-not-is_small, else-parts-eq-FIRST_VERSION-via-else-parts-eq-FIRST_VERSION}
use Rattle.iim_places.proofs.ticket.possible.readers_at.Goals as goal

pub returns-clause-some : goal.returns-clause-some
returns-clause-some c =
    let s : Contents = contents_from c.args.parts.now in
    let at : ReadersAreAt s c.in_ok-readers.readers = c.in_ok-readers.ensures.some in
    elim c.else-parts-eq-FIRST_VERSION.branch [
      | else-parts-eq-FIRST_VERSION-via-then-parts-eq-FIRST_VERSION+else-not-is_small w ↦ record {
        at = at;
        small = λ one. small_place s at.place c.requires at.parts one (w.is_small.ensures.0 w.if-not-is_small.false);
      }
      | else-parts-eq-FIRST_VERSION-via-else-parts-eq-FIRST_VERSION w ↦ record { at = at; small = λ one. absurd (w.if-parts-eq-FIRST_VERSION.false one) }
    ]
