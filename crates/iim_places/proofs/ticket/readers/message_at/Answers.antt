use Rattle.std.proofs.Common.{◌≡◌, true, false, sym, subst, ◌∙◌}
use Rattle.wire_message.specs.States.Reading.{ReachesSavedState}
use Rattle.iim_places.proofs.AtPlaces.{same_message, reaches_saved}
use Rattle.iim_places.proofs.ticket.readers.message_at.Goals as goal

pub returns-in_err-message_place-clause-none : goal.returns-in_err-message_place-clause-none
returns-in_err-message_place-clause-none c = rw c.from_residual.ensures
    (λ m octets text is leads count. c.in_err-message_place.ensures.none m octets text is leads)

pub returns-in_err-reader-clause-none : goal.returns-in_err-reader-clause-none
returns-in_err-reader-clause-none c =
    rw c.from_residual-in_err-reader.ensures
    (λ m octets text is leads count.
    let at = subst (ReachesSavedState octets text) (same_message _ _ _ _ m c.in_ok-message_place.field-0 is c.in_ok-message_place.ensures.some) leads in
    let bad : false ≡ true = c.in_err-reader.ensures.exactly.1 (octets, text, at) in cc)

pub returns-then-not-is_reached-clause-none : goal.returns-then-not-is_reached-clause-none
returns-then-not-is_reached-clause-none c m octets text is leads count =
    let at = subst (ReachesSavedState octets text) (same_message _ _ _ _ m c.in_ok-message_place.field-0 is c.in_ok-message_place.ensures.some) leads in
    let bad : false ≡ true = sym c.if-not-is_reached.true ∙ c.is_reached.ensures.1 (octets, text, c.in_ok-reader.ensures.stands octets text at, count) in cc

pub returns-clause-some : goal.returns-clause-some
returns-clause-some c =
    let place = c.in_ok-message_place.field-0 in
    let led = c.is_reached.ensures.0 c.if-not-is_reached.false in
    let saved = reaches_saved c.in_ok-reader.reader led.0 led.1 place c.in_ok-reader.ensures.place led.2 in
    (place, c.in_ok-message_place.ensures.some, (led.0, led.1, saved, led.3), c.in_ok-reader.ensures.stands)
