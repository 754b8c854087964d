use Rattle.std.proofs.Common.{ℕ, List, [], ◌∷◌, refl, ◌∙◌, Bor}
use Rattle.iim_places.proofs.AtPlaces.{texts_seven}
use Rattle.iim_places.proofs.ticket.readers.message_place.Goals as goal

pub returns-clause-some : goal.returns-clause-some
returns-clause-some c =
    let none : Bor (List ℕ) = record { ref_ptr = (0, 0); now = [] } in
    let texts =
    (λ i. c.in_ok-copy_if_fits.ensures.some i ∷ c.in_ok-copy_if_fits-2.ensures.some i ∷ c.in_ok-copy_if_fits-3.ensures.some i ∷
    c.in_ok-copy_if_fits-4.ensures.some i
    ∷ c.in_ok-copy_if_fits-5.ensures.some i ∷ c.in_ok-copy_if_fits-6.ensures.some i ∷ c.in_ok-copy_if_fits-7.ensures.some i ∷ [])
    ∙ texts_seven c.args.texts.now none c.told-texts in
    record { part_is = c.in_ok-message_part.ensures.some; counter_is = refl; flag_is = refl; texts_are = texts }
