-- Tickets, and the states that they encode.
use Rattle.std.proofs.Common.{◌≡◌, ℕ, List, sym, subst, ap}
use Rattle.iim_places.specs.{Format.TicketForm.Contents, Format.TicketForm.HasContents, Format.Tickets.Place, States.Restored.EncodesPlace}
use Rattle.iim_places.specs.Laws.{ContentsAreUnique, PlaceTicketsHaveContents, contents_of}

-- The parts of a state's ticket are those of the state.
pub same_taken : PlaceTicketsHaveContents → ContentsAreUnique → (ticket : List ℕ) (s : Contents) → HasContents ticket s → (place : Place)
    → EncodesPlace ticket place → s.taken ≡ place.taken
same_taken of one ticket s is place at =
    ap (λ (x : Contents). x.taken) (one ticket s (contents_of at.version place) is
    (subst (λ (t : List ℕ). HasContents t (contents_of at.version place)) (sym at.spelled) (of at.version place at.is_version at.possible)))
