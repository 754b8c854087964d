use Rattle.std.proofs.Common.{refl}
use Rattle.iim_places.proofs.{Words.ObjectEnded, Words.place_after, ObjectPlaces.before_size, Results.if_none}
use Rattle.iim_places.proofs.ticket.object.confirmed_at.Goals as goal

pub returns-in_err-object-clause-none : goal.returns-in_err-object-clause-none
returns-in_err-object-clause-none c = rw c.from_residual.ensures
    (λ p at is. c.in_err-object.ensures.none p at (before_size c.layer_lemmas.ensures.tokens p c.args.taken is))

pub returns-clause-none : goal.returns-clause-none
returns-clause-none c =
    if_none _ _ c.confirmed.result
    (λ none p at is. none (place_after p ObjectEnded) (c.in_ok-object.ensures.stands p at (before_size c.layer_lemmas.ensures.tokens p c.args.taken is)) refl
    is) c.confirmed.ensures.none
