use Rattle.std.proofs.Common.{arith}
use Rattle.iim_places.proofs.{ObjectPlaces.may_end, ObjectPlaces.before_end, Results.if_none}
use Rattle.iim_places.proofs.ticket.object.ended_at.Goals as goal

pub returns-clause-none : goal.returns-clause-none
returns-clause-none c =
    if_none _ _ c.ended.result
    (λ none p at is. none p (c.in_ok-object.ensures.stands p at (before_end c.layer_lemmas.ensures.tokens p at.not_ended is)) (may_end p at.not_ended is) is)
    c.ended.ensures.none

pub returns-in_err-object-clause-none : goal.returns-in_err-object-clause-none
returns-in_err-object-clause-none c = grind (arith, may_end, before_end)
