use Rattle.iim_unpack.proofs.Words.{IsDoneWith, HasRead, Unpacking, length, limits_in, no_some, subst, sym, ◌*◌, ◌+◌, ◌∙◌, ◌≤◌, ◌⊎◌}
use Rattle.iim_unpack.proofs.Held.{short_ticket, ticket_by}
use Rattle.iim_unpack.proofs.unpacker.Unpacker.save.Goals as goal

pub returns-in-Some-clause-ticket : goal.returns-in-Some-clause-ticket
returns-in-Some-clause-ticket c =
    λ p a at. ticket_by c.layer_lemmas.ensures.events_tell _ p c.in-Some.ticket.items a c.in-Some.ensures
    (subst (λ (w : Unpacking). HasRead w p a ⊎ IsDoneWith w p a) (sym c.self.view_is) at)

pub returns-in-Some-clause-short : goal.returns-in-Some-clause-short
returns-in-Some-clause-short c =
    let stood = (c.self.invariant (no_some c.self.inside.refused (sym c.is_some.ensures ∙ c.if-is_some.false))).stood in
    subst (λ (w : Unpacking). length c.in-Some.ticket.items ≤ (limits_in w).octets + 6 * (limits_in w).fields + 256) c.self.view_is
    (short_ticket c.layer_lemmas.ensures.events_tell _ c.in-Some.ticket.items c.in-Some.ensures stood)
