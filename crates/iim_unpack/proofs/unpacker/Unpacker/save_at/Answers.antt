use Rattle.iim_unpack.proofs.Words.{List, Unpacking, arith, length, limits_in, no_some, subst, sym, ℕ, ◌*◌, ◌+◌, ◌<◌, ◌^◌, ◌∙◌, ◌≡◌, ◌≤◌}
use Rattle.iim_places.specs.Format.Streams.{sum_capped}
use Rattle.iim_unpack.specs.States.Restored.{WritesTicketOf}
use Rattle.iim_unpack.proofs.Held.{short_ticket, ticket_by}
use Rattle.iim_unpack.proofs.unpacker.Unpacker.save_at.Goals as goal

-- the length of a ticket fits into 64 bits
counted : (count n octets fields : ℕ) → count ≡ sum_capped 0 n → n ≤ octets + 6 * fields + 256 → octets < 2 ^ 32 → fields < 2 ^ 32 → count ≡ n
counted count n octets fields is few o f = omega (arith, is, few, o, f)

pub returns-clause-ticket : goal.returns-clause-ticket
returns-clause-ticket c =
    let tell = c.layer_lemmas.ensures.events_tell in
    let stood = (c.self.invariant (no_some c.self.inside.refused (sym c.is_some.ensures ∙ c.if-is_some.false))).stood in
    let ticket : List ℕ = c.encode_ticket_at.ensures.0 in
    let spelled = c.encode_ticket_at.ensures.1 in
    let few = short_ticket tell _ ticket spelled stood in
    let here = subst (λ (w : Unpacking). length ticket ≤ (limits_in w).octets + 6 * (limits_in w).fields + 256) c.self.view_is few in
    let counts = counted c.encode_ticket_at.result (length ticket) _ _ c.encode_ticket_at.ensures.2.0 here c.is_reachable.ensures.octets
    c.is_reachable.ensures.fields in
    subst (λ (w : Unpacking). WritesTicketOf w c.encode_ticket_at.new.out c.encode_ticket_at.result) c.self.view_is
    (record {
      ticket = ticket;
      is_ticket = λ p a at. ticket_by tell _ p ticket a spelled at;
      counts = counts;
      few = rw counts few;
      stands = rw counts c.encode_ticket_at.ensures.2.1;
    })
