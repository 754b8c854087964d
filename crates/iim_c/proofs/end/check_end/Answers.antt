use Rattle.std.proofs.Common.{ℕ, ap, sym, subst, ◌∙◌, ◌≡◌, inl, inr}
use Rattle.iim_c.specs.{Format.Answers.status_answer, Format.Answers.refusal_answer, Format.Answers.IimAnswer, Format.Feeding.HasNoState}
use Rattle.iim_c.specs.Format.Statuses as status
use Rattle.iim_c.proofs.Places.{begun, is_done, said}
use Rattle.iim_c.proofs.end.check_end.Goals as goal

pub returns-in-Err : goal.returns-in-Err
returns-in-Err c = inr (subst (HasNoState c.args.limits c.args.ticket.now) (sym c.ticket_answer.ensures) c.in-Err.ensures.fault)

pub returns-in-Some : goal.returns-in-Some
returns-in-Some c = inl (said (begun c.place_laws.ensures c.args.limits c.args.ticket.now c.args.at c.in-Ok.unpacker c.in-Ok.ensures.begun) _ _
    (λ p a stands.
    let t = c.in-Some.ensures.truncated p a stands in
    let same : c.in-Some.refusal ≡ t.0 = (let h = t.1 in cc) in
    (t.0, t.2, c.refusal_answer.ensures ∙ ap (refusal_answer status.truncated) same))
    (λ p a done. let h = c.in-Some.ensures.done (is_done done) in cc))

pub returns : goal.returns
returns c = inl (said (begun c.place_laws.ensures c.args.limits c.args.ticket.now c.args.at c.in-Ok.unpacker c.in-Ok.ensures.begun) _ _
    (λ p a stands. let h = (c.in-None.ensures.truncated p a stands).1 in cc)
    (λ p a done. ap (λ (a : IimAnswer). record a { octet = c.octets.result }) c.status_answer.ensures
    ∙ ap (λ (n : ℕ). record (status_answer status.done) { octet = n }) (c.octets.ensures ∙ done.counts)))
