use Rattle.std.proofs.Common.{sym, ◌∙◌}
use Rattle.iim_c.proofs.Places.{begun, restored_is_alive, is_done, not_open, refusal_is_not_of_sink, said}
use Rattle.iim_c.proofs.Tried.{goes_taken, rejected_by_refusal, tells_taken, tells_refused}
use Rattle.iim_c.proofs.next.accepts_next.Goals as goal

pub returns-then-is_done-clause-tried : goal.returns-then-is_done-clause-tried
returns-then-is_done-clause-tried c =
    let u = c.in_ok-unpacker.unpacker in
    let b = begun c.place_laws.ensures c.args.limits c.args.ticket.now 0 u c.in_ok-unpacker.ensures.begun in
    said b _ _ (not_open u (c.is_done.ensures.0 c.if-is_done.true)) (λ p a done. tt)

pub returns-in-Ok-clause-tried : goal.returns-in-Ok-clause-tried
returns-in-Ok-clause-tried c =
    let laws = c.place_laws.ensures in
    let b = begun laws c.args.limits c.args.ticket.now 0 c.in_ok-unpacker.unpacker c.in_ok-unpacker.ensures.begun in
    let same = c.in-Ok.ensures.limits (restored_is_alive b) ∙ b.same in
    said b _ _
    (λ p a stands.
    tells_taken laws.refused_octets_have_no_continuation c.args.limits p c.args.octet
    (goes_taken c.args.limits c.feed.new.self p a c.args.octet _ c.in-Ok.field-0 laws.incomplete_begins_with_no_envelope (rw b.same at stands.is_open) same
    (c.in-Ok.ensures.goes.1.2 p a stands)))
    (λ p a done. let bad = sym (c.is_done.ensures.1 (is_done done)) ∙ c.if-is_done.false in cc)

pub returns-clause-tried : goal.returns-clause-tried
returns-clause-tried c =
    let laws = c.place_laws.ensures in
    let b = begun laws c.args.limits c.args.ticket.now 0 c.in_ok-unpacker.unpacker c.in_ok-unpacker.ensures.begun in
    said b _ _
    (λ p a stands.
    tells_refused laws.refused_octets_have_no_continuation c.args.limits p c.args.octet
    (rejected_by_refusal c.args.limits p a c.args.octet _ c.in-Err.field-0 (refusal_is_not_of_sink c.in-Err.field-0.cause c.in-Err.ensures.counted)
    (rw b.same at (c.in-Err.ensures.refused.2 p a stands))))
    (λ p a done. let bad = sym (c.is_done.ensures.1 (is_done done)) ∙ c.if-is_done.false in cc)
