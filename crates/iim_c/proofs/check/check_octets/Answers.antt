-- The result of checking octets in memory.
use Rattle.iim_c.proofs.Words.{[], length, ◌∙◌, arith, sum_capped, ◌≡◌, ℕ, ◌<◌, List, inl, sym, ap, subst, Limits, IsTruncatedAt, Refusal, refusal_answer}
use Rattle.iim_places.specs.{Format.Causes.refusal_at, Laws.StreamsHaveOneResult}
use Rattle.iim_places.specs.Format.Streams.{Answer, Answers, Finished, Refused, Truncated}
use Rattle.iim_c.specs.{Format.Answers.IimAnswer, Format.Checking.ReturnsChecked, Format.Checking.IsOnlyAnswer, Format.Checking.answer_for}
use Rattle.iim_c.proofs.Places.{refusal_is_not_of_sink}
use Rattle.iim_c.proofs.check.check_octets.Goals as goal

-- both clauses follow from an answer of the stream
record Answered (limits : Limits) (octets : List ℕ) (told : IimAnswer) : Type 0 where
  answer : ReturnsChecked limits octets told
  only : IsOnlyAnswer limits octets told

answered : StreamsHaveOneResult → (limits : Limits) (octets : List ℕ) (told : IimAnswer) (a : Answer) → Answers limits octets a → told ≡ answer_for a
    → Answered limits octets told
answered law limits octets told a holds is = record {
  answer = inl (a, holds, is);
  only = λ b other. inl (is ∙ ap answer_for (law limits octets a b holds other));
}

pub returns-in-Ok-Done : goal.returns-in-Ok-Done
returns-in-Ok-Done c =
    let goes = rw c.in-Ok-Done.field-0-is at (c.in-Ok-Done.ensures.goes.1.2 [] 0 c.in-Ok.ensures.stands) in
    let same = c.in-Ok-Done.ensures.limits c.in-Ok.ensures.stands.taking ∙ c.in-Ok.ensures.limits in
    let a = answered c.place_laws.ensures.streams_have_one_result c.args.limits c.args.octets.now c.complete_answer.result
    (Finished c.in-Ok-Done.used goes.1.value)
    (record { fits = goes.0; envelope = record { admits = goes.1.admits; within = rw same at goes.1.within } }) c.complete_answer.ensures in
    record { answer = a.answer; only = a.only }

pub returns-in-Some : goal.returns-in-Some
returns-in-Some c =
    let octets = c.args.octets.now in
    let goes = rw c.in-Ok-More.field-0-is at (c.in-Ok-More.ensures.goes.1.2 [] 0 c.in-Ok.ensures.stands) in
    let same = c.in-Ok-More.ensures.limits c.in-Ok.ensures.stands.taking ∙ c.in-Ok.ensures.limits in
    let t = c.in-Some.ensures.truncated octets (sum_capped 0 (length octets)) goes.0 in
    let is_e : t.0 ≡ c.in-Some.refusal = (let h = t.1 in cc) in
    let at : IsTruncatedAt octets (length octets) t.0 = subst (λ (n : ℕ). IsTruncatedAt octets n t.0) (omega arith) t.2 in
    let a = answered c.place_laws.ensures.streams_have_one_result c.args.limits octets c.refusal_answer.result (Truncated c.in-Some.refusal)
    (record { is_open = rw same at goes.0.is_open; refusal = subst (IsTruncatedAt octets (length octets)) is_e at }) c.refusal_answer.ensures in
    record { answer = a.answer; only = a.only }

pub unreachable-requires : goal.unreachable-requires
unreachable-requires c =
    let goes = rw c.in-Ok-More.field-0-is at (c.in-Ok-More.ensures.goes.1.2 [] 0 c.in-Ok.ensures.stands) in
    let bad = (c.in-None.ensures.truncated c.args.octets.now (sum_capped 0 (length c.args.octets.now)) goes.0).1 in
    cc

pub returns : goal.returns
returns c =
    let r = rw c.in-Ok.ensures.limits at (c.in-Err.ensures.refused.2 [] 0 c.in-Ok.ensures.stands) in
    let within : r.k < length c.args.octets.now = r.within in
    let at : sum_capped 0 r.k ≡ r.k = omega arith in
    let octet : c.in-Err.refusal.octet ≡ r.k = ap (λ (f : Refusal). f.octet) r.refusal ∙ at in
    let a = answered c.place_laws.ensures.streams_have_one_result c.args.limits c.args.octets.now c.refusal_answer-in-Err.result (Refused c.in-Err.refusal) (
      record {
        fits = omega (arith, octet, within);
        fault = r.fault;
        refusal = r.refusal ∙ ap (λ (n : ℕ). refusal_at n r.fault) (at ∙ sym octet);
        refuses = rw octet r.refuses;
      },
      refusal_is_not_of_sink c.in-Err.refusal.cause c.in-Err.ensures.counted,
    )
    c.refusal_answer-in-Err.ensures in
    record { answer = a.answer; only = a.only }
