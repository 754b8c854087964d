-- What is consumed of a chunk, prefix after prefix, and what is rejected of it.
use Rattle.std.proofs.Common.{◌≡◌, ◌≢◌, ℕ, false, zero, suc, ◌+◌, ◌-◌, ◌<◌, ◌≤◌, List, [], ◌∷◌, ◌++◌, length, take, drop, slice_index, Option, Some, refl, subst, sym, ap, ◌∙◌, arith, length-drop}
use Rattle.std.proofs.lemmas.List.{take_rest, drop-drop, take-append-drop}
use Rattle.std.specs.List.{slice_range}
use Rattle.iim_dataset.specs.Format.Octets.{CounterRose}
use Rattle.wire_story.specs.Steps.{MaskCovers, IsTextPrefix, BeginsWithLineEnd}
use Rattle.wire_story.specs.Format.Texts.{is_line_octet, line_end, StoryEvent, LineEnd}
use Rattle.wire_story.specs.States.Reading.{SinkCountsTextCause, TextReaderConsumes, TextReaderRejects}
use Rattle.wire_story.specs.declared.marks.Marks.{Marks}
use Rattle.wire_story.specs.declared.fault.TextCause.TheVariants.{LoneReturn, ControlOctet, Sink}
use Rattle.wire_story.specs.declared.fault.TextFault.{TextFault}
use Rattle.wire_story.proofs.{HeldReturns.held_returns, Told.delivered_front, Told.delivered_end}
use Rattle.wire_story.proofs.Pieces.{leads_on, leads_on_front, refuses_front, refuses_told, refuses_lone, refuses_control}

-- Events after other events are the same as all of them joined.
abbrev pub Joins : {S : Type 0} → (S → List StoryEvent → S → Type 0) → Type 0
Joins {S} goes = (a b c : S) (xs ys : List StoryEvent) → goes a xs b → goes b ys c → goes a (xs ++ ys) c

-- A line end precedes what follows it.
end_first : (rest : List ℕ) (end : ℕ) → BeginsWithLineEnd rest end → line_end (end - 1) ++ drop end rest ≡ rest
end_first rest end h = ap (λ (xs : List ℕ). xs ++ drop end rest) (sym h.is) ∙ take-append-drop end rest

-- An LF, and CR LF, come first.
pub feed_first : {rest : List ℕ} → 0 < length rest → slice_index rest 0 ≡ 10 → BeginsWithLineEnd rest 1
feed_first {rest = []} some first = absurd (omega (arith, some))
feed_first {rest = x ∷ more} some first = record { some = omega arith; few = omega arith; within = omega arith; is = rw first refl }

pub both_first : {rest : List ℕ} → 2 ≤ length rest → slice_index rest 0 ≡ 13 → slice_index rest 1 ≡ 10 → BeginsWithLineEnd rest 2
both_first {rest = []} two first second = absurd (omega (arith, two))
both_first {rest = x ∷ []} two first second = absurd (omega (arith, two))
both_first {rest = x ∷ y ∷ more} two first second = record { some = omega arith; few = omega arith; within = omega arith; is = rw (first, second) refl }

module _ {S : Type 0} {goes : S → List StoryEvent → S → Type 0} {failures : S → ℕ} where
  -- ---- A prefix, and then more.

  -- A prefix was consumed, and then one of what remains.
  pub takes_both : Joins goes → (piece : List ℕ) (i k : ℕ) {old mid new : Option ℕ} {a b c : S} → TextReaderConsumes goes failures old (take i piece) mid a b
      → TextReaderConsumes goes failures mid (take k (slice_range piece i (length piece))) new b c → TextReaderConsumes goes failures old (take
      (i + k) piece) new a c
  takes_both joined piece i k {old = old} {mid = mid} {new = new} {a = a} {b = b} {c = c} first then = record {
    leads_on = leads_on_front old mid new piece i k first.leads_on then.leads_on;
    told = subst (λ (es : List StoryEvent). goes a es c) (delivered_front piece i k) (joined a b c _ _ first.told then.told);
    no_failure = then.no_failure ∙ first.no_failure;
  }

  -- A prefix was consumed, and then an octet of what remains was rejected.
  pub refuses_later : Joins goes → (piece : List ℕ) (i : ℕ) {old mid : Option ℕ} {fault : TextFault} {a b c : S}
      → TextReaderConsumes goes failures old (take i piece) mid a b
      → TextReaderRejects goes failures mid (slice_range piece i (length piece)) fault b c → TextReaderRejects goes failures old piece (record {
        taken = i + fault.taken;
        cause = fault.cause;
      }) a c
  refuses_later joined piece i {old = old} {mid = mid} {fault = fault} {a = a} {b = b} {c = c} first then = record {
    before = omega (arith, then.before, ap length (take_rest piece i), length-drop i piece);
    refused = refuses_front old mid piece i fault.taken fault.cause first.leads_on then.refused;
    told = subst (λ (es : List StoryEvent). goes a es c) (delivered_front piece i fault.taken) (joined a b c _ _ first.told then.told);
    counted = subst (λ (n : ℕ). SinkCountsTextCause n (failures c) fault.cause) first.no_failure then.counted;
  }

  -- ---- A line end.

  -- The sink received a line end.
  pub end_taken : {held : ℕ} {rest : List ℕ} {end : ℕ} {a b : S} → BeginsWithLineEnd rest end → held + end ≤ 3 → goes a (LineEnd ∷ []) b → failures b
      ≡ failures a
      → TextReaderConsumes goes failures (Some held) (take end rest) (Some 0) a b
  end_taken {held = held} {end = end} h few told no_failure = rw h.is (record {
    leads_on = leads_on held (line_end (end - 1)) 0 (held_returns held (end - 1) (10 ∷ []) (omega (arith, few, h.some)));
    told = rw delivered_end told;
    no_failure = no_failure;
  })

  -- The sink rejected a line end.
  pub end_refused : {held : ℕ} {rest : List ℕ} {end : ℕ} {a b : S} → BeginsWithLineEnd rest end → held + end ≤ 3 → goes a [] b → CounterRose (failures a)
      (failures b)
      → TextReaderRejects goes failures (Some held) rest (record { taken = end - 1; cause = Sink }) a b
  end_refused {end = zero} h few told counted = absurd (omega (arith, h.some))
  end_refused {held = held} {rest = rest} {end = suc zero} {a = a} {b = b} h few told counted =
      subst (λ (xs : List ℕ). TextReaderRejects goes failures (Some held) xs (record { taken = 0; cause = Sink }) a b) (end_first rest 1 h)
      (record {
        before = omega arith;
        refused = refuses_told held (10 ∷ drop 1 rest) 0 0 (omega arith) refl (λ e. omega (arith, e));
        told = told;
        counted = counted;
      })
  end_refused {held = held} {rest = rest} {end = suc (suc zero)} {a = a} {b = b} h few told counted =
      subst (λ (xs : List ℕ). TextReaderRejects goes failures (Some held) xs (record { taken = 1; cause = Sink }) a b) (end_first rest 2 h)
      (record {
        before = omega arith;
        refused = refuses_told held (13 ∷ 10 ∷ drop 2 rest) 1 0 (omega arith) (held_returns held 1 (10 ∷ []) (omega (arith, few))) (λ e. omega (arith, e));
        told = told;
        counted = counted;
      })
  end_refused {end = suc (suc (suc n))} h few told counted = absurd (omega (arith, h.few))

  -- ---- An octet that gives no event.

  -- One more CR is pending.
  pub return_taken : (rest : List ℕ) {held : ℕ} {a : S} → 0 < length rest → slice_index rest 0 ≡ 13 → held < 2 → goes a [] a
      → TextReaderConsumes goes failures (Some held) (take 1 rest) (Some (held + 1)) a a
  return_taken [] some first few none = absurd (omega (arith, some))
  return_taken (x ∷ rest) {held = held} some first few none =
      rw first (record { leads_on = leads_on held (13 ∷ []) (held + 1) (held_returns held 1 [] (omega (arith, few))); told = none; no_failure = refl })

  -- After CR, an octet other than LF is rejected.
  pub lone_refused : {held : ℕ} {rest : List ℕ} {a : S} → 0 < length rest → 0 < held → slice_index rest 0 ≢ 10 → (slice_index rest 0 ≡ 13 → held ≡ 2)
      → goes a [] a
      → TextReaderRejects goes failures (Some held) rest (record { taken = 0; cause = LoneReturn }) a a
  lone_refused {held = held} {rest = rest} some held_some feed returns none = record {
    before = some;
    refused = refuses_lone held rest held_some feed returns;
    told = none;
    counted = refl;
  }

  -- A control octet is rejected.
  pub control_refused : {rest : List ℕ} {a : S} → 0 < length rest → slice_index rest 0 < 256 → slice_index rest 0 ≢ 10 → slice_index rest 0 ≢ 13
      → is_line_octet (slice_index rest 0) ≡ false → goes a [] a → TextReaderRejects goes failures (Some 0) rest
      (record { taken = 0; cause = ControlOctet }) a a
  control_refused {rest = rest} some fits feed return other none = record {
    before = some;
    refused = refuses_control rest fits feed return other;
    told = none;
    counted = refl;
  }

pub front_after : (rest : List ℕ) (i k held : ℕ) (marks : Marks) → held ≤ 2 → 0 < i + k → i ≤ length rest → k ≤ length (slice_range rest i (length rest))
    → MaskCovers (drop k (slice_range rest i (length rest))) marks → IsTextPrefix rest held (i + k) marks
front_after rest i k held marks few some near within next = record {
  few = few;
  some = some;
  within = omega (arith, near, within, ap length (take_rest rest i), length-drop i rest);
  next = subst (λ (xs : List ℕ). MaskCovers xs marks) (ap (drop k) (take_rest rest i) ∙ drop-drop k i rest) next;
}
