-- The octets with which the story of an object is no longer viable.
use Rattle.std.proofs.Common.{◌≡◌, ℕ, zero, suc, ◌+◌, ◌<◌, ◌⊎◌, Bool, true, false, List, [], ◌∷◌, ◌++◌, length, replicate, refl, ap, ◌∙◌, inl, inr, arith, append-nil, append_assoc}
use Rattle.iim_places.proofs.Words.{list_any, position_or_len, after_first, cases_Bool, ne_eqb, nat_tests, list_any-append, list_all-append, drop-append-add, IsOctet, IsTextSoFar, EndsInReturns, is_line_octet, LayerLemmas, after_stx, text_so_far, EndsViableStoryIn, IsInText}
use Rattle.iim_places.proofs.Living.{after_found, after_none, before_found, before_later, before_all, place_later, is_etx, is_stx}
use Rattle.wire_story.specs.States.Reading.{IsLoneReturn}
use Rattle.wire_story.proofs.SoFar.{so_far_two}

-- ---- the text has begun, and has not ended

-- nothing follows the first octet of a kind if it is the last octet, or if there is none
after_last : (p : ℕ → Bool) (x : List ℕ) (b : ℕ) → list_any p x ≡ false → after_first p (x ++ b ∷ []) ≡ []
after_last p x b none =
    let sum : position_or_len p (x ++ b ∷ []) + 1 ≡ length x + (position_or_len p (b ∷ []) + 1) = omega (arith, place_later p x (b ∷ []) none) in
    rw (sum, drop-append-add x (b ∷ [])) (elim (cases_Bool (p b)) [ inl is ↦ rw is | inr not' ↦ rw not' ])

pub in_text : (o : List ℕ) (b : ℕ) → EndsViableStoryIn o b → IsInText o
in_text o b (lives, dies) = elim (cases_Bool (list_any is_stx o)) [
  | inr none ↦ absurd (dies (rw (after_last is_stx o b none) (rw (after_none is_stx o none) at lives)))
  | inl found ↦ (
    found,
    elim (cases_Bool (list_any is_etx (after_stx o))) [
      | inr none ↦ none
      | inl ended ↦ absurd (dies (rw (after_found is_stx o (b ∷ []) found, before_found is_etx (after_stx o) (b ∷ []) ended, list_any-append, ended)
          (rw ended at lives)))
    ],
  )
]

-- an octet of the text that reaches an incomplete text
no_death : LayerLemmas → (o : List ℕ) (b held : ℕ) → EndsViableStoryIn o b → (b ≡ 3 → ⊥) → EndsInReturns (text_so_far o ++ b ∷ []) held → ⊥
no_death laws o b held dies other holds =
    let is = in_text o b dies in
    let s = after_stx o in
    let alive = (laws.stories_live (s ++ b ∷ [])).1 (held, rw (before_all is_etx s is.1) at holds) in
    let all : list_any is_etx (s ++ b ∷ []) ≡ false = rw (list_any-append is_etx s (b ∷ []), is.1, ne_eqb b 3 other) refl in
    dies.1 (rw (after_found is_stx o (b ∷ []) is.0, before_all is_etx (s ++ b ∷ []) all, all, append-nil) alive)

-- ---- incomplete texts with one more octet

-- an incomplete text continues as its last line does
goes_on : (x y : List ℕ) (lines new : List (List ℕ)) (line last : List ℕ) (held returns : ℕ)
    → ((z : List ℕ) → IsTextSoFar z [] line held → IsTextSoFar (z ++ y) new last returns) → IsTextSoFar x lines line held
    → IsTextSoFar (x ++ y) (lines ++ new) last returns
goes_on x y [] new line last held returns step is = step x is
goes_on x y (first ∷ lines) new line last held returns step (good, some, few, rest, parts, more) =
    (good, some, few, rest ++ y, rw parts (simp append_assoc), goes_on rest y lines new line last held returns step more)

one_more : (b n : ℕ) → replicate n b ++ b ∷ [] ≡ replicate (n + 1) b
one_more b zero = refl
one_more b (suc n) = (λ i. b ∷ one_more b n i) ∙ ap (λ (k : ℕ). replicate k b) (let same : suc (n + 1) ≡ suc n + 1 = omega arith in same)

-- an octet that is not allowed in a line, and is no part of its end
control_octet : (b : ℕ) → b < 256 → is_line_octet b ≡ false → (b ≡ 3 → ⊥) → (b ≡ 10 → ⊥) → (b ≡ 13 → ⊥) → (b ≡ 1) ⊎ ((b ≡ 2) ⊎ (b ≡ 4))
control_octet b low other not3 not10 not13 = grind (arith, nat_tests)

-- ---- why the story is no longer viable

module _ (laws : LayerLemmas) (o : List ℕ) (b : ℕ) (dies : EndsViableStoryIn o b) where
  -- LF is always accepted
  no_feed : (held : ℕ) → EndsInReturns (text_so_far o) held → b ≡ 10 → ⊥
  no_feed held (lines, line, so_far) feed =
      no_death laws o b 0 dies (λ three. omega (arith, three, feed)) (rw feed (
        lines ++ line ∷ [],
        [],
        goes_on (text_so_far o) (10 ∷ []) lines (line ∷ []) line [] held 0
            (λ z is. (is.0, held, is.1, [], rw is.2 (simp (append_assoc, append-nil)), (refl, omega arith, refl))) so_far,
      ))

  -- a CR is accepted if it is the first or the second
  no_return : (held : ℕ) → held < 2 → EndsInReturns (text_so_far o) held → b ≡ 13 → ⊥
  no_return held less (lines, line, so_far) return' =
      no_death laws o b (held + 1) dies (λ three. omega (arith, three, return')) (rw return' (
        lines ++ [],
        line,
        goes_on (text_so_far o) (13 ∷ []) lines [] line line held (held + 1)
            (λ z is. (is.0, omega (arith, less), rw (is.2, append_assoc, one_more 13 held) refl)) so_far,
      ))

  -- if CR are pending: an octet that is neither LF nor the second CR
  pub lone_return : (held : ℕ) → 0 < held → EndsInReturns (text_so_far o) held → IsLoneReturn held b
  lone_return held some (lines, line, so_far) = (
    some,
    no_feed held (lines, line, so_far),
    λ return'. let full = λ (less : held < 2). no_return held less (lines, line, so_far) return' in
        omega (arith, so_far_two (text_so_far o) lines line held so_far, full),
  )

  -- if none are pending: SOH, STX or EOT, since each other octet is allowed in a line, or ends the
  -- text or a line
  pub control : IsOctet b → EndsInReturns (text_so_far o) 0 → (b ≡ 1) ⊎ ((b ≡ 2) ⊎ (b ≡ 4))
  control low holds = let (lines, line, so_far) = holds in elim (cases_Bool (is_line_octet b)) [
    | inr other ↦ control_octet b low other no_end (no_feed 0 holds) (no_return 0 (omega arith) holds)
    | inl may ↦ absurd (no_death laws o b 0 dies (λ three. let bad : is_line_octet 3 ≡ true = rw three at may in cc) (
      lines ++ [],
      line ++ b ∷ [],
      goes_on (text_so_far o) (b ∷ []) lines [] line (line ++ b ∷ []) 0 0
          (λ z is. (rw (list_all-append is_line_octet line (b ∷ []), is.0, may) refl, is.1, rw is.2 (simp append-nil))) so_far,
    ))
  ]
    where
      no_end : b ≡ 3 → ⊥
      no_end three =
          let is = in_text o b dies in
          let s = after_stx o in
          let ends = (laws.stories_end s).1 ((laws.no_return s).1 (rw (before_all is_etx s is.1) at holds)) in
          let none = list_any-append is_etx s (3 ∷ []) in
          dies.1 (rw (three, after_found is_stx o (3 ∷ []) is.0, before_later is_etx s (3 ∷ []) is.1, none, is.1, append-nil) ends)
