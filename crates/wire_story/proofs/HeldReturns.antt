-- A text so far is read octet by octet: its state is the number of pending CR, or `None` if no text
-- begins with the octets.
use Rattle.std.proofs.Common.{◌≡◌, ℕ, zero, suc, ◌+◌, ◌<◌, ◌≤◌, Bool, true, false, ◌&&◌, ◌==◌, nat_lt, List, [], ◌∷◌, ◌++◌, replicate, Option, Some, None, ◌⊎◌, inl, inr, refl, sym, ap, subst, ◌∙◌, arith, append-nil, append_assoc, eqb, option_and_then}
use Rattle.std.proofs.lemmas.Bool.Decides.{nat_tests}
use Rattle.std.proofs.lemmas.Bool.{lt-ltb, both_ways, ne_eqb}
use Rattle.wire_story.specs.Format.Texts.{is_line_octet, IsLine, line_end, IsTextSoFar, EndsInReturns}
use Rattle.wire_story.proofs.Spans.{Are-head, Are-tail, Are-cons}

-- after an LF none is pending; a CR is pending, up to two; another octet of a line may come if none
-- is pending
abbrev pub chosen : Bool → Bool → Bool → Bool → ℕ → Option ℕ
chosen true cr more line held = Some 0
chosen false true true line held = Some (suc held)
chosen false true false line held = None
chosen false false more true held = Some 0
chosen false false more false held = None

-- how many CR are pending after the octet
abbrev pub after_octet : ℕ → ℕ → Option ℕ
after_octet held b = chosen (b == 10) (b == 13) (nat_lt held 2) (is_line_octet b && (held == 0)) held

abbrev pub held_after : ℕ → List ℕ → Option ℕ
held_after held [] = Some held
held_after held (b ∷ bs) = option_and_then (λ h. held_after h bs) (after_octet held b)

later : (f g p : ℕ → Option ℕ) (o : Option ℕ) → ((j : ℕ) → f j ≡ option_and_then p (g j)) → option_and_then f o ≡ option_and_then p (option_and_then g o)
later f g p None e = refl
later f g p (Some j) e = e j

-- The state after octets, by the state after those before them.
pub held_append : (h : ℕ) (xs ys : List ℕ) → held_after h (xs ++ ys) ≡ option_and_then (λ j. held_after j ys) (held_after h xs)
held_append h [] ys = refl
held_append h (b ∷ bs) ys = later _ _ (λ j. held_after j ys) (after_octet h b) (λ j. held_append j bs ys)

-- The octet was LF, or one more CR, or an octet of a line with no CR pending.
abbrev pub Step : ℕ → ℕ → ℕ → Type 0
Step held b k = ((b ≡ 10) × (k ≡ 0)) ⊎ (((b ≡ 13) × (held < 2) × (k ≡ suc held)) ⊎ ((is_line_octet b ≡ true) × (held ≡ 0) × (k ≡ 0)))

pub step_of : (held b k : ℕ) → after_octet held b ≡ Some k → Step held b k
step_of held b k e = grind (arith, nat_tests)

pub not_at : (b c : ℕ) → is_line_octet b ≡ true → is_line_octet c ≡ false → eqb b c ≡ false
not_at b c t f = ne_eqb b c (λ e. both_ways (is_line_octet c) f (ap is_line_octet (sym e) ∙ t))

pub line_octet_step : (b : ℕ) → is_line_octet b ≡ true → after_octet 0 b ≡ Some 0
line_octet_step b t = grind (arith, nat_tests)

-- ---- From a text so far to its pending CR.

pub held_line : (line rest : List ℕ) → IsLine line → held_after 0 (line ++ rest) ≡ held_after 0 rest
held_line [] rest h = refl
held_line (b ∷ bs) rest h =
    ap (option_and_then (λ k. held_after k (bs ++ rest))) (line_octet_step b (Are-head is_line_octet b bs h))
    ∙ held_line bs rest (Are-tail is_line_octet b bs h)

-- CR that follow others.
pub held_returns : (h k : ℕ) (rest : List ℕ) → h + k ≤ 2 → held_after h (replicate k 13 ++ rest) ≡ held_after (h + k) rest
held_returns h zero rest few = ap (λ n. held_after n rest) (omega arith)
held_returns h (suc k) rest few =
    let next : after_octet h 13 ≡ Some (suc h) = ap (λ t. chosen false true t (is_line_octet 13 && (h == 0)) h) (lt-ltb h 2 (omega arith)) in
    ap (option_and_then (λ n. held_after n (replicate k 13 ++ rest))) next ∙ held_returns (suc h) k rest (omega arith)
    ∙ ap (λ n. held_after n rest) (omega arith)

pub held_is : (x : List ℕ) (lines : List (List ℕ)) (line : List ℕ) (k : ℕ) → IsTextSoFar x lines line k → held_after 0 x ≡ Some k
held_is x [] line k h =
    ap (held_after 0) (h.2 ∙ ap (λ (t : List ℕ). line ++ t) (sym (append-nil (replicate k 13)))) ∙ held_line line (replicate k 13 ++ []) h.0
    ∙ held_returns 0 k [] (omega (arith, h.1)) ∙ ap Some (omega arith)
held_is x (first ∷ lines) line k h =
    ap (held_after 0) (h.4 ∙ ap (λ (t : List ℕ). first ++ t) (append_assoc (replicate h.1 13) (10 ∷ []) h.3))
    ∙ held_line first (replicate h.1 13 ++ (10 ∷ h.3)) h.0 ∙ held_returns 0 h.1 (10 ∷ h.3) (omega (arith, h.2)) ∙ held_is h.3 lines line k h.5

-- ---- From pending CR to a text so far.

replicate-more : (h : ℕ) (bs : List ℕ) → replicate h 13 ++ (13 ∷ bs) ≡ 13 ∷ (replicate h 13 ++ bs)
replicate-more zero bs = refl
replicate-more (suc h) bs = ap (λ (t : List ℕ). 13 ∷ t) (replicate-more h bs)

so_far-cons : (b : ℕ) (bs : List ℕ) (lines : List (List ℕ)) (line : List ℕ) (k : ℕ) → is_line_octet b ≡ true → IsTextSoFar bs lines line k → EndsInReturns
    (b ∷ bs) k
so_far-cons b bs [] line k t h = ([], b ∷ line, (Are-cons is_line_octet b line t h.0, h.1, ap (λ (x : List ℕ). b ∷ x) h.2))
so_far-cons b bs (first ∷ lines) line k t h =
    ((b ∷ first) ∷ lines, line, (Are-cons is_line_octet b first t h.0, h.1, h.2, h.3, ap (λ (x : List ℕ). b ∷ x) h.4, h.5))

-- The next octet is read in the state after those before it.
pub and_then_is : (o : Option ℕ) (f : ℕ → Option ℕ) (k : ℕ) → option_and_then f o ≡ Some k → (j : ℕ) × (o ≡ Some j) × (f j ≡ Some k)
and_then_is None f k e = absurd cc
and_then_is (Some j) f k e = (j, refl, e)

pub so_far : (h : ℕ) (xs : List ℕ) (k : ℕ) → h ≤ 2 → held_after h xs ≡ Some k → EndsInReturns (replicate h 13 ++ xs) k
so_far h [] k le e =
    let same : h ≡ k = cc in
    ([], [], (refl, subst (λ (n : ℕ). n ≤ 2) same le, append-nil (replicate h 13) ∙ ap (λ (n : ℕ). replicate n 13) same))
so_far h (b ∷ bs) k le e =
    let s = and_then_is (after_octet h b) (λ j. held_after j bs) k e in
    elim (step_of h b s.0 s.1) [
      | inl p ↦
          let more = so_far 0 bs k (omega arith) (rw p.1 at s.2) in
          let parts : replicate h 13 ++ (b ∷ bs) ≡ line_end h ++ bs = ap (λ (c : ℕ). replicate h 13 ++ (c ∷ bs)) p.0
          ∙ sym (append_assoc (replicate h 13) (10 ∷ []) bs) in
          ([] ∷ more.0, more.1, (refl, h, le, bs, parts, more.2))
      | inr r ↦ elim r [
        | inl p ↦ rw (p.0, replicate-more h bs) (so_far (suc h) bs k (omega arith) (rw p.2 at s.2))
        | inr p ↦
            let more = so_far 0 bs k (omega arith) (rw p.2 at s.2) in
            rw p.1 (so_far-cons b bs more.0 more.1 k p.0 more.2)
      ]
    ]
