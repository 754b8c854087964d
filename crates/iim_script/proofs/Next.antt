-- The next line of a script, and the first line of a text.
use Rattle.std.proofs.Common.{◌≡◌, inl, inr, ℕ, ◌+◌, List, [], ◌∷◌, ◌++◌, append_assoc, append-nil, length, length-append, refl, ap, sym, ◌∙◌, subst, arith, zero, suc, ◌≤◌, replicate}
use Rattle.iim_script.specs.Format.Scripts.{Lacks, WithoutLast, NextLine, NextLines}
use Rattle.std.proofs.lemmas.List.{append_cancel_right}
use Rattle.iim_script.proofs.Cuts.{cut_once, has_no_octet, has_no_append, lacks}
use Rattle.wire_story.specs.Format.Texts.{IsLine, IsText, is_line_octet}

-- The list without its last octet is unique.
without_once : (b : ℕ) (octets xs ys : List ℕ) → WithoutLast b octets xs → WithoutLast b octets ys → xs ≡ ys
without_once b octets xs ys (inl e) (inl f) = append_cancel_right xs ys (b ∷ []) (sym e ∙ f)
without_once b octets xs ys (inl e) (inr (f, none)) = absurd (none xs e)
without_once b octets xs ys (inr (e, none)) (inl f) = absurd (none ys f)
without_once b octets xs ys (inr (e, none)) (inr (f, other)) = sym e ∙ f

-- The next line is unique, and so is what follows it.
pub next_once : (octets l a m b : List ℕ) → NextLine octets l a → NextLine octets m b → (l ≡ m) × (a ≡ b)
next_once octets l a m b x y =
    let same = cut_once 10 x.ended a y.ended b x.no_feed y.no_feed (sym x.parts ∙ y.parts) in
    (without_once 13 y.ended l m (rw same.0 at x.is_line) y.is_line, same.1)

-- if no LF is left there is no next line
pub no_next : (octets line after : List ℕ) → Lacks 10 octets → NextLine octets line after → ⊥
no_next octets line after h x = has_no_octet 10 x.ended after (subst (λ (l : List ℕ). Lacks 10 l) x.parts h)

-- lines after others
pub lines_append : (octets rest after : List ℕ) (lines others : List (List ℕ)) → NextLines octets lines rest → NextLines rest others after
    → NextLines octets (lines ++ others) after
lines_append octets rest after [] others h k = rw h k
lines_append octets rest after (line ∷ lines) others (next, n, more) k = (next, n, lines_append next rest after lines others more k)

-- one more line
pub lines_more : (octets : List ℕ) {rest line after : List ℕ} (lines : List (List ℕ)) → NextLines octets lines rest → NextLine rest line after
    → NextLines octets (lines ++ line ∷ []) after
lines_more octets {rest} {line} {after} lines h n = lines_append octets rest after lines (line ∷ []) h (after, n, refl)

pub count_more : (lines : List (List ℕ)) (line : List ℕ) → length (lines ++ line ∷ []) ≡ length lines + 1
count_more lines line = length-append lines (line ∷ [])

-- ---- a text

pub no_feed : (line : List ℕ) → IsLine line → Lacks 10 line
no_feed line h = lacks is_line_octet 10 line refl h

-- ---- the line without the CR of its end

alone : (line : List ℕ) → IsLine line → WithoutLast 13 line line
alone line is = inr (refl, λ before e. has_no_octet 13 before [] (rw e at (lacks is_line_octet 13 line refl is)))

pub line_left : (line : List ℕ) (n : ℕ) (ended first second : List ℕ) → IsLine line → n ≤ 2 → ended ≡ line ++ replicate n 13 → WithoutLast 13 ended first
    → WithoutLast 13 first second → second ≡ line
line_left line zero ended first second is few e a b =
    let same = without_once 13 line first line (rw (e ∙ append-nil line) at a) (alone line is) in
    without_once 13 line second line (rw same at b) (alone line is)
line_left line (suc zero) ended first second is few e a b =
    let same = without_once 13 ended first line a (inl e) in without_once 13 line second line (rw same at b) (alone line is)
line_left line (suc (suc zero)) ended first second is few e a b =
    let same = without_once 13 ended first (line ++ 13 ∷ []) a (inl (e ∙ sym (append_assoc line (13 ∷ []) (13 ∷ [])))) in
    without_once 13 (line ++ 13 ∷ []) second line (rw same at b) (inl refl)
line_left line (suc (suc (suc n))) ended first second is few e a b = absurd (omega (arith, few))

-- ---- the first line

no_feeds : (n : ℕ) → Lacks 10 (replicate n 13)
no_feeds zero = tt
no_feeds (suc n) = (refl, no_feeds n)

-- what precedes the first LF of a text, and what follows it
first_end : (line rest : List ℕ) (n : ℕ) → line ++ ((replicate n 13 ++ 10 ∷ []) ++ rest) ≡ (line ++ replicate n 13) ++ 10 ∷ rest
first_end line rest n = simp append_assoc

pub split_more : (text ended after found : List ℕ) (lines : List (List ℕ)) → IsText text lines → Lacks 10 ended → text ≡ ended ++ 10 ∷ after
    → ((line : List ℕ) (n : ℕ) → IsLine line → n ≤ 2 → ended ≡ line ++ replicate n 13 → found ≡ line)
    → (rest : List (List ℕ)) × (lines ≡ found ∷ rest) × IsText after rest
split_more text ended after found [] h none e cut = absurd h
split_more text ended after found (line ∷ []) h none e cut =
    absurd (has_no_octet 10 ended after (subst (λ (l : List ℕ). Lacks 10 l) (sym h.1 ∙ e) (no_feed line h.0)))
split_more text ended after found (line ∷ next ∷ lines) (is, n, few, rest, parts, more) none e cut =
    let same = cut_once 10 ended after (line ++ replicate n 13) rest none (has_no_append 10 line (replicate n 13) (no_feed line is) (no_feeds n))
    (sym e ∙ (parts ∙ first_end line rest n)) in
    (next ∷ lines, rw (cut line n is few same.0) refl, rw same.1 more)

pub split_one : (text : List ℕ) (lines : List (List ℕ)) → IsText text lines → Lacks 10 text → lines ≡ text ∷ []
split_one text [] h none = absurd h
split_one text (line ∷ []) h none = ap (λ (l : List ℕ). l ∷ []) (sym h.1)
split_one text (line ∷ next ∷ lines) (is, n, few, rest, parts, more) none =
    absurd (has_no_octet 10 (line ++ replicate n 13) rest (rw (parts, first_end line rest n) at none))
