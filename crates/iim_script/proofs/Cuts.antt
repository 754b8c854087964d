-- What precedes the first occurrence of an octet, and what follows it.
use Rattle.iim_script.proofs.Words.{◌≡◌, inr, ℕ, zero, suc, ◌+◌, ◌-◌, ◌<◌, ◌==◌, Bool, true, false, not, cond, List, [], ◌∷◌, ◌++◌, length, length-append, take, drop, get_or, refl, ap, sym, ◌∙◌, arith, position_or_len, list_all, one-add, eq-eqb, eqb-true, false≢true, and_parts, false_from_ne_true, take_rest, all_append, Lacks, NextLine}
use Rattle.std.proofs.lemmas.List.Sums.{split_at_first, passes_at_first}
use Rattle.std.proofs.Math.Seq.{take-length}

before_cons : (b x : ℕ) (xs : List ℕ) (n : ℕ) (same : Bool) → (x == b) ≡ same → Lacks b (take n xs) → Lacks b (take (cond (not same) (suc n) 0) (x ∷ xs))
before_cons b x xs n true e h = tt
before_cons b x xs n false e h = (e, h)

pub has_no_before : (b : ℕ) (xs : List ℕ) → Lacks b (take (position_or_len (λ x. x == b) xs) xs)
has_no_before b [] = tt
has_no_before b (x ∷ xs) = rw one-add (before_cons b x xs (position_or_len (λ y. y == b) xs) (x == b) refl (has_no_before b xs))

-- if none is found there is none
pub has_none : (b : ℕ) (xs : List ℕ) (end : ℕ) → end ≡ position_or_len (λ x. x == b) xs → end ≡ length xs → Lacks b xs
has_none b xs end is all = rw (← is, all, take-length) at (has_no_before b xs)

-- if one is found
pub cut_parts : (b : ℕ) (xs : List ℕ) (end : ℕ) → end ≡ position_or_len (λ x. x == b) xs → end < length xs
    → Lacks b (take end xs) × (xs ≡ take end xs ++ (b ∷ take (length xs - (end + 1)) (drop (end + 1) xs)))
cut_parts b xs end is within =
    let at : position_or_len (λ x. x == b) xs < length xs = rw is at within in
    let found = eqb-true _ _ (passes_at_first (λ x. x == b) xs 0 at) in
    rw (is, take_rest) (has_no_before b xs, rw found at (split_at_first (λ x. x == b) xs 0 at))

not_self : (b : ℕ) → (b == b) ≡ false → ⊥
not_self b e = false≢true (sym e ∙ eq-eqb b b refl)

-- an octet at this index
pub has_no_octet : (b : ℕ) (xs ys : List ℕ) → Lacks b (xs ++ b ∷ ys) → ⊥
has_no_octet b [] ys h = not_self b h.0
has_no_octet b (x ∷ xs) ys h = has_no_octet b xs ys h.1

-- What precedes the first occurrence is unique, and so is what follows it.
pub cut_once : (b : ℕ) (xs ys us vs : List ℕ) → Lacks b xs → Lacks b us → xs ++ b ∷ ys ≡ us ++ b ∷ vs → (xs ≡ us) × (ys ≡ vs)
cut_once b [] ys [] vs h k e = (refl, cc)
cut_once b [] ys (u ∷ us) vs h k e = let same : u ≡ b = cc in absurd (not_self b (rw same at k.0))
cut_once b (x ∷ xs) ys [] vs h k e = let same : x ≡ b = cc in absurd (not_self b (rw same at h.0))
cut_once b (x ∷ xs) ys (u ∷ us) vs h k e = let rest = cut_once b xs ys us vs h.1 k.1 (cc) in (cc, rest.1)

pub has_no_append : (b : ℕ) (xs ys : List ℕ) → Lacks b xs → Lacks b ys → Lacks b (xs ++ ys)
has_no_append b xs ys h k = all_append (λ x. (x == b) ≡ false) xs ys h k

-- An octet that fails a test does not occur in octets that all pass it.
pub lacks : (test : ℕ → Bool) (b : ℕ) (xs : List ℕ) → test b ≡ false → list_all test xs ≡ true → Lacks b xs
lacks test b [] fails h = tt
lacks test b (x ∷ xs) fails h =
    let both = and_parts (test x) (list_all test xs) h in
    (false_from_ne_true (x == b) (λ e. false≢true (sym fails ∙ rw (eqb-true x b e) at both.0)), lacks test b xs fails both.1)

passes_more : (test : ℕ → Bool) (d x : ℕ) (xs : List ℕ) (n : ℕ) (is : Bool) → test x ≡ is → test (get_or (drop n xs) 0 d) ≡ true
    → test (get_or (drop (cond (not is) (suc n) 0) (x ∷ xs)) 0 d) ≡ true
passes_more test d x xs n true e h = e
passes_more test d x xs n false e h = h

-- the item at the first index that passes a test; or the default, which passes it too
pub first_passes : (test : ℕ → Bool) (d : ℕ) (xs : List ℕ) → test d ≡ true → test (get_or (drop (position_or_len test xs) xs) 0 d) ≡ true
first_passes test d [] h = h
first_passes test d (x ∷ xs) h = rw one-add (passes_more test d x xs (position_or_len test xs) (test x) refl (first_passes test d xs h))

-- the last octet of a list, and those before it
pub last_one : (xs : List ℕ) (b n : ℕ) → length xs ≡ suc n → get_or xs n 0 ≡ b → xs ≡ take n xs ++ b ∷ []
last_one (x ∷ []) b zero len e = ap (λ (m : ℕ). m ∷ []) e
last_one (x ∷ xs) b (suc n) len e = ap (λ (l : List ℕ). x ∷ l) (last_one xs b n (omega (arith, len)) e)
last_one xs b n len e = absurd (omega (arith, len))

at_last : (xs : List ℕ) (b : ℕ) → get_or (xs ++ b ∷ []) (length xs) 0 ≡ b
at_last [] b = refl
at_last (x ∷ xs) b = at_last xs b

-- if the list does not end in that octet
pub no_last : (b : ℕ) (xs : List ℕ) → ((n : ℕ) → length xs ≡ suc n → get_or xs n 0 ≡ b → ⊥) → (before : List ℕ) → xs ≡ before ++ b ∷ [] → ⊥
no_last b xs not before e = not (length before) (omega (arith, ap length e, length-append before (b ∷ []))) (rw e (at_last before b))

-- An LF ends a line that contains none, and no CR.
pub ended : (octets line after : List ℕ) → octets ≡ line ++ 10 ∷ after → Lacks 10 line → Lacks 13 line → NextLine octets line after
ended octets line after e h k =
    record { ended = line; no_feed = h; is_line = inr (refl, λ before f. has_no_octet 13 before [] (rw f at k)); parts = e }
