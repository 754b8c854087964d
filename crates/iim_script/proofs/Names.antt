-- The numbers at the start of a line.
use Rattle.iim_script.proofs.Words.{◌≡◌, ℕ, suc, ◌-◌, Bool, true, false, not, cond, List, [], ◌∷◌, ◌++◌, length, take, drop, get_or, refl, ap, sym, ◌∙◌, subst, position_or_len, list_all, false≢true, and_from, and_parts, one-add, take_rest, take-append-drop, Lacks, EncodesNumber, is_digit}
use Rattle.std.proofs.lemmas.Bool.{not-true}
use Rattle.iim_script.specs.Format.Scripts.{BeginsWithName}
use Rattle.iim_script.proofs.Cuts.{cut_once, has_no_octet, lacks, first_passes}

abbrev pub no_digit : ℕ → Bool
no_digit b = not (is_digit b)

prefix_more : (x : ℕ) (xs : List ℕ) (n : ℕ) (is : Bool) → is_digit x ≡ is → list_all is_digit (take n xs) ≡ true
    → list_all is_digit (take (cond (not (not is)) (suc n) 0) (x ∷ xs)) ≡ true
prefix_more x xs n true e h = and_from (is_digit x) (list_all is_digit (take n xs)) e h
prefix_more x xs n false e h = refl

pub digits_before : (xs : List ℕ) → list_all is_digit (take (position_or_len no_digit xs) xs) ≡ true
digits_before [] = refl
digits_before (x ∷ xs) = rw one-add (prefix_more x xs (position_or_len no_digit xs) (is_digit x) refl (digits_before xs))

pub no_digit_after : (xs : List ℕ) → is_digit (get_or (drop (position_or_len no_digit xs) xs) 0 0) ≡ false
no_digit_after xs = not-true (is_digit (get_or (drop (position_or_len no_digit xs) xs) 0 0)) (first_passes no_digit 0 xs refl)

-- Digits, followed by another octet, are split in one way.
pub digits_once : (ds es us vs : List ℕ) → list_all is_digit ds ≡ true → list_all is_digit us ≡ true → is_digit (get_or es 0 0) ≡ false
    → is_digit (get_or vs 0 0) ≡ false
    → ds ++ es ≡ us ++ vs → (ds ≡ us) × (es ≡ vs)
digits_once [] es [] vs h k n m e = (refl, e)
digits_once [] es (u ∷ us) vs h k n m e = absurd (false≢true (sym (rw e at n) ∙ (and_parts (is_digit u) (list_all is_digit us) k).0))
digits_once (d ∷ ds) es [] vs h k n m e = absurd (false≢true (sym (rw (← e) at m) ∙ (and_parts (is_digit d) (list_all is_digit ds) h).0))
digits_once (d ∷ ds) es (u ∷ us) vs h k n m e =
    let rest = digits_once ds es us vs (and_parts (is_digit d) (list_all is_digit ds) h).1 (and_parts (is_digit u) (list_all is_digit us) k).1 n m (cc) in
    (cc, rest.1)

pub no_colon : (ds : List ℕ) → list_all is_digit ds ≡ true → Lacks 58 ds
no_colon ds h = lacks is_digit 58 ds refl h

-- what precedes the colon, the digits after it, and what follows them
pub record NamesAt (before after : List ℕ) (n : ℕ) (rec set : ℕ) (end : List ℕ) : Type 0 where
  pub is_rec : EncodesNumber before rec
  pub is_set : EncodesNumber (take n after) set
  pub is_end : end ≡ take (length after - n) (drop n after)

pub names_at : (line before after : List ℕ) (n rec set : ℕ) (end : List ℕ) → Lacks 58 before → line ≡ before ++ 58 ∷ after → n ≡ position_or_len no_digit after
    → BeginsWithName line rec set end → NamesAt before after n rec set end
names_at line before after n rec set end h e at t =
    let whole = cut_once 58 before after t.rec_digits (t.set_digits ++ end) h (no_colon t.rec_digits t.is_rec.are_digits) (sym e ∙ t.line_is) in
    let parts = digits_once (take n after) (drop n after) t.set_digits end (rw at (digits_before after)) t.is_set.are_digits
    (rw at (no_digit_after after)) t.undigited (take-append-drop n after ∙ whole.1) in
    record { is_rec = rw whole.0 t.is_rec; is_set = rw parts.0 t.is_set; is_end = sym parts.1 ∙ sym (take_rest after n) }

pub has_names : (line before after : List ℕ) (n rec set : ℕ) → line ≡ before ++ 58 ∷ after → n ≡ position_or_len no_digit after
    → EncodesNumber before rec → EncodesNumber (take n after) set → BeginsWithName line rec set (take (length after - n) (drop n after))
has_names line before after n rec set e at is_rec is_set = record {
  rec_digits = before;
  set_digits = take n after;
  is_rec = is_rec;
  is_set = is_set;
  undigited = rw (take_rest, at) (no_digit_after after);
  line_is = e ∙ rw take_rest (ap (λ (l : List ℕ). before ++ 58 ∷ l) (sym (take-append-drop n after)));
}

-- A line has at most one pair of numbers, and one rest after them.
pub names_once : (line : List ℕ) (rec set r s : ℕ) (end other : List ℕ) → BeginsWithName line rec set end → BeginsWithName line r s other
    → (rec ≡ r) × (set ≡ s) × (end ≡ other)
names_once line rec set r s end other t u =
    let whole = cut_once 58 t.rec_digits (t.set_digits ++ end) u.rec_digits (u.set_digits ++ other)
    (no_colon t.rec_digits t.is_rec.are_digits) (no_colon u.rec_digits u.is_rec.are_digits) (sym t.line_is ∙ u.line_is) in
    let parts = digits_once t.set_digits end u.set_digits other t.is_set.are_digits u.is_set.are_digits t.undigited u.undigited whole.1 in
    (rw (t.is_rec.value, u.is_rec.value, whole.0) refl, rw (t.is_set.value, u.is_set.value, parts.0) refl, parts.1)

-- a line with no colon
pub no_names : (line : List ℕ) (rec set : ℕ) (end : List ℕ) → Lacks 58 line → BeginsWithName line rec set end → ⊥
no_names line rec set end h t = has_no_octet 58 t.rec_digits (t.set_digits ++ end) (subst (λ (l : List ℕ). Lacks 58 l) t.line_is h)

-- what precedes the colon is not a number
pub no_record : (line before after : List ℕ) (rec set : ℕ) (end : List ℕ) → Lacks 58 before → line ≡ before ++ 58 ∷ after → ((n : ℕ) → EncodesNumber before n
    → ⊥)
    → BeginsWithName line rec set end → ⊥
no_record line before after rec set end h e none t = none rec (names_at line before after (position_or_len no_digit after) rec set end h e refl t).is_rec
