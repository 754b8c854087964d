-- Octets that are shown as themselves: sixteen at a time, and in slices.
use Rattle.std.proofs.Common.{◌≡◌, ℕ, ◌+◌, ◌<◌, ◌≤◌, ◌&&◌, Bool, true, false, cond, not, nat_eq, nat_le, List, [], ◌∷◌, ◌++◌, length, length-drop, get_or, slice_index, map, take, drop, refl, ap, sym, ◌∙◌, add-zero, append-nil, append_assoc, bit_and, arith}
use Rattle.std.specs.Simd.Lanes.{zip2}
use Rattle.std.specs.List.{list_all}
use Rattle.std.proofs.Math.Seq.{take-add}
use Rattle.std.proofs.lemmas.Bool.{and_parts, and_from}
use Rattle.std.proofs.lemmas.List.{get_or-drop, nil_from_length, take-append-drop}
use Rattle.std.proofs.lemmas.List.Folds.{list_all-append}
use Rattle.iim_dataset.specs.Format.Datasets.{is_plain, escape, shown}
use Rattle.iim_dataset.proofs.Lanes.{lane, both_lanes, from_on, up_to, other_than, are_set, first_of}

-- the lanes of octets that are shown as themselves
abbrev plain_lanes : ℕ → List ℕ → List ℕ
plain_lanes n xs = zip2 bit_and (zip2 bit_and (from_on n 32 xs) (up_to n 126 xs)) (other_than n 92 xs)

plain_lane : (a b c : Bool) → bit_and (bit_and (lane a) (lane b)) (lane c) ≡ lane (a && b && c)
plain_lane a b c = ap (λ (n : ℕ). bit_and n (lane c)) (both_lanes a b) ∙ both_lanes (a && b) c

plain_told : (xs : List ℕ) → plain_lanes (length xs) xs ≡ map (λ x. lane (is_plain x)) xs
plain_told [] = refl
plain_told (x ∷ xs) = λ i. plain_lane (nat_le 32 x) (nat_le x 126) (not (nat_eq x 92)) i ∷ plain_told xs i

pub plain_first : (xs : List ℕ) → 16 ≤ length xs → are_set 16 (plain_lanes 16 (take 16 xs)) ≡ list_all is_plain (take 16 xs)
plain_first xs room = first_of xs 16 room (omega arith) is_plain plain_lanes plain_told

-- ---- Slices.

-- If the first octets are shown as themselves, and so are sixteen more, all of them are.
pub more_plain : (xs : List ℕ) (at : ℕ) → list_all is_plain (take at xs) ≡ true → list_all is_plain (take 16 (drop at xs)) ≡ true
    → list_all is_plain (take (at + 16) xs) ≡ true
more_plain xs at first more =
    ap (list_all is_plain) (take-add at 16 xs) ∙ (list_all-append is_plain (take at xs) (take 16 (drop at xs))
    ∙ and_from (list_all is_plain (take at xs)) (list_all is_plain (take 16 (drop at xs))) first more)

-- How octets that are shown as themselves are shown with what follows.
pub shown_plain : (xs ys : List ℕ) → list_all is_plain xs ≡ true → shown (xs ++ ys) ≡ xs ++ shown ys
shown_plain [] ys all = refl
shown_plain (x ∷ xs) ys all =
    let both = and_parts (is_plain x) (list_all is_plain xs) all in
    ap (λ (o : List ℕ). o ++ shown (xs ++ ys)) (ap (λ (b : Bool). cond b (x ∷ []) (escape x)) both.0) ∙ ap (λ (o : List ℕ). x ∷ o) (shown_plain xs ys both.1)

-- The octet after the longest slice is not shown as itself.
after_run : (xs : List ℕ) (n x : ℕ) (after : List ℕ) → (n < length xs → is_plain (slice_index xs n) ≡ false) → drop n xs ≡ x ∷ after → is_plain x ≡ false
after_run xs n x after end is =
    let more : n < length xs = omega (arith, length-drop n xs, ap length is) in
    let at : get_or xs n 0 ≡ x = rw (is, add-zero) at (sym (get_or-drop n xs 0 0)) in
    rw at at (end more)

-- How an octet that is not shown as itself is shown.
pub shown_other : (x : ℕ) (xs : List ℕ) → is_plain x ≡ false → shown (x ∷ xs) ≡ escape x ++ shown xs
shown_other x xs not = ap (λ (b : Bool). cond b (x ∷ []) (escape x) ++ shown xs) not

module _ (before new all rest : List ℕ) (n : ℕ) (so_far : before ++ shown rest ≡ all) (run : list_all is_plain (take n rest) ≡ true)
    (taken : new ≡ before ++ take n rest) where
  -- After a slice was copied, the text and what follows, as it is shown, are unchanged in sum.
  run_taken : new ++ shown (drop n rest) ≡ all
  run_taken =
      rw (taken, append_assoc)
      (ap (λ (xs : List ℕ). before ++ xs) (sym (shown_plain (take n rest) (drop n rest) run) ∙ ap shown (take-append-drop n rest)) ∙ so_far)

  -- If nothing follows, the text is complete.
  pub last_taken : length (drop n rest) ≡ 0 → new ≡ all
  last_taken none = sym (append-nil new) ∙ (ap (λ (xs : List ℕ). new ++ shown xs) (sym (nil_from_length (drop n rest) none)) ∙ run_taken)

  -- If an octet follows that is not shown as itself, it is escaped.
  pub other_taken : (x : ℕ) (after text : List ℕ) → (n < length rest → is_plain (slice_index rest n) ≡ false) → drop n rest ≡ x ∷ after → text ≡ new ++ escape x
      → text ++ shown after ≡ all
  other_taken x after text end is escaped =
      let not = after_run rest n x after end is in
      rw (escaped, append_assoc) (ap (λ (xs : List ℕ). new ++ xs) (sym (shown_other x after not) ∙ ap shown (sym is)) ∙ run_taken)
