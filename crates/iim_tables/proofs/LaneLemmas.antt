-- Classes of octets, with several octets tested at once.
use Rattle.std.proofs.Common.{◌≡◌, ℕ, ◌+◌, ◌-◌, ◌≤◌, Bool, true, false, not, ◌&&◌, ◌||◌, nat_eq, nat_le, List, [], ◌∷◌, length, get_or, map, replicate, take, drop, refl, ap, sym, subst, ◌∙◌, arith, bit_and, bit_or, w8, Fits, length-drop}
use Rattle.std.proofs.lemmas.Bool.Decides.{nat_tests}
use Rattle.std.specs.Simd.Lanes.{zip2, Each1}
use Rattle.std.specs.List.{list_all}
use Rattle.std.proofs.Math.Seq.{take-add}
use Rattle.std.proofs.lemmas.Bool.{and_parts}
use Rattle.std.proofs.lemmas.List.{take-append-drop, take-take, take_all, take_rest}
use Rattle.std.proofs.lemmas.List.Folds.{list_all-append}
use Rattle.std.proofs.lemmas.Simd.{bytes_below, chunk-fits}
use Rattle.iim_dataset.specs.Format.Octets.{is_digit}
use Rattle.iim_dataset.proofs.Lanes.{lane, both_lanes, from_on, up_to, other_than, are_set, first_of}
use Rattle.iim_tables.specs.{Format.Kinds.is_graphic, Format.Kinds.is_spaced, Format.Kinds.is_spaced_or_line_end, Text.is_text}

either_lane : (a b : Bool) → bit_or (lane a) (lane b) ≡ lane (a || b)
either_lane true true = refl
either_lane true false = refl
either_lane false true = refl
either_lane false false = refl

-- ---- The classes of octets.

-- the lanes whose octet is a given one
abbrev equal_to : ℕ → ℕ → List ℕ → List ℕ
equal_to n octet xs = zip2 (λ a b. lane (nat_eq a b)) xs (replicate n octet)

-- the lanes that are digits
abbrev digit_lanes : ℕ → List ℕ → List ℕ
digit_lanes n xs = zip2 bit_and (from_on n 48 xs) (up_to n 57 xs)

-- the lanes whose octet is at least a given one, and not DEL
abbrev calm_lanes : ℕ → ℕ → List ℕ → List ℕ
calm_lanes least n xs = zip2 bit_and (from_on n least xs) (other_than n 127 xs)

-- the lanes that are text
abbrev text_lanes : ℕ → Bool → ℕ → List ℕ → List ℕ
text_lanes least false n xs = calm_lanes least n xs
text_lanes least true n xs = zip2 bit_or (zip2 bit_or (calm_lanes least n xs) (equal_to n 10 xs)) (equal_to n 13 xs)

digits_told : (xs : List ℕ) → digit_lanes (length xs) xs ≡ map (λ x. lane (is_digit x)) xs
digits_told [] = refl
digits_told (x ∷ xs) = λ i. both_lanes (nat_le 48 x) (nat_le x 57) i ∷ digits_told xs i

line_lane : (a b c d : Bool) → bit_or (bit_or (bit_and (lane a) (lane b)) (lane c)) (lane d) ≡ lane (((a && b) || c) || d)
line_lane a b c d =
    ap (λ (n : ℕ). bit_or (bit_or n (lane c)) (lane d)) (both_lanes a b)
    ∙ (ap (λ (n : ℕ). bit_or n (lane d)) (either_lane (a && b) c) ∙ either_lane ((a && b) || c) d)

text_told : (least : ℕ) (lines : Bool) (xs : List ℕ) → text_lanes least lines (length xs) xs ≡ map (λ x. lane (is_text least lines x)) xs
text_told least false [] = refl
text_told least true [] = refl
text_told least false (x ∷ xs) = λ i. both_lanes (nat_le least x) (not (nat_eq x 127)) i ∷ text_told least false xs i
text_told least true (x ∷ xs) = λ i. line_lane (nat_le least x) (not (nat_eq x 127)) (nat_eq x 10) (nat_eq x 13) i ∷ text_told least true xs i

-- ---- The first octets.

module _ (xs : List ℕ) (n : ℕ) (room : n ≤ length xs) (le : n ≤ 64) where
  pub text_first : (least : ℕ) (asked lines : Bool) → asked ≡ lines
      → are_set n (text_lanes least lines n (take n xs)) ≡ list_all (is_text least asked) (take n xs)
  text_first least asked lines is =
      first_of xs n room le (is_text least lines) (text_lanes least lines) (text_told least lines)
      ∙ sym (ap (λ (b : Bool). list_all (is_text least b) (take n xs)) is)

-- ---- The classes of text by their names.

graphic_is : (x : ℕ) → x ≤ 255 → is_text 33 false x ≡ is_graphic x
graphic_is x le = grind (arith, nat_tests)

spaced_is : (x : ℕ) → x ≤ 255 → is_text 32 false x ≡ is_spaced x
spaced_is x le = grind (arith, nat_tests)

line_is : (x : ℕ) → x ≤ 255 → is_text 32 true x ≡ is_spaced_or_line_end x
line_is x le = grind (arith, nat_tests)

same_class : (p q : ℕ → Bool) → ((x : ℕ) → x ≤ 255 → p x ≡ q x) → (xs : List ℕ) → Each1 (λ x. x ≤ 255) xs → list_all p xs ≡ list_all q xs
same_class p q same [] small = refl
same_class p q same (x ∷ xs) small = λ i. same x small.0 i && same_class p q same xs small.1 i

module _ (xs : List ℕ) (fits : (i : ℕ) → Fits w8 (get_or xs i 0)) where
  small : Each1 (λ x. x ≤ 255) xs
  small = bytes_below xs (subst (Each1 (Fits w8)) (take_all (length xs) xs (omega arith)) (chunk-fits w8 0 (length xs) xs fits))

  pub all_graphic : list_all (is_text 33 false) xs ≡ list_all is_graphic xs
  all_graphic = same_class _ _ graphic_is xs small

  pub all_spaced : list_all (is_text 32 false) xs ≡ list_all is_spaced xs
  all_spaced = same_class _ _ spaced_is xs small

  pub all_spaced_or_line_ends : list_all (is_text 32 true) xs ≡ list_all is_spaced_or_line_end xs
  all_spaced_or_line_ends = same_class _ _ line_is xs small

-- ---- Parts that overlap.

-- Both parts pass exactly if all octets pass.
parted : (q : ℕ → Bool) (xs : List ℕ) (n : ℕ) → (list_all q (take n xs) && list_all q (drop n xs)) ≡ list_all q xs
parted q xs n = sym (list_all-append q (take n xs) (drop n xs)) ∙ ap (list_all q) (take-append-drop n xs)

-- If the first n octets fail, all fail.
pub front_fails : (q : ℕ → Bool) (xs : List ℕ) (n : ℕ) → list_all q (take n xs) ≡ false → list_all q xs ≡ false
front_fails q xs n e = sym (rw e at (parted q xs n))

and_fails : (a b : Bool) → b ≡ false → (a && b) ≡ false
and_fails a b e = grind arith

-- If n octets from some position on fail, all fail.
pub part_fails : (q : ℕ → Bool) (xs : List ℕ) (at n : ℕ) → list_all q (take n (take (length xs - at) (drop at xs))) ≡ false → list_all q xs ≡ false
part_fails q xs at n e = sym (parted q xs at) ∙ and_fails (list_all q (take at xs)) (list_all q (drop at xs)) (front_fails q (drop at xs) n (rw take_rest at e))

-- If the first m octets pass, the first n pass, for n at most m.
fewer : (q : ℕ → Bool) (xs : List ℕ) (n m : ℕ) → n ≤ m → list_all q (take m xs) ≡ true → list_all q (take n xs) ≡ true
fewer q xs n m le all =
    let part = and_parts (list_all q (take n (take m xs))) (list_all q (drop n (take m xs))) (parted q (take m xs) n ∙ all) in
    sym (ap (list_all q) (take-take n m xs le)) ∙ part.0

-- If the first octets pass and the next n pass, all of these pass.
pub more_pass : (q : ℕ → Bool) (xs : List ℕ) (at n : ℕ) → list_all q (take at xs) ≡ true → list_all q (take n (take (length xs - at) (drop at xs))) ≡ true
    → list_all q (take (at + n) xs) ≡ true
more_pass q xs at n first more = rw (take-add at n xs, list_all-append, first) (rw take_rest at more)

-- If the first m octets pass, all pass exactly if the last n pass, which overlap those.
pub last_pass : (q : ℕ → Bool) (xs : List ℕ) (m n : ℕ) → n ≤ length xs → length xs ≤ m + n → list_all q (take m xs) ≡ true
    → list_all q (take n (take (length xs - (length xs - n)) (drop (length xs - n) xs))) ≡ list_all q xs
last_pass q xs m n room reach all =
    let k = length xs - n in
    rw (take_rest xs k, take_all n (drop k xs) (omega (arith, length-drop k xs))) (rw (fewer q xs k m (omega arith) all) at (parted q xs k))
