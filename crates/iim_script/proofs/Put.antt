-- What is written into a text at an index: digits, octets without escapes, and the lines of
-- datasets.
use Rattle.iim_script.proofs.Words.{◌≡◌, ℕ, ◌+◌, ◌/◌, ◌%◌, ◌<◌, ◌≤◌, List, [], ◌∷◌, ◌++◌, ap, ◌∙◌, arith, ◌&&◌, Bool, true, not, nat_eq, nat_le, length, map, take, refl, sym, append_assoc, list_all, flat_map, shown, Dataset, field_line}
use Rattle.std.proofs.Common.{decimal, append-nil, bit_and}
use Rattle.std.proofs.lemmas.Fmt.{decimal_digit, decimal_step}
use Rattle.std.specs.Simd.Lanes.{zip2}
use Rattle.std.proofs.lemmas.List.{take-take, take-append-le}
use Rattle.std.proofs.lemmas.List.Concat.{flat_map-append}
use Rattle.iim_dataset.specs.Format.Datasets.{is_plain}
use Rattle.iim_dataset.proofs.Lanes.{lane, both_lanes, from_on, up_to, other_than, are_set, first_of}
use Rattle.iim_dataset.proofs.PlainLanes.{shown_plain}

-- ---- numbers of up to three digits, by their digits

pub two_digits : (n : ℕ) → 10 ≤ n → n < 100 → decimal n ≡ (48 + n / 10) ∷ (48 + n % 10) ∷ []
two_digits n least most = decimal_step n least (omega arith) ∙ ap (λ (xs : List ℕ). xs ++ (48 + n % 10) ∷ []) (decimal_digit (n / 10) (omega arith))

pub three_digits : (n : ℕ) → 100 ≤ n → n < 1000 → decimal n ≡ (48 + n / 10 / 10) ∷ (48 + n / 10 % 10) ∷ (48 + n % 10) ∷ []
three_digits n least most =
    decimal_step n (omega arith) (omega arith) ∙ ap (λ (xs : List ℕ). xs ++ (48 + n % 10) ∷ []) (two_digits (n / 10) (omega arith) (omega arith))

-- ---- octets without escapes, several of them checked at once

-- the lanes of octets without escapes
abbrev unescaped_lanes : ℕ → List ℕ → List ℕ
unescaped_lanes n xs = zip2 bit_and (zip2 bit_and (from_on n 32 xs) (up_to n 126 xs)) (other_than n 92 xs)

unescaped_lane : (a b c : Bool) → bit_and (bit_and (lane a) (lane b)) (lane c) ≡ lane (a && b && c)
unescaped_lane a b c = ap (λ (n : ℕ). bit_and n (lane c)) (both_lanes a b) ∙ both_lanes (a && b) c

unescaped_shown : (xs : List ℕ) → unescaped_lanes (length xs) xs ≡ map (λ x. lane (is_plain x)) xs
unescaped_shown [] = refl
unescaped_shown (x ∷ xs) = λ i. unescaped_lane (nat_le 32 x) (nat_le x 126) (not (nat_eq x 92)) i ∷ unescaped_shown xs i

-- the first n
pub unescaped_part : (xs : List ℕ) (n : ℕ) → n ≤ length xs → n ≤ 64 → are_set n (unescaped_lanes n (take n xs)) ≡ list_all is_plain (take n xs)
unescaped_part xs n room le = first_of xs n room le is_plain unescaped_lanes unescaped_shown

-- octets that all need no escape are printed as they are
pub all_unescaped : (xs : List ℕ) → list_all is_plain xs ≡ true → shown xs ≡ xs
all_unescaped xs all = sym (ap shown (append-nil xs)) ∙ (shown_plain xs [] all ∙ append-nil xs)

-- ---- a text with capacity after it, into which the lines of datasets are written

-- what was written into a text is at its index
pub stands : (end len : ℕ) (line rest : List ℕ) → end ≤ len → end ≤ length line → take end (take len (line ++ rest)) ≡ take end line
stands end len line rest within short = take-take end len (line ++ rest) within ∙ take-append-le end line rest short

shown_one : (done : List Dataset) (d : Dataset) → flat_map field_line (done ++ d ∷ []) ≡ flat_map field_line done ++ field_line d
shown_one done d = flat_map-append field_line done (d ∷ []) ∙ ap (λ (l : List ℕ). flat_map field_line done ++ l) (append-nil (field_line d))

-- one more line
pub line_more : (old front new : List ℕ) (done : List Dataset) (d : Dataset) → front ≡ old ++ flat_map field_line done → new ≡ front ++ field_line d
    → new ≡ old ++ flat_map field_line (done ++ d ∷ [])
line_more old front new done d so_far more =
    more ∙ (ap (λ (l : List ℕ). l ++ field_line d) so_far
    ∙ (append_assoc old (flat_map field_line done) (field_line d) ∙ ap (λ (l : List ℕ). old ++ l) (sym (shown_one done d))))
