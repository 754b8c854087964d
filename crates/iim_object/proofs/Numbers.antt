-- The numbers of record 7: they stay stated, what rows require of them, and their tokens.
use Rattle.iim_object.proofs.Words.{◌≡◌, ℕ, ◌≤◌, false, ◌==◌, List, [], ◌∷◌, ◌++◌, map, Some, None, refl, arith, AllByRecursion, greatest_size, all_map, StatedNumber, IsAllowedByRow, HaveNoRepeats, number_at, TokensAreWithin, ObjectToken, SubfileBegun, ObjectEnded, Confirmed, number_tokens}
use Rattle.iim_object.proofs.Bounded.{within_append, begun_within, row_low}

-- ---- Numbers stay stated.

pub at-append : (set n : ℕ) (ps qs : List StatedNumber) → number_at set ps ≡ Some n → number_at set (ps ++ qs) ≡ Some n
at-append set n [] qs e = absurd cc
at-append set n (p ∷ ps) qs e = let more = at-append set n ps qs in grind arith

pub none_parts : (set : ℕ) (p : StatedNumber) (ps : List StatedNumber) → number_at set (p ∷ ps) ≡ None → ((p.set == set) ≡ false) × (number_at set ps ≡ None)
none_parts set p ps e = grind arith

pub none-append : (set : ℕ) (ps qs : List StatedNumber) → number_at set ps ≡ None → number_at set (ps ++ qs) ≡ number_at set qs
none-append set [] qs e = refl
none-append set (p ∷ ps) qs e = let n = none_parts set p ps e in rw (n.0) (none-append set ps qs n.1)

pub once-append : (ps : List StatedNumber) (q : StatedNumber) → HaveNoRepeats ps → number_at q.set ps ≡ None → HaveNoRepeats (ps ++ (q ∷ []))
once-append [] q o e = (refl, tt)
once-append (p ∷ ps) q o e = let n = none_parts q.set p ps e in let more = once-append ps q o.1 n.1 in (grind (arith, none-append), more)

-- ---- Numbers that are at most a bound, and tokens of them.

abbrev pub AreLow : ℕ → List StatedNumber → Type 0
AreLow most ps = AllByRecursion (λ (p : StatedNumber). p.number ≤ most) ps

pub low_at : (most set n : ℕ) (ps : List StatedNumber) → AreLow most ps → number_at set ps ≡ Some n → n ≤ most
low_at most set n [] low e = absurd cc
low_at most set n (p ∷ ps) low e = let more = low_at most set n ps low.1 in grind arith

numbers_within : (most : ℕ) (ps : List StatedNumber) → AreLow most ps → TokensAreWithin most (number_tokens ps)
numbers_within most [] all = tt
numbers_within most (p ∷ ps) all = (all.0, numbers_within most ps all.1)

pub numbers_low : (most : ℕ) (ps : List StatedNumber) (rest : List ObjectToken) → TokensAreWithin most (number_tokens ps ++ rest) → AreLow most ps
numbers_low most [] rest all = tt
numbers_low most (p ∷ ps) rest all = (all.0, numbers_low most ps rest all.1)

-- The tokens of numbers within a bound, of any lengths, and of a confirmed size within it.
pub whole_within : (most : ℕ) (all : List StatedNumber) (lengths : List ℕ) (n : ℕ) → AreLow most all → n ≤ most
    → TokensAreWithin most (number_tokens all ++ (map SubfileBegun lengths ++ (ObjectEnded ∷ Confirmed n ∷ [])))
whole_within most all lengths n low le =
    within_append most (number_tokens all) _ (numbers_within most all low)
    (within_append most (map SubfileBegun lengths) _ (begun_within most lengths) (le, tt))

pub rows_low : (ps : List StatedNumber) → AllByRecursion IsAllowedByRow ps → AreLow greatest_size ps
rows_low ps all = all_map IsAllowedByRow (λ (p : StatedNumber). p.number ≤ greatest_size) ps row_low all

-- ---- What rows require.

pub in_row_at : (set n : ℕ) (ps : List StatedNumber) → AllByRecursion IsAllowedByRow ps → number_at set ps ≡ Some n → IsAllowedByRow
    (record { set = set; number = n })
in_row_at set n [] h e = absurd cc
in_row_at set n (p ∷ ps) h e = let more = in_row_at set n ps h.1 in grind arith

pub at_least_one : (n : ℕ) → IsAllowedByRow (record { set = 20; number = n }) → 1 ≤ n
at_least_one n row = grind arith

pub at_most_size : (n : ℕ) → IsAllowedByRow (record { set = 90; number = n }) → n ≤ greatest_size
at_most_size n row = row_low (record { set = 90; number = n }) row

pub largest_at_most : (n : ℕ) → IsAllowedByRow (record { set = 20; number = n }) → n ≤ greatest_size
largest_at_most n row = row_low (record { set = 20; number = n }) row

pub mode_at_most_one : (n : ℕ) → IsAllowedByRow (record { set = 10; number = n }) → n ≤ 1
mode_at_most_one n row = grind arith
