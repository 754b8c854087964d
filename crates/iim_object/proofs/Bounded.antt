-- Numbers and subfiles within bounds: lemmas for the proofs of every crate.
use Rattle.iim_object.proofs.Words.{◌≡◌, ℕ, zero, suc, ◌≤◌, Bool, true, false, List, [], ◌∷◌, ◌++◌, map, length, Option, refl, arith, inl, inr, greatest_size, ObjectToken, NumberRead, SubfileBegun, ObjectEnded, Confirmed, Place, max_subfiles, StatedNumber, IsAllowedByRow, mode_number, TokensAreWithin, ObjectReaderStandsAt, State, IsPossible}

pub mode_known : (n : ℕ) → n ≤ 1 → (known : Bool) × (n ≡ mode_number known)
mode_known zero h = (false, refl)
mode_known (suc zero) h = (true, refl)
mode_known (suc (suc n)) h = absurd (omega (arith, h))

pub within_append : (most : ℕ) (xs ys : List ObjectToken) → TokensAreWithin most xs → TokensAreWithin most ys → TokensAreWithin most (xs ++ ys)
within_append most [] ys a b = b
within_append most (NumberRead set n ∷ xs) ys a b = (a.0, within_append most xs ys a.1 b)
within_append most (SubfileBegun n ∷ xs) ys a b = within_append most xs ys a b
within_append most (ObjectEnded ∷ xs) ys a b = within_append most xs ys a b
within_append most (Confirmed n ∷ xs) ys a b = (a.0, within_append most xs ys a.1 b)

pub begun_within : (most : ℕ) (ls : List ℕ) → TokensAreWithin most (map SubfileBegun ls)
begun_within most [] = tt
begun_within most (l ∷ ls) = begun_within most ls

-- Numbers that rows allow are at most the greatest size.
pub row_low : (p : StatedNumber) → IsAllowedByRow p → p.number ≤ greatest_size
row_low p (inl h) = omega (arith, h.1)
row_low p (inr (inl h)) = h.2
row_low p (inr (inr h)) = h.1

pub possible_of : (r : Option State) (p : Place) → ObjectReaderStandsAt r p → length p.lengths ≤ max_subfiles → IsPossible p
possible_of r p st few = record { stated = st.stated; subfiles = st.subfiles; duties = st.duties; few = few; alive = st.alive }
