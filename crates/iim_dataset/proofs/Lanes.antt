-- Tests of several octets at once: each lane of a mask is set if its octet passes, and all lanes
-- are set if each octet passes.
use Rattle.std.proofs.Common.{◌≡◌, ℕ, ◌+◌, ◌*◌, ◌-◌, ◌<◌, ◌≤◌, ◌^◌, ◌%◌, Bool, true, false, not, cond, ◌&&◌, nat_eq, nat_le, List, [], ◌∷◌, length, map, replicate, take, refl, ap, ◌∙◌, arith, bit_and}
use Rattle.std.proofs.lemmas.Bool.Decides.{nat_tests}
use Rattle.std.specs.Simd.Lanes.{zip2, mask_l, top}
use Rattle.std.specs.List.{list_all}
use Rattle.std.proofs.Math.Nat.{two-pow-succ}
use Rattle.std.proofs.lemmas.List.{length-map, length-take-le}
use Rattle.std.proofs.lemmas.List.Folds.{list_all-map}
use Rattle.std.proofs.lemmas.Simd.{mask_l-lt, mask_l-mod}

-- a lane of a mask
abbrev pub lane : Bool → ℕ
lane b = cond b 255 0

pub both_lanes : (a b : Bool) → bit_and (lane a) (lane b) ≡ lane (a && b)
both_lanes true true = refl
both_lanes true false = refl
both_lanes false true = refl
both_lanes false false = refl

top_lane : (b : Bool) → top 7 (lane b) ≡ b
top_lane true = refl
top_lane false = refl

-- ---- all lanes

next_full : (b : Bool) (m p : ℕ) → 0 < p → m < p → nat_eq (cond b 1 0 + 2 * m) ((p + p) - 1) ≡ (b && nat_eq m (p - 1))
next_full true m p some lt = grind (arith, nat_tests)
next_full false m p some lt = grind (arith, nat_tests)

full_mask : (ms : List Bool) → nat_eq (mask_l ms) (2 ^ length ms - 1) ≡ list_all (λ b. b) ms
full_mask [] = refl
full_mask (b ∷ ms) =
    let lt = mask_l-lt ms in
    ap (λ (n : ℕ). nat_eq (cond b 1 0 + 2 * mask_l ms) (n - 1)) (two-pow-succ (length ms))
    ∙ (next_full b (mask_l ms) (2 ^ length ms) (omega (arith, lt)) lt ∙ ap (λ (c : Bool). b && c) (full_mask ms))

tops : (q : ℕ → Bool) (xs : List ℕ) → map (top 7) (map (λ x. lane (q x)) xs) ≡ map q xs
tops q [] = refl
tops q (x ∷ xs) = λ i. top_lane (q x) i ∷ tops q xs i

-- A mask of the octets that pass is full exactly if each of them passes.
pub all_set : (q : ℕ → Bool) (xs ms : List ℕ) (n : ℕ) → length xs ≡ n → n ≤ 64 → ms ≡ map (λ x. lane (q x)) xs
    → nat_eq (mask_l (map (top 7) ms) % 2 ^ 64) (2 ^ n - 1) ≡ list_all q xs
all_set q xs ms n long le is =
    let count : length (map q xs) ≡ n = length-map xs q ∙ long in
    rw (is, tops q xs, mask_l-mod (map q xs) 64 (omega (arith, count)), ← count, full_mask (map q xs)) (list_all-map (λ b. b) q xs)

-- ---- lanes by a comparison

-- the lanes whose octet is at least a given one
abbrev pub from_on : ℕ → ℕ → List ℕ → List ℕ
from_on n least xs = zip2 (λ a b. lane (nat_le a b)) (replicate n least) xs

-- the lanes whose octet is at most a given one
abbrev pub up_to : ℕ → ℕ → List ℕ → List ℕ
up_to n most xs = zip2 (λ a b. lane (nat_le a b)) xs (replicate n most)

-- the lanes whose octet is not a given one
abbrev pub other_than : ℕ → ℕ → List ℕ → List ℕ
other_than n octet xs = zip2 (λ a b. lane (not (nat_eq a b))) xs (replicate n octet)

-- each lane is set
abbrev pub are_set : ℕ → List ℕ → Bool
are_set n ms = nat_eq (mask_l (map (top 7) ms) % 2 ^ 64) (2 ^ n - 1)

-- All lanes of a class are set exactly if the first octets are all of that class.
pub first_of : (xs : List ℕ) (n : ℕ) → n ≤ length xs → n ≤ 64 → (q : ℕ → Bool) (lanes : ℕ → List ℕ → List ℕ)
    → ((ys : List ℕ) → lanes (length ys) ys ≡ map (λ x. lane (q x)) ys)
    → are_set n (lanes n (take n xs)) ≡ list_all q (take n xs)
first_of xs n room le q lanes told =
    let long = length-take-le n xs room in
    all_set q (take n xs) _ n long le (rw long at (told (take n xs)))
