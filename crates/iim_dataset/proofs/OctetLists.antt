-- Lemmas on lists of octets, for the proofs of every crate.
use Rattle.std.proofs.Common.{◌≡◌, ℕ, zero, suc, ◌+◌, ◌*◌, ◌^◌, ◌<◌, ◌≤◌, List, [], ◌∷◌, ◌++◌, length, take, get_or, replicate, ap, arith}
use Rattle.std.proofs.Math.Nat.{mul-le-mul_right, pow-succ'}
use Rattle.byteorder.specs.Numbers.{big_from-cons}
use Rattle.iim_dataset.specs.Format.Octets.{IsOctet, Octets, number}
use Rattle.iim_dataset.proofs.Each.{all_append}

-- Each element is an octet.
abbrev pub Fit : List ℕ → Type 0
Fit octets = (i : ℕ) → get_or octets i 0 < 256

pub are_octets : (xs : List ℕ) → Fit xs → Octets xs
are_octets [] fits = tt
are_octets (x ∷ xs) fits = (fits 0, are_octets xs (λ i. fits (suc i)))

pub front_are : (n : ℕ) (xs : List ℕ) → Octets xs → Octets (take n xs)
front_are zero xs h = tt
front_are (suc n) [] h = tt
front_are (suc n) (x ∷ xs) h = (h.0, front_are n xs h.1)

pub octets_append : (xs ys : List ℕ) → Octets xs → Octets ys → Octets (xs ++ ys)
octets_append xs ys h k = all_append IsOctet xs ys h k

-- One octet, repeated, is a list of octets.
pub octets_same : (b n : ℕ) → b < 256 → Octets (replicate n b)
octets_same b zero h = tt
octets_same b (suc n) h = (h, octets_same b n h)

pub zeros_are : (n : ℕ) → Octets (replicate n 0)
zeros_are n = octets_same 0 n (omega arith)

-- The number of a list of octets, by its first octet and the rest.
pub number-cons : (b : ℕ) (bs : List ℕ) → number (b ∷ bs) ≡ b * 256 ^ length bs + number bs
number-cons b bs = ap (λ (r : ℕ). b * 256 ^ length bs + r) (big_from-cons 0 (length bs) b bs)

-- n octets encode a number less than 256 ^ n.
pub number-lt : (xs : List ℕ) → Octets xs → number xs < 256 ^ length xs
number-lt [] h = omega arith
number-lt (b ∷ bs) h =
    let rest = number-lt bs h.1 in
    let high : b * 256 ^ length bs ≤ 255 * 256 ^ length bs = mul-le-mul_right (256 ^ length bs) (omega (arith, h.0)) in
    rw (number-cons b bs, pow-succ' 256 (length bs)) (omega arith)
