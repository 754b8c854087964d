-- Which counts a tag can encode.
use Rattle.std.proofs.Common.{ℕ, ◌^◌, ◌<◌, ◌≤◌, [], ◌∷◌, List, length, arith, inl, inr}
use Rattle.std.proofs.Math.Nat.{pow-le-pow_right}
use Rattle.iim_dataset.specs.Format.Octets.{Octets, number}
use Rattle.iim_dataset.specs.Format.Datasets.{EncodesCount, EncodesTag, count_octets, Head}
use Rattle.iim_dataset.proofs.OctetLists.{number-lt}

-- The number of at most n octets is less than 256 ^ n.
few-lt : (xs : List ℕ) (n : ℕ) → Octets xs → length xs ≤ n → number xs < 256 ^ n
few-lt xs n h fits =
    let less = number-lt xs h in
    let most : 256 ^ length xs ≤ 256 ^ n = pow-le-pow_right (omega arith) fits in
    omega arith

count-lt : (n : ℕ) (xs : List ℕ) → EncodesCount count_octets n xs → n < 256 ^ count_octets
count-lt n [] is = absurd is
count-lt n (high ∷ []) is = absurd is
count-lt n (high ∷ low ∷ more) (inl (small, octet, none, tells)) =
    let less = few-lt (high ∷ low ∷ []) count_octets (omega (arith, small), (octet, tt)) (omega arith) in omega (arith, less, tells)
count-lt n (high ∷ low ∷ more) (inr (first, long, some, fits, octets, tells)) =
    let less = few-lt more count_octets octets (omega (arith, long, fits)) in omega (arith, less, tells)

pub tag-lt : (h : Head) (tag : List ℕ) → EncodesTag count_octets h tag → h.count < 256 ^ count_octets
tag-lt h tag t = count-lt h.count t.count t.is_count
