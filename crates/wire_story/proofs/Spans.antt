-- The longest prefix of a list whose elements pass a test.
use Rattle.std.proofs.Common.{◌≡◌, ℕ, ◌<◌, length, take, slice_index, Bool, true, false, List, [], ◌∷◌, ◌++◌, refl, ap, ◌∙◌}
use Rattle.std.proofs.lemmas.Bool.{and_parts, and_from, both_ways}
use Rattle.std.specs.List.{list_all}
use Rattle.std.proofs.lemmas.List.Sums.{AllPass-from_list_all, list_all-from_AllPass}
use Rattle.std.proofs.lemmas.List.Elements.{All-take}
use Rattle.std.specs.Prelude.{IsTrue}

-- Every octet passes the test.
abbrev pub Are : (ℕ → Bool) → List ℕ → Type 0
Are test xs = IsTrue (list_all test xs)

pub Are-head : (p : ℕ → Bool) (b : ℕ) (bs : List ℕ) → Are p (b ∷ bs) → p b ≡ true
Are-head p b bs h = (and_parts (p b) (list_all p bs) h).0

pub Are-tail : (p : ℕ → Bool) (b : ℕ) (bs : List ℕ) → Are p (b ∷ bs) → Are p bs
Are-tail p b bs h = (and_parts (p b) (list_all p bs) h).1

pub Are-cons : (p : ℕ → Bool) (b : ℕ) (bs : List ℕ) → p b ≡ true → Are p bs → Are p (b ∷ bs)
Are-cons p b bs h t = and_from (p b) (list_all p bs) h t

pub Are-append : (p : ℕ → Bool) (xs ys : List ℕ) → Are p xs → Are p ys → Are p (xs ++ ys)
Are-append p [] ys a b = b
Are-append p (x ∷ xs) ys a b = Are-cons p x (xs ++ ys) (Are-head p x xs a) (Are-append p xs ys (Are-tail p x xs a) b)

-- The elements that pass before one that does not are determined.
pub span : (p : ℕ → Bool) (a b : List ℕ) (c d : ℕ) (x y : List ℕ) → Are p a → Are p b → p c ≡ false → p d ≡ false
    → a ++ (c ∷ x) ≡ b ++ (d ∷ y) → (a ≡ b) × (c ∷ x ≡ d ∷ y)
span p [] [] c d x y pa pb pc pd e = (refl, e)
span p [] (b ∷ bs) c d x y pa pb pc pd e = let same : c ≡ b = cc in absurd (both_ways (p c) pc (ap p same ∙ Are-head p b bs pb))
span p (a ∷ as') [] c d x y pa pb pc pd e = let same : d ≡ a = cc in absurd (both_ways (p d) pd (ap p same ∙ Are-head p a as' pa))
span p (a ∷ as') (b ∷ bs) c d x y pa pb pc pd e =
    let first : a ≡ b = cc in
    let rest : as' ++ (c ∷ x) ≡ bs ++ (d ∷ y) = cc in
    let more = span p as' bs c d x y (Are-tail p a as' pa) (Are-tail p b bs pb) pc pd rest in
    let rests : as' ≡ bs = more.0 in
    (cc, more.1)

-- A list of which all elements pass has none that does not.
pub no_stop : (p : ℕ → Bool) (b : List ℕ) (d : ℕ) (y : List ℕ) → Are p (b ++ (d ∷ y)) → p d ≡ false → ⊥
no_stop p [] d y h pd = both_ways (p d) pd (Are-head p d y h)
no_stop p (b ∷ bs) d y h pd = no_stop p bs d y (Are-tail p b (bs ++ (d ∷ y)) h) pd

pub Are-take : (p : ℕ → Bool) (n : ℕ) (xs : List ℕ) → Are p xs → Are p (take n xs)
Are-take p n xs h = list_all-from_AllPass p (take n xs) (All-take (λ x. p x ≡ true) n xs (AllPass-from_list_all p xs h))

pub Are-at : (p : ℕ → Bool) (xs : List ℕ) (i : ℕ) → Are p xs → i < length xs → p (slice_index xs i) ≡ true
Are-at p xs i h l = AllPass-from_list_all p xs h i 0 l
