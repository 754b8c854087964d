-- How an object is divided into parts, and in how many ways.
use Rattle.iim_object.proofs.Words.{◌≡◌, ℕ, ◌+◌, ◌*◌, ◌≤◌, inl, inr, List, [], ◌∷◌, ◌++◌, length, refl, sym, ap, ◌∙◌, arith, append_assoc, length-append, le_of_mul-le-mul_left, nil_from_length, cases_lt, joined_parts, AreFull, SplitsIntoSubfiles, ObjectsSplitUniquely, max_subfiles}
use Rattle.std.proofs.Math.Nat.{mul-le-mul_left}
use Rattle.iim_dataset.specs.Steps.{append_cancel_same_length}

-- A last part after a full one has an octet.
pub some_octet : (size : ℕ) (first rest last : List ℕ) → 1 ≤ size → length first ≡ size → (last ≡ [] → (first ++ rest) ++ last ≡ []) → 1 ≤ length last
some_octet size first rest [] one e some = absurd (omega (arith, ap length (some refl), length-append (first ++ rest) [], length-append first rest))
some_octet size first rest (x ∷ last) one e some = omega arith

-- An object of one part at most cannot be divided into more than one.
pub too_short : (size : ℕ) (last first rest more : List ℕ) → length last ≤ size → length first ≡ size → 1 ≤ length more → last ≡ (first ++ rest) ++ more → ⊥
too_short size last first rest more fits full some e = omega (arith, length-append (first ++ rest) more, length-append first rest, ap length e)

-- First parts of the same length are the same, and so is what comes after them.
pub same_first : (f g fs gs xs ys : List ℕ) → length f ≡ length g → (f ++ fs) ++ xs ≡ (g ++ gs) ++ ys → (f ≡ g) × (fs ++ xs ≡ gs ++ ys)
same_first f g fs gs xs ys long e = append_cancel_same_length f g (fs ++ xs) (gs ++ ys) long (simp append_assoc at e)

one_way : (size : ℕ) (full others : List (List ℕ)) (last other : List ℕ) → 1 ≤ size → AreFull size full → AreFull size others → length last ≤ size
    → length other ≤ size
    → (last ≡ [] → joined_parts full ++ last ≡ []) → (other ≡ [] → joined_parts others ++ other ≡ []) → joined_parts full ++ last ≡ joined_parts others ++ other
    → full ++ last ∷ [] ≡ others ++ other ∷ []
one_way size [] [] last other one f g short brief some any e = λ i. e i ∷ []
one_way size [] (g ∷ gs) last other one full fulls short brief some any e =
    absurd (too_short size last g (joined_parts gs) other short fulls.0 (some_octet size g (joined_parts gs) other one fulls.0 any) e)
one_way size (f ∷ fs) [] last other one full fulls short brief some any e =
    absurd (too_short size other f (joined_parts fs) last brief full.0 (some_octet size f (joined_parts fs) last one full.0 some) (sym e))
one_way size (f ∷ fs) (g ∷ gs) last other one full fulls short brief some any e =
    let parts = same_first f g (joined_parts fs) (joined_parts gs) last other (full.0 ∙ sym fulls.0) e in
    let least = some_octet size f (joined_parts fs) last one full.0 some in
    let most = some_octet size g (joined_parts gs) other one fulls.0 any in
    let more = one_way size fs gs last other one full.1 fulls.1 short brief (λ empty. absurd (omega (arith, least, ap length empty)))
    (λ empty. absurd (omega (arith, most, ap length empty))) parts.1 in
    λ i. parts.0 i ∷ more i

pub cut_one_way : ObjectsSplitUniquely
cut_one_way size object parts others one c d =
    c.parts_are ∙ (one_way size c.full d.full c.last d.last one c.are_full d.are_full c.fits d.fits (λ e. sym c.joined ∙ c.some e) (λ e. sym d.joined
    ∙ d.some e) (sym c.joined ∙ d.joined) ∙ sym d.parts_are)

-- ---- The number of parts.

-- The length of full parts, joined.
full_length : (size : ℕ) (full : List (List ℕ)) → AreFull size full → length (joined_parts full) ≡ size * length full
full_length size [] h = omega arith
full_length size (f ∷ fs) h =
    let more = full_length size fs h.1 in omega (arith, more, h.0, length-append f (joined_parts fs))

-- One full part more than allowed is too much.
few_full : (size count last most : ℕ) → 1 ≤ size → 1 ≤ last → size * count + last ≤ size * most → count + 1 ≤ most
few_full size count last most one some h = elim (cases_lt count most) [
  | inl lt ↦ omega (arith, lt)
  | inr ge ↦ let much = mul-le-mul_left size ge in absurd (omega (arith, h, some, much))
]

-- The number of parts of a division.
pub count_is : (subfile : ℕ) (object : List ℕ) (parts : List (List ℕ)) (c : SplitsIntoSubfiles subfile object parts) → length parts ≡ length c.full + 1
count_is subfile object parts c = ap length c.parts_are ∙ length-append c.full (c.last ∷ [])

-- The number of octets of a divided object.
cut_length : (subfile : ℕ) (object : List ℕ) (parts : List (List ℕ)) (c : SplitsIntoSubfiles subfile object parts) → length object
    ≡ subfile * length c.full + length c.last
cut_length subfile object parts c = omega (arith, ap length c.joined, length-append (joined_parts c.full) c.last, full_length subfile c.full c.are_full)

-- At most this many parts hold no more than as many full ones.
pub held_in_few : (subfile : ℕ) (object : List ℕ) (parts : List (List ℕ)) → SplitsIntoSubfiles subfile object parts → length parts ≤ max_subfiles
    → length object ≤ subfile * max_subfiles
held_in_few subfile object parts c few =
    let more : subfile * (length c.full + 1) ≤ subfile * max_subfiles = mul-le-mul_left subfile (omega (arith, few, count_is subfile object parts c)) in
    omega (arith, more, cut_length subfile object parts c, c.fits)

-- What as many full parts hold is divided into no more.
pub few_parts : (subfile : ℕ) (object : List ℕ) (parts : List (List ℕ)) → 1 ≤ subfile → SplitsIntoSubfiles subfile object parts
    → length object ≤ subfile * max_subfiles
    → length parts ≤ max_subfiles
few_parts subfile object parts one c within = elim (cases_lt 0 (length c.last)) [
  | inl some ↦
      let few = few_full subfile (length c.full) (length c.last) max_subfiles one some (omega (arith, cut_length subfile object parts c, within)) in
      omega (arith, few, count_is subfile object parts c)
  | inr none ↦
      let empty = c.some (nil_from_length c.last (omega (arith, none))) in
      let no_full : length c.full ≤ 0 = le_of_mul-le-mul_left {k = subfile} (omega (arith, cut_length subfile object parts c, ap length empty)) one in
      omega (arith, no_full, count_is subfile object parts c)
]
