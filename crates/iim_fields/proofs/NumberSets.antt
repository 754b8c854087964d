-- The bits of a set of numbers, and its list of booleans.
use Rattle.std.proofs.Common.{◌≡◌, ◌≢◌, inl, inr, ℕ, ◌*◌, ◌/◌, ◌%◌, ◌^◌, ◌<◌, nat_eq, Bool, true, false, ◌||◌, List, [], ◌∷◌, length, get_or, set, replicate, bit_and, bit_or, w64, refl, ap, sym, ◌∙◌, arith}
use Rattle.std.proofs.lemmas.Nat.Bits.{shr_and_one, bit_at_set_same, bit_at_set_other}
use Rattle.iim_fields.specs.StoreLayout.{members}
use Rattle.std.proofs.lemmas.List.{ext_get_or}
use Rattle.std.proofs.lemmas.List.FromFn.{length-map-range_with_len, get_or-map-range_with_len}
use Rattle.iim_fields.proofs.Words.{bit_at, get_or-set_at, get_or-set_same, get_or-set_other, length-set, eqb_tells}

-- The members of a list of booleans after one of them was set.
pub seen_more : (xs : List Bool) (s n : ℕ) → s < length xs → get_or (set xs s true) n false ≡ (nat_eq s n || get_or xs n false)
seen_more xs s n fits = elim (eqb_tells s n) [
  | inl same ↦ get_or-set_at xs s n true false (sym same.1) fits ∙ sym (ap (λ b. b || get_or xs n false) same.0)
  | inr other ↦ get_or-set_other xs s n true false (λ e. other.1 (sym e)) ∙ sym (ap (λ b. b || get_or xs n false) other.0)
]

-- ---- The words.

-- the bit of a number
abbrev has_bit : List ℕ → ℕ → Bool
has_bit words n = nat_eq (bit_at (get_or words (n / 64) 0) (n % 64)) 1

length-members : (words : List ℕ) → length (members words) ≡ 256
unfolding members
length-members words = length-map-range_with_len (has_bit words) 0 256

member_at : (words : List ℕ) (n : ℕ) → n < 256 → get_or (members words) n false ≡ has_bit words n
unfolding members
member_at words n h = get_or-map-range_with_len (has_bit words) 0 256 n n false h (omega arith)

-- A word with one more bit is a set with one more number.
pub members_more : (words : List ℕ) (n word : ℕ) → n < 256 → n / 64 < length words → bit_at word (n % 64) ≡ 1
    → ((i : ℕ) → i ≢ n % 64 → bit_at word i ≡ bit_at (get_or words (n / 64) 0) i) → members (set words (n / 64) word) ≡ set (members words) n true
members_more words n word fits room one others =
    let now : List ℕ = set words (n / 64) word in
    let long = length-members now ∙ sym (length-set (members words) n true ∙ length-members words) in
    ext_get_or false (members now) (set (members words) n true) long (λ m lt.
    let h : m < 256 = omega (arith, lt, length-members now) in
    member_at now m h ∙ (at_more m h ∙ sym (seen_more (members words) n m (omega (arith, fits, length-members words)))))
  where
    at_more : (m : ℕ) → m < 256 → has_bit (set words (n / 64) word) m ≡ (nat_eq n m || get_or (members words) m false)
    at_more m h = elim (eqb_tells n m) [
      | inl same ↦ rw (same.0, ← same.1, get_or-set_same words (n / 64) word 0 room, one) refl
      | inr differ ↦ rw differ.0 (elim (eqb_tells (n / 64) (m / 64)) [
        | inl same ↦
            let apart : m % 64 ≢ n % 64 = λ e. differ.1 (omega (arith, same.1, e)) in
            rw (← same.1, get_or-set_same words (n / 64) word 0 room, others (m % 64) apart, same.1) (sym (member_at words m h))
        | inr elsewhere ↦ rw (get_or-set_other words (n / 64) (m / 64) word 0 (λ e. elsewhere.1 (sym e))) (sym (member_at words m h))
      ])
    ]

-- ---- The words as the code computes them.

-- No bit of the empty set is 1.
pub no_members : members (0 ∷ 0 ∷ 0 ∷ 0 ∷ []) ≡ replicate 256 false
unfolding members
no_members = refl

-- The test of a bit in its word.
pub bit_tested : (words : List ℕ) (q n : ℕ) → q ≡ n / 64 → n < 256 → nat_eq (bit_and (get_or words q 0 / 2 ^ (n % 64)) 1) 1 ≡ get_or (members words) n false
bit_tested words q n e h = rw (e, shr_and_one (get_or words (n / 64) 0) (n % 64)) (sym (member_at words n h))

-- Setting a bit in its word.
pub bit_added : (words : List ℕ) (q n : ℕ) → q ≡ n / 64 → length words ≡ 4 → n < 256
    → members (set words q (bit_or (get_or words q 0) (1 * 2 ^ (n % 64) % 2 ^ 64))) ≡ set (members words) n true
bit_added words q n e four h =
    let old : ℕ = get_or words (n / 64) 0 in
    let word : ℕ = bit_or old (1 * 2 ^ (n % 64) % 2 ^ 64) in
    let one = bit_at_set_same w64 old (n % 64) (omega arith) in
    rw e (members_more words n word h (omega (arith, four, h)) one (bit_at_set_other w64 old (n % 64) (omega arith)))
