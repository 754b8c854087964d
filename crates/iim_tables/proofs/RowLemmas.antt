-- For each row and each length within its bounds some data meet the row, so a head with such a
-- count can always continue.
use Rattle.std.proofs.Common.{◌⊎◌, inl, inr, if◌then◌else◌, Option, Some, None, ◌≡◌, ℕ, zero, suc, ◌^◌, ◌<◌, ◌≤◌, Bool, true, false, ◌&&◌, ◌||◌, ◌==◌, nat_le, List, [], ◌∷◌, ◌++◌, length, replicate, codes, refl, sym, arith, length-append, zero-mul}
use Rattle.std.specs.List.{list_all, find}
use Rattle.std.proofs.lemmas.List.{length-replicate}
use Rattle.std.proofs.lemmas.Bool.{and_from, and_parts, eqb-true, leb-true}
use Rattle.iim_dataset.specs.Format.Octets.{Octets as AreOctets, within, is_digit, is_letter, number, greatest_size}
use Rattle.iim_dataset.proofs.OctetLists.{number-cons, octets_append, octets_same}
use Rattle.iim_tables.specs.Format.Kinds.{is_graphic, is_spaced, is_spaced_or_line_end, size_octets, has_kind, is_size_from}
use Rattle.iim_tables.specs.Format.Rows.{Entry, table, row_of, row_in, row_of_unread, unread_row, is_admitted}
use Rattle.iim_tables.specs.Format.Records.{HasValueOfLength}
use Rattle.iim_tables.specs.declared.shape.Row.{Row}
use Rattle.std.specs.Option.{option_map, option_or}
use Rattle.std.proofs.lemmas.Bool.Decides.{nat_tests}
use Rattle.iim_tables.specs.declared.shape.Kind.{Kind}
use Rattle.iim_tables.specs.declared.shape.Kind.TheVariants as kinds
use Rattle.iim_tables.proofs.GoodDatasets.{table_bounded}

-- the lengths that data of the kind may have
abbrev pub has_length : Kind → ℕ → Bool
has_length kinds.Date n = n == 8
has_length kinds.PartDate n = n == 8
has_length kinds.Time n = n == 11
has_length kinds.Mode n = n == 1
has_length kinds.Size n = within 1 size_octets n
has_length kinds.SizeFromOne n = within 1 size_octets n
has_length other n = true

all_same : (test : ℕ → Bool) (b n : ℕ) → test b ≡ true → list_all test (replicate n b) ≡ true
all_same test b zero h = refl
all_same test b (suc n) h = and_from (test b) (list_all test (replicate n b)) h (all_same test b n h)

number-zeros : (n : ℕ) → number (replicate n 0) ≡ 0
number-zeros zero = refl
number-zeros (suc n) = omega (arith, number-cons 0 (replicate n 0), zero-mul (256 ^ length {A = ℕ} (replicate n 0)), number-zeros n)

number-zeros_one : (n : ℕ) → number (replicate n 0 ++ (1 ∷ [])) ≡ 1
number-zeros_one zero = refl
number-zeros_one (suc n) = omega (
  arith,
  number-cons 0 (replicate n 0 ++ (1 ∷ [])),
  zero-mul (256 ^ length {A = ℕ} (replicate n 0 ++ (1 ∷ []))),
  number-zeros_one n,
)

size_of : (least : ℕ) (xs : List ℕ) → within 1 size_octets (length xs) ≡ true → least ≤ number xs → number xs ≤ greatest_size → is_size_from least xs ≡ true
size_of least xs h k g = grind (arith, nat_tests)

abbrev Value : Kind → ℕ → Type 0
Value k n = (xs : List ℕ) × (length xs ≡ n) × (has_kind k xs ≡ true) × AreOctets xs

same : (k : Kind) (b n : ℕ) → b < 256 → has_kind k (replicate n b) ≡ true → Value k n
same k b n lt h = (replicate n b, length-replicate n b, h, octets_same b n lt)

pub value_of : (k : Kind) (n : ℕ) → has_length k n ≡ true → Value k n
value_of kinds.Graphic n h = same kinds.Graphic 65 n (omega arith) (all_same is_graphic 65 n refl)
value_of kinds.Spaced n h = same kinds.Spaced 65 n (omega arith) (all_same is_spaced 65 n refl)
value_of kinds.SpacedLines n h = same kinds.SpacedLines 65 n (omega arith) (all_same is_spaced_or_line_end 65 n refl)
value_of kinds.Letters n h = same kinds.Letters 65 n (omega arith) (all_same is_letter 65 n refl)
value_of kinds.Digits n h = same kinds.Digits 48 n (omega arith) (all_same is_digit 48 n refl)
value_of kinds.Date n h = (codes "00010101", sym (eqb-true n 8 h), refl, search arith)
value_of kinds.PartDate n h = (codes "00010101", sym (eqb-true n 8 h), refl, search arith)
value_of kinds.Time n h = (codes "000000+0000", sym (eqb-true n 11 h), refl, search arith)
value_of kinds.Binary n h = same kinds.Binary 0 n (omega arith) refl
value_of kinds.Octets n h = same kinds.Octets 0 n (omega arith) refl
value_of kinds.Mode n h = (0 ∷ [], sym (eqb-true n 1 h), refl, (omega arith, tt))
value_of kinds.Size n h =
    let len : length {A = ℕ} (replicate n 0) ≡ n = length-replicate n 0 in
    (replicate n 0, len, size_of 0 (replicate n 0) (rw len h) (omega arith) (omega (arith, number-zeros n)), octets_same 0 n (omega arith))
value_of kinds.SizeFromOne zero h = absurd cc
value_of kinds.SizeFromOne (suc n) h =
    let len : length {A = ℕ} (replicate n 0 ++ (1 ∷ [])) ≡ suc n = omega
    (arith, length-append {A = ℕ} (replicate n 0) (1 ∷ []), length-replicate {A = ℕ} n 0) in (
      replicate n 0 ++ (1 ∷ []),
      len,
      size_of 1 (replicate n 0 ++ (1 ∷ [])) (rw len h) (omega (arith, number-zeros_one n)) (omega (arith, number-zeros_one n)),
      octets_append (replicate n 0) (1 ∷ []) (octets_same 0 n (omega arith)) (omega arith, tt),
    )

-- The lengths of a kind are an interval: a length between two of them is one of them.
between : (k : Kind) (low high n : ℕ) → has_length k low ≡ true → has_length k high ≡ true → within low high n ≡ true → has_length k n ≡ true
between kinds.Date low high n h k t = grind (arith, nat_tests)
between kinds.PartDate low high n h k t = grind (arith, nat_tests)
between kinds.Time low high n h k t = grind (arith, nat_tests)
between kinds.Mode low high n h k t = grind (arith, nat_tests)
between kinds.Size low high n h k t = grind (arith, nat_tests)
between kinds.SizeFromOne low high n h k t = grind (arith, nat_tests)
between _ low high n h k t = refl

-- Both bounds of the row are lengths of its kind.
abbrev bounds_fit : Row → Bool
bounds_fit r = has_length r.kind r.min && has_length r.kind r.max

table_fits : list_all (λ e. bounds_fit e.row) table ≡ true
unfolding table
table_fits = refl

found_first : (b : Bool) (q : Row → Bool) (e : Entry) (rest : Option Entry) (r : Row) → q e.row ≡ true → (option_map (λ x. x.row) rest ≡ Some r → q r ≡ true)
    → option_map (λ x. x.row) (if b then Some e else rest) ≡ Some r → q r ≡ true
found_first true q e rest r h later found = let same : e.row ≡ r = cc in rw same at h
found_first false q e rest r h later found = later found

-- What a search finds passes each test that all entries pass.
found_passes : (p : Entry → Bool) (q : Row → Bool) (es : List Entry) (r : Row) → list_all (λ e. q e.row) es ≡ true
    → option_map (λ x. x.row) (find p es) ≡ Some r → q r ≡ true
found_passes p q [] r h found = absurd cc
found_passes p q (e ∷ es) r h found =
    let parts = and_parts (q e.row) (list_all (λ x. q x.row) es) h in
    found_first (p e) q e (find p es) r parts.0 (λ later. found_passes p q es r parts.1 later) found

first_or_other : (a b : Option Row) (r : Row) → option_or a b ≡ Some r → (a ≡ Some r) ⊎ (b ≡ Some r)
first_or_other (Some x) b r h = inl h
first_or_other None b r h = inr h

only_kept : (b : Bool) (r : Row) → (if b then Some unread_row else None) ≡ Some r → unread_row ≡ r
only_kept b r h = grind arith

-- Each row of a dataset passes a test that each row of the table passes, and the row of unread
-- datasets.
row_passes : (q : Row → Bool) (rec set : ℕ) (r : Row) → list_all (λ e. q e.row) table ≡ true → q unread_row ≡ true → row_of rec set ≡ Some r → q r ≡ true
unfolding row_of
row_passes q rec set r all kept found = elim (first_or_other (row_in table rec set) (row_of_unread rec) r found) [
  | inl first ↦ found_passes (λ e. e.rec == rec && e.set == set) q table r all first
  | inr other ↦ rw (only_kept (rec == 1 || rec == 2) r other) at kept
]

-- For each length that a row allows, some octets of that length meet it.
pub row_values : (rec set n : ℕ) (r : Row) → row_of rec set ≡ Some r → within r.min r.max n ≡ true → HasValueOfLength rec set n
row_values rec set n r found t =
    let fits = row_passes bounds_fit rec set r table_fits refl found in
    let ends = and_parts (has_length r.kind r.min) (has_length r.kind r.max) fits in
    let value = value_of r.kind n (between r.kind r.min r.max n ends.0 ends.1 t) in
    let in_bounds : within r.min r.max (length value.0) ≡ true = rw value.1 t in
    let admitted : is_admitted r value.0 ≡ true = and_from (within r.min r.max (length value.0)) (has_kind r.kind value.0) in_bounds value.2 in
    (value.0, value.3, value.1, rw found admitted)

-- ---- No row allows more octets than the greatest size.

pub row_bounded : (rec set : ℕ) (r : Row) → row_of rec set ≡ Some r → r.max ≤ greatest_size
row_bounded rec set r found = leb-true r.max greatest_size (row_passes (λ x. nat_le x.max greatest_size) rec set r table_bounded refl found)
