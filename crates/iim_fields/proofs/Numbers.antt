-- Which head of a complete dataset may come next, and which numbers the datasets of records 7 and 9
-- may have.
use Rattle.std.proofs.Common.{subst, ◌≡◌, ℕ, ◌⊎◌, Bool, true, false, ◌&&◌, nat_eq, nat_le, List, [], ◌∷◌, length, Option, Some, None, refl, ap, sym, ◌∙◌, inl, inr, arith, ◌≢◌, not, ◌||◌, if◌then◌else◌, ne_eqb}
use Rattle.iim_tables.specs.declared.shape.Kind.TheVariants.{Mode, Size, SizeFromOne}
use Rattle.iim_fields.proofs.Words.{IsInRange, nat_tests, is_none, option_or, number, within, greatest_size, Head, number-cons, size_octets, has_kind, table, row_of, Row, head_fault, value_fault, data_of, DatasetEncodesNumber, FieldFault, eq-eqb, eqb_tells, after, missing_of, is_first}
use Rattle.iim_fields.proofs.{Sections.one_of, Table.not_record0, Table.first_self}

-- a dataset that does not repeat may come next, by the order
abbrev pub admits_once : ℕ → (ℕ → Bool) → ℕ → ℕ → Bool
admits_once present has rec set =
    if nat_eq rec present then not (has set) else is_first rec (after present) && is_none (missing_of present has)

-- a dataset of record 7 or 9 may have this number
abbrev is_number : Head → ℕ → Bool
is_number h n =
    if nat_eq h.rec 9 then nat_eq h.set 10 && nat_le n greatest_size
    else if nat_eq h.set 10 then nat_eq h.count 1 && nat_le n 1
    else if nat_eq h.set 20 then nat_le 1 n && nat_le n greatest_size
    else (nat_eq h.set 90 || nat_eq h.set 95) && nat_le n greatest_size

-- ---- In the current record.

pub more_admitted : (present : ℕ) (has : ℕ → Bool) (h : Head) (row : Row) → row_of h.rec h.set ≡ Some row → h.rec ≡ present
    → (within row.min row.max h.count && (row.repeats || not (has h.set))) ≡ is_none (head_fault present has h)
more_admitted present has h row known same =
    let here = eq-eqb h.rec present same in
    let some = not_record0 h.rec h.set row known in
    let first : is_first h.rec (after present) ≡ false = ap (λ (p : ℕ). is_first h.rec (after p)) (sym same) ∙ first_self h.rec in
    rw known (grind arith)

-- ---- As the first of the next record.

pub next_admitted : (present : ℕ) (has : ℕ → Bool) (h : Head) (row : Row) → row_of h.rec h.set ≡ Some row → h.rec ≢ present
    → (within row.min row.max h.count && (is_first h.rec (after present) && is_none (missing_of present has))) ≡ is_none (head_fault present has h)
next_admitted present has h row known other = let apart = ne_eqb h.rec present other in rw known (grind arith)

-- ---- A dataset that does not repeat.

pub once_admitted : (present : ℕ) (has : ℕ → Bool) (h : Head) (row : Row) → row_of h.rec h.set ≡ Some row → row.repeats ≡ false
    → (within row.min row.max h.count && admits_once present has h.rec h.set) ≡ is_none (head_fault present has h)
once_admitted present has h row known once =
    let counted = within row.min row.max h.count in
    let next : Bool = is_first h.rec (after present) && is_none (missing_of present has) in
    elim (eqb_tells h.rec present) [
      | inl same ↦ (λ i. counted && (if same.0 i then not (has h.set) else next)) ∙ rw once at (more_admitted present has h row known same.1)
      | inr apart ↦ (λ i. counted && (if apart.0 i then not (has h.set) else next)) ∙ next_admitted present has h row known apart.1
    ]

-- ---- The rows.

pub and_true : (b : Bool) → (b && true) ≡ b
and_true b = grind arith

mode_by : (xs : List ℕ) → length xs ≡ 1 → has_kind Mode xs ≡ nat_le (number xs) 1
mode_by [] e = let bad : 0 ≡ 1 = e in absurd (omega (arith, bad))
mode_by (x ∷ []) e =
    let same : number (x ∷ []) ≡ x = number-cons x [] ∙ (omega arith) in
    and_true (nat_le x 1) ∙ ap (λ (n : ℕ). nat_le n 1) (sym same)
mode_by (x ∷ (y ∷ xs)) e = absurd (omega (arith, e))

-- The dataset may have the number exactly if its octets meet the row, which lets it occur once.
abbrev Meant : Option Row → Head → ℕ → List ℕ → Type 0
Meant None h n xs = is_number h n ≡ false
Meant (Some row) h n xs = (row.repeats ≡ false) × (is_number h n ≡ (within row.min row.max h.count && has_kind row.kind xs))

mode_meant : (count n : ℕ) (xs : List ℕ) → count ≡ length xs → n ≡ number xs → (nat_eq count 1 && nat_le n 1) ≡ (within 1 1 count && has_kind Mode xs)
mode_meant count n xs long is = let kind = mode_by xs in grind (arith, nat_tests)

size_meant : (count n : ℕ) (xs : List ℕ) → count ≡ length xs → IsInRange 1 size_octets (length xs) → n ≡ number xs
    → nat_le n greatest_size ≡ (within 1 size_octets count && has_kind Size xs)
size_meant count n xs long few is = grind (arith, nat_tests)

largest_meant : (count n : ℕ) (xs : List ℕ) → count ≡ length xs → IsInRange 1 size_octets (length xs) → n ≡ number xs
    → (nat_le 1 n && nat_le n greatest_size) ≡ (within 1 size_octets count && has_kind SizeFromOne xs)
largest_meant count n xs long few is = grind (arith, nat_tests)

meant : (r s count n : ℕ) (xs : List ℕ) → (r ≡ 7) ⊎ (r ≡ 9) → count ≡ length xs → IsInRange 1 size_octets (length xs) → n ≡ number xs
    → Meant (row_of r s) (record { rec = r; set = s; count = count }) n xs
unfolding row_of table
meant r s count n xs (inl seven) long few is =
    let size = size_meant count n xs long few is in
    subst (λ (q : ℕ). Meant (row_of q s) (record { rec = q; set = s; count = count }) n xs) (sym seven)
    (one_of (λ t. Meant (row_of 7 t) (record { rec = 7; set = t; count = count }) n xs) s (10 ∷ 20 ∷ 90 ∷ 95 ∷ [])
    ((refl, mode_meant count n xs long is), ((refl, largest_meant count n xs long few is), ((refl, size), ((refl, size), tt))))
    (λ not. rw (not.0.0, not.1.0.0, not.1.1.0.0, not.1.1.1.0.0, not.0.1, not.1.0.1, not.1.1.0.1, not.1.1.1.0.1) refl))
meant r s count n xs (inr nine) long few is =
    subst (λ (q : ℕ). Meant (row_of q s) (record { rec = q; set = s; count = count }) n xs) (sym nine)
    (one_of (λ t. Meant (row_of 9 t) (record { rec = 9; set = t; count = count }) n xs) s (10 ∷ []) ((refl, size_meant count n xs long few is), tt)
    (λ not. rw (not.0.0, not.0.1) refl))

-- ---- A dataset.

both_none : (a b : Option FieldFault) → is_none (option_or a b) ≡ (is_none a && is_none b)
both_none a b = grind arith

exact_by : (p : ℕ) (has : ℕ → Bool) (h : Head) (n : ℕ) (xs : List ℕ) (o : Option Row) → row_of h.rec h.set ≡ o → Meant o h n xs → nat_eq h.rec 1 ≡ false
    → h.count ≡ length xs → (is_number h n && admits_once p has h.rec h.set) ≡ is_none (option_or (head_fault p has h) (value_fault (data_of h xs)))
exact_by p has h n xs None known meant other count = rw (known, meant) (grind arith)
exact_by p has h n xs (Some row) known meant other count =
    let head = once_admitted p has h row known meant.0 in
    let value : is_none (value_fault (data_of h xs)) ≡ (within row.min row.max h.count && has_kind row.kind xs) = rw (known, count, other) (grind arith) in
    rw (both_none, ← head, value, meant.1) (grind arith)

pub number_exact : (p : ℕ) (has : ℕ → Bool) (h : Head) (n : ℕ) (xs : List ℕ) → (h.rec ≡ 7) ⊎ (h.rec ≡ 9) → DatasetEncodesNumber xs h n
    → (is_number h n && admits_once p has h.rec h.set) ≡ is_none (option_or (head_fault p has h) (value_fault (data_of h xs)))
number_exact p has h n xs number s =
    exact_by p has h n xs (row_of h.rec h.set) refl (meant h.rec h.set h.count n xs number s.count s.few s.is) (grind (arith, nat_tests)) s.count
