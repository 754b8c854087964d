-- The datasets that each envelope has, and that its data meet their rows.
use Rattle.std.proofs.Common.{◌≡◌, ℕ, ◌≤◌, Bool, true, false, cond, nat_eq, List, [], ◌∷◌, length, refl, sym, arith, subst, Option, Some, inl, inr, ◌++◌, ap, ◌∙◌, append-nil, rules, None}
use Rattle.iim_tables.specs.{Format.Kinds.is_graphic, Format.Dates.is_date}
use Rattle.iim_fields.proofs.Words.{nat_tests, AllByRecursion, list_all, slice_get, option_map, and_parts, eqb-true, Dataset, within, is_digit, all_append, within_most, table, row_of, OctetsMeetRow, IsGoodDataset, IsEnvelope, has_names, first_data, list_any, or_cases, is_some, IsSome, eq-eqb, occurs}
use Rattle.iim_fields.proofs.Table.{mandatory_is, mandatory_numbers}

abbrev MeetsItsRow : Dataset → Type 0
MeetsItsRow d = OctetsMeetRow d.rec d.set d.octets

meets_by : (b : Bool) (r n : ℕ) (d : Dataset) (rest : Option (List ℕ)) (xs : List ℕ) → has_names r n d ≡ b → MeetsItsRow d → (rest ≡ Some xs
    → OctetsMeetRow r n xs)
    → cond b (Some d.octets) rest ≡ Some xs → OctetsMeetRow r n xs
meets_by true r n d rest xs is good later h =
    let parts = and_parts (nat_eq d.rec r) (nat_eq d.set n) is in
    let same : d.octets ≡ xs = cc in rw (← eqb-true d.rec r parts.0, ← eqb-true d.set n parts.1, ← same) good
meets_by false r n d rest xs is good later h = later h

first_meets : (r n : ℕ) (ds : List Dataset) (xs : List ℕ) → AllByRecursion MeetsItsRow ds → first_data r n ds ≡ Some xs → OctetsMeetRow r n xs
first_meets r n [] xs each h = absurd cc
first_meets r n (d ∷ ds) xs each h = meets_by (has_names r n d) r n d (first_data r n ds) xs refl each.0 (λ k. first_meets r n ds xs each.1 k) h

all_meet : (r : ℕ) (run : List Dataset) → AllByRecursion (λ d. (d.rec ≡ r) × IsGoodDataset d) run → AllByRecursion MeetsItsRow run
all_meet r [] h = tt
all_meet r (d ∷ run) h = (h.0.1.meets, all_meet r run h.1)

-- The data of each method of an envelope meet the row.
pub data_meet : (ds : List Dataset) → IsEnvelope ds → (r n : ℕ) (xs : List ℕ) → first_data r n ds ≡ Some xs → OctetsMeetRow r n xs
data_meet ds e r n xs h =
    let all = all_append MeetsItsRow e.r1 e.r2 (all_meet 1 e.r1 e.envelope.each) (all_meet 2 e.r2 e.application.each) in
    first_meets r n ds xs (subst (AllByRecursion MeetsItsRow) (sym e.parts) all) h

-- ---- The rows that methods depend on.

exactly : (only n : ℕ) → within only only n ≡ true → n ≡ only
exactly only n h = grind (arith, nat_tests)

pub service_fits : (xs : List ℕ) → OctetsMeetRow 1 30 xs → length xs ≤ 10
unfolding row_of table
service_fits xs h = within_most 0 10 (length xs) (and_parts (within 0 10 (length xs)) (list_all is_graphic xs) h).0

pub number_fits : (xs : List ℕ) → OctetsMeetRow 1 40 xs → length xs ≡ 8
unfolding row_of table
number_fits xs h = exactly 8 (length xs) (and_parts (within 8 8 (length xs)) (list_all is_digit xs) h).0

pub date_fits : (xs : List ℕ) → OctetsMeetRow 1 70 xs → length xs ≡ 8
unfolding row_of table
date_fits xs h = exactly 8 (length xs) (and_parts (within 8 8 (length xs)) (is_date xs) h).0

pub date_is : (xs : List ℕ) → OctetsMeetRow 1 70 xs → is_date xs ≡ true
unfolding row_of table
date_is xs h = (and_parts (within 8 8 (length xs)) (is_date xs) h).1

pub priority_is_one : (xs : List ℕ) → OctetsMeetRow 1 60 xs → length xs ≡ 1
unfolding row_of table
priority_is_one xs h = exactly 1 (length xs) (and_parts (within 1 1 (length xs)) (list_all is_digit xs) h).0

-- The one octet of a list.
pub only_octet : (xs : List ℕ) → length xs ≡ 1 → option_map (λ b. b ∷ []) (slice_get xs 0) ≡ Some xs
only_octet [] one = absurd (omega arith)
only_octet (x ∷ []) one = refl
only_octet (x ∷ y ∷ xs) one = absurd (omega arith)

-- ---- The datasets that each envelope has.

first_in_run : (r n : ℕ) (run rest : List Dataset) → AllByRecursion (λ d. (d.rec ≡ r) × IsGoodDataset d) run → occurs n run ≡ true
    → is_some (first_data r n (run ++ rest)) ≡ true
first_in_run r n [] rest each h = absurd cc
first_in_run r n (d ∷ run) rest each h =
    let later = first_in_run r n run rest each.1 in let same = eq-eqb d.rec r each.0.0 in grind arith

first_after : (r n : ℕ) (front back : List Dataset) → is_some (first_data r n back) ≡ true → is_some (first_data r n (front ++ back)) ≡ true
first_after r n [] back h = h
first_after r n (d ∷ front) back h = let later = first_after r n front back h in grind arith

each_at : (P : ℕ → Type 0) (ns : List ℕ) (n : ℕ) → AllByRecursion P ns → list_any (λ m. nat_eq m n) ns ≡ true → P n
each_at P [] n each some = absurd cc
each_at P (m ∷ ns) n each some = elim (or_cases (nat_eq m n) (list_any (λ k. nat_eq k n) ns) some) [
  | inl same ↦ subst P (eqb-true m n same) each.0
  | inr later ↦ each_at P ns n each.1 later
]

-- Each envelope has the mandatory datasets of record 1, and those of record 2.
pub first_of_one : (n : ℕ) (ds : List Dataset) → IsEnvelope ds → list_any (λ m. nat_eq m n) (mandatory_numbers 1) ≡ true → is_some (first_data 1 n ds) ≡ true
first_of_one n ds e is =
    let occur = each_at (λ m. occurs m e.r1 ≡ true) (mandatory_numbers 1) n (rw mandatory_is at e.envelope.mandatory) is in
    rw e.parts (first_in_run 1 n e.r1 e.r2 e.envelope.each occur)

pub first_of_two : (n : ℕ) (ds : List Dataset) → IsEnvelope ds → list_any (λ m. nat_eq m n) (mandatory_numbers 2) ≡ true → is_some (first_data 2 n ds) ≡ true
first_of_two n ds e is =
    let occur = each_at (λ m. occurs m e.r2 ≡ true) (mandatory_numbers 2) n (rw mandatory_is at e.application.mandatory) is in
    rw e.parts (first_after 2 n e.r1 e.r2 (rw append-nil at (first_in_run 2 n e.r2 [] e.application.each occur)))

pub found : {A : Type 0} (f : A → List ℕ) (o : Option A) (x : Option (List ℕ)) → option_map f o ≡ x → is_some x ≡ true → IsSome o
found f None x e h = let bad : is_some {T = List ℕ} None ≡ true = ap (λ (y : Option (List ℕ)). is_some y) e ∙ h in absurd cc
found f (Some a) x e h = search rules
