-- What the table determines of the records of an envelope.
use Rattle.std.proofs.Common.{not, ◌≡◌, ◌≢◌, ℕ, ◌<◌, ◌≤◌, ◌⊎◌, Bool, true, false, ◌&&◌, ◌||◌, cond, nat_eq, List, [], ◌∷◌, length, map, Option, Some, None, refl, ap, sym, ◌∙◌, inl, inr, arith, subst}
use Rattle.iim_fields.proofs.Words.{ne_eqb, cases_Bool, true_from_ne_false, nat_tests, AllByRecursion, list_all, filter, find, option_or, option_map, is_kept, is_first, value_fault, fault_by_row, missing_fault, missing_of, and_parts, or_cases, eqb-true, is_none, IsOctet, within, Dataset, head_of, Head, size_octets, has_kind, has_number_value, data_of, table, row_of, row_of_unread, OctetsMeetRow, is_admitted, HasValueOfLength, mandatory, must_occur, has_file_format, IsGoodDataset, Row, after}
use Rattle.iim_fields.proofs.Sections.{by_record, one_of}
use Rattle.iim_fields.specs.declared.fault.FieldCause.TheVariants as causes
use Rattle.iim_tables.specs.declared.shape.Kind.TheVariants as kinds

-- A test with a fault, and then later tests: there is no fault exactly if each test passes.
pub passed : {A : Type 0} (b : Bool) (told : A) (later : Option A) → cond (not b) (Some told) later ≡ None → (b ≡ true) × (later ≡ None)
passed b told later none = grind arith

pub passes : {A : Type 0} (b : Bool) (told : A) (later : Option A) → b ≡ true → later ≡ None → cond (not b) (Some told) later ≡ None
passes b told later is none = rw is none

-- the numbers that the table makes mandatory, written out
abbrev pub mandatory_numbers : ℕ → List ℕ
mandatory_numbers r =
    cond (nat_eq r 1) (0 ∷ 20 ∷ 22 ∷ 30 ∷ 40 ∷ 70 ∷ [])
    (cond (nat_eq r 2) (0 ∷ [])
    (cond (nat_eq r 7) (10 ∷ 20 ∷ [])
    (cond (nat_eq r 8) (10 ∷ [])
    (cond (nat_eq r 9) (10 ∷ []) []))))

-- The mandatory numbers are octets.
numbers_octets : (r : ℕ) → AllByRecursion IsOctet (mandatory_numbers r)
numbers_octets r = by_record (λ m. AllByRecursion IsOctet (mandatory_numbers m)) r (omega arith) (omega arith) (omega arith) (omega arith) (omega arith)
    (λ not1 not2 not7 not8 not9. rw (not1, not2, not7, not8, not9) tt)

in_five : ℕ → Bool
in_five n = nat_eq n 1 || (nat_eq n 2 || (nat_eq n 7 || (nat_eq n 8 || nat_eq n 9)))

all_in_five : list_all (λ e. in_five e.rec) table ≡ true
unfolding table in_five
all_in_five = refl

-- A record that is not one of the five is not one of the table.
apart : (r n : ℕ) → in_five r ≡ false → in_five n ≡ true → nat_eq n r ≡ false
apart r n other five = ne_eqb n r (λ same. let bad = rw same at five in cc)

-- No entry has the record.
none_of : {E : Type 0} (rec : E → ℕ) (must : E → Bool) (r : ℕ) → in_five r ≡ false → (es : List E) → list_all (λ e. in_five (rec e)) es ≡ true
    → filter (λ e. nat_eq (rec e) r && must e) es ≡ []
none_of rec must r other [] all = refl
none_of rec must r other (e ∷ es) all =
    let parts = and_parts (in_five (rec e)) (list_all (λ x. in_five (rec x)) es) all in
    rw (apart r (rec e) other parts.0) (none_of rec must r other es parts.1)

mandatory_others : (r : ℕ) → in_five r ≡ false → mandatory r ≡ []
mandatory_others r other = ap (map (λ e. e.set)) (none_of (λ e. e.rec) (λ e. must_occur e.row.duty) r other table all_in_five)

pub mandatory_is : (r : ℕ) → mandatory r ≡ mandatory_numbers r
unfolding table in_five
mandatory_is r = by_record (λ m. mandatory m ≡ mandatory_numbers m) r refl refl refl refl refl (λ not1 not2 not7 not8 not9.
    let none : mandatory_numbers r ≡ [] = rw (not1, not2, not7, not8, not9) refl in
    mandatory_others r (rw (not1, not2, not7, not8, not9) refl) ∙ sym none)

-- ---- The records in order.

-- the records after one: none, or a next one that must have datasets, and those after it
abbrev pub Next : List ℕ → Type 0
Next rs = (rs ≡ []) ⊎ ((r : ℕ) × (rs ≡ r ∷ after r) × (0 < length (mandatory_numbers r)))

pub next_of : (r : ℕ) → Next (after r)
next_of r =
    let last : AllByRecursion (λ m. Next (after m)) (8 ∷ 9 ∷ []) = (inr (9, refl, omega arith), (inl refl, tt)) in
    one_of (λ m. Next (after m)) r (0 ∷ 1 ∷ 2 ∷ 7 ∷ 8 ∷ 9 ∷ [])
    (inr (1, refl, omega arith), (inr (2, refl, omega arith), (inr (7, refl, omega arith), (inr (8, refl, omega arith), last))))
    (λ not. rw (not.0.1, not.1.0.1, not.1.1.0.1, not.1.1.1.0.1, not.1.1.1.1.0.1, not.1.1.1.1.1.0.1) (inl refl))

-- No record comes after itself.
pub not_after_itself : (r s : ℕ) → after r ≡ s ∷ after s → r ≡ s → ⊥
not_after_itself r s e same = omega (arith, ap (λ (q : ℕ). length (after q)) same, ap length e)

-- ---- Values.

-- the dataset of that row has data of its least length
abbrev fits_least : Option Row → Bool
fits_least None = false
fits_least (Some row) = within row.min row.max row.min

least_fit : (r : ℕ) → AllByRecursion (λ n. fits_least (row_of r n) ≡ true) (mandatory_numbers r)
unfolding row_of table
least_fit r = by_record (λ m. AllByRecursion (λ n. fits_least (row_of m n) ≡ true) (mandatory_numbers m)) r
    (refl, (refl, (refl, (refl, (refl, (refl, tt)))))) (refl, tt) (refl, (refl, tt)) (refl, tt) (refl, tt)
    (λ not1 not2 not7 not8 not9. rw (not1, not2, not7, not8, not9) tt)

-- For each length that a row allows, some octets of that length meet it.
abbrev pub EachRowHasValues : Type 0
EachRowHasValues = (rec set n : ℕ) (r : Row) → row_of rec set ≡ Some r → within r.min r.max n ≡ true → HasValueOfLength rec set n

-- The bounds of the row of 1:20.
pub file_format_bounds : (row : Row) → row_of 1 20 ≡ Some row → (row.min ≡ 2) × (row.max ≡ 2)
unfolding row_of table
file_format_bounds row e = (cc, cc)

file_format_meets : OctetsMeetRow 1 20 (0 ∷ 2 ∷ [])
unfolding row_of table
file_format_meets = refl

-- The row of a head whose record and number are known.
known_at : (r s : ℕ) (h : Head) (row : Row) → row_of h.rec h.set ≡ Some row → h.rec ≡ r → h.set ≡ s → row_of r s ≡ Some row
known_at r s h row known first second = subst (λ (n : ℕ). row_of r n ≡ Some row) second (subst (λ (n : ℕ). row_of n h.set ≡ Some row) first known)

-- Good data for a head that its row allows.
pub value_for : EachRowHasValues → (h : Head) (row : Row) → IsOctet h.set → row_of h.rec h.set ≡ Some row → within row.min row.max h.count ≡ true
    → (d : Dataset) × (head_of d ≡ h) × IsGoodDataset d
value_for values h row small e fits =
    let v = values h.rec h.set h.count row e fits in
    elim (cases_Bool (nat_eq h.rec 1 && nat_eq h.set 20)) [
      | inl format ↦
          let both = and_parts (nat_eq h.rec 1) (nat_eq h.set 20) format in
          let first = eqb-true h.rec 1 both.0 in
          let second = eqb-true h.set 20 both.1 in
          let bounds = file_format_bounds row (known_at 1 20 h row e first second) in
          let count : 2 ≡ h.count = grind (arith, nat_tests) in (
            record { rec = 1; set = 20; octets = 0 ∷ 2 ∷ [] },
            (λ i. record { rec = sym first i; set = sym second i; count = count i }),
            record { numbered = omega arith; octets = omega arith; meets = file_format_meets; file_format = refl },
          )
      | inr other ↦ (
        record { rec = h.rec; set = h.set; octets = v.0 },
        (λ i. record { rec = h.rec; set = h.set; count = v.2 i }),
        record { numbered = small; octets = v.1; meets = v.3; file_format = rw other refl },
      )
    ]

-- some good dataset of that record and number
abbrev pub HasSample : ℕ → ℕ → Type 0
HasSample r n = (d : Dataset) × (d.rec ≡ r) × (d.set ≡ n) × IsGoodDataset d

sample_by : EachRowHasValues → (r n : ℕ) (o : Option Row) → IsOctet n → row_of r n ≡ o → fits_least o ≡ true → HasSample r n
sample_by values r n None small e fits = absurd cc
sample_by values r n (Some row) small e fits =
    let v = value_for values (record { rec = r; set = n; count = row.min }) row small e fits in
    (v.0, ap (λ (h : Head). h.rec) v.1, ap (λ (h : Head). h.set) v.1, v.2)

samples_by : EachRowHasValues → (r : ℕ) (ns : List ℕ) → AllByRecursion IsOctet ns → AllByRecursion (λ n. fits_least (row_of r n) ≡ true) ns
    → AllByRecursion (HasSample r) ns
samples_by values r [] small h = tt
samples_by values r (n ∷ ns) small h = (sample_by values r n (row_of r n) small.0 refl h.0, samples_by values r ns small.1 h.1)

pub samples : EachRowHasValues → (r : ℕ) → AllByRecursion (HasSample r) (mandatory r)
samples values r = subst (AllByRecursion (HasSample r)) (sym (mandatory_is r)) (samples_by values r (mandatory_numbers r) (numbers_octets r) (least_fit r))

-- Record 0 has no datasets.
pub no_row : (n : ℕ) → row_of 0 n ≡ None
unfolding row_of table
no_row n = refl

-- ---- Rows of sizes.

-- the rows of the dataset bound sizes
abbrev BoundsSize : ℕ → ℕ → Type 0
BoundsSize rec set = (row : Row) → row_of rec set ≡ Some row → (1 ≤ row.min) × (row.max ≤ size_octets)

sizes_of_seven : (set : ℕ) → BoundsSize 7 set
unfolding row_of table
sizes_of_seven set = one_of (BoundsSize 7) set (10 ∷ 20 ∷ 90 ∷ 95 ∷ []) (grind arith)
    (λ not row known. let none = rw (not.0.0, not.1.0.0, not.1.1.0.0, not.1.1.1.0.0) at known in absurd cc)

sizes_of_nine : (set : ℕ) → BoundsSize 9 set
unfolding row_of table
sizes_of_nine set = one_of (BoundsSize 9) set (10 ∷ []) (grind arith) (λ not row known. let none = rw not.0.0 at known in absurd cc)

pub size_row : (rec set : ℕ) (row : Row) → has_number_value rec ≡ true → row_of rec set ≡ Some row → (1 ≤ row.min) × (row.max ≤ size_octets)
size_row rec set row tells known = elim (or_cases (nat_eq rec 7) (nat_eq rec 9) tells) [
  | inl seven ↦ sizes_of_seven set row (rw (eqb-true rec 7 seven) at known)
  | inr nine ↦ sizes_of_nine set row (rw (eqb-true rec 9 nine) at known)
]

-- Octets that a row accepts are as long as it allows.
pub admitted_length : (row : Row) (xs : List ℕ) → is_admitted row xs ≡ true → (row.min ≤ length xs) × (length xs ≤ row.max)
admitted_length row xs h = grind (arith, nat_tests)

pub file_format_length : (h : Head) (row : Row) (xs : List ℕ) → row_of h.rec h.set ≡ Some row → (row.min ≤ length xs) × (length xs ≤ row.max) → h.rec ≡ 1
    → h.set ≡ 20 → length xs ≡ 2
file_format_length h row xs known long first format =
    let bounds = file_format_bounds row (known_at 1 20 h row known first format) in omega arith

-- A value within the bounds of its row has a fault of its kind or of its file format, or none.
pub fault_in_bounds : (h : Head) (row : Row) (xs : List ℕ) → row_of h.rec h.set ≡ Some row → (row.min ≤ length xs) × (length xs ≤ row.max)
    → (has_kind row.kind xs && has_file_format (data_of h xs)) ≡ is_none (value_fault (data_of h xs))
fault_in_bounds h row xs known (low, high) = rw known (grind (arith, nat_tests))

-- ---- Which records have rows.

find_none : {E : Type 0} (rec set : E → ℕ) (r n : ℕ) → in_five r ≡ false → (es : List E) → list_all (λ e. in_five (rec e)) es ≡ true
    → find (λ e. nat_eq (rec e) r && nat_eq (set e) n) es ≡ None
find_none rec set r n other [] all = refl
find_none rec set r n other (e ∷ es) all =
    let parts = and_parts (in_five (rec e)) (list_all (λ x. in_five (rec x)) es) all in
    rw (apart r (rec e) other parts.0) (find_none rec set r n other es parts.1)

no_others : (r : ℕ) → in_five r ≡ false → row_of_unread r ≡ None
unfolding in_five
no_others r other = grind arith

no_other_row : (r n : ℕ) → in_five r ≡ false → row_of r n ≡ None
unfolding row_of
no_other_row r n other =
    ap (λ e. option_or (option_map (λ x. x.row) e) (row_of_unread r)) (find_none (λ e. e.rec) (λ e. e.set) r n other table all_in_five) ∙ no_others r other

five : (r n : ℕ) (row : Row) → row_of r n ≡ Some row → in_five r ≡ true
five r n row known = true_from_ne_false (in_five r) (λ is. let none = no_other_row r n is in cc)

-- No row is of record 0.
pub not_record0 : (r n : ℕ) (row : Row) → row_of r n ≡ Some row → nat_eq r 0 ≡ false
not_record0 r n row known = ne_eqb r 0 (λ is. let none = no_row n in let bad = rw is at known in cc)

-- No record is the first of those after itself.
pub first_self : (r : ℕ) → is_first r (after r) ≡ false
first_self r = one_of (λ m. is_first m (after m) ≡ false) r (0 ∷ 1 ∷ 2 ∷ 7 ∷ 8 ∷ 9 ∷ []) (refl, (refl, (refl, (refl, (refl, (refl, tt))))))
    (λ not. rw (not.0.1, not.1.0.1, not.1.1.0.1, not.1.1.1.0.1, not.1.1.1.1.0.1, not.1.1.1.1.1.0.1) refl)

-- A record with a row is stored, is the object's, or its values are numbers.
pub kept_or_tells : (r n : ℕ) (row : Row) → row_of r n ≡ Some row → (r ≢ 8) → is_kept r ≡ false → has_number_value r ≡ true
unfolding in_five
kept_or_tells r n row known not8 not_kept = let some = five r n row known in grind (arith, nat_tests)

-- A value that is a size and meets its row is as long as a size.
pub size_length : (h : Head) (row : Row) (xs : List ℕ) → row_of h.rec h.set ≡ Some row → value_fault (data_of h xs) ≡ None → has_number_value h.rec ≡ true
    → (1 ≤ length xs) × (length xs ≤ size_octets)
size_length h row xs known none tells =
    let bounds = size_row h.rec h.set row tells known in
    let shown : fault_by_row (Some row) (data_of h xs) ≡ None = subst (λ (o : Option Row). fault_by_row o (data_of h xs) ≡ None) known none in
    let long = admitted_length row xs (passed (is_admitted row xs) _ _ shown).0 in (omega arith, omega arith)

-- Subfiles may have any octets.
pub object_kind : (set : ℕ) (row : Row) → row_of 8 set ≡ Some row → row.kind ≡ kinds.Octets
unfolding row_of table
object_kind set = one_of (λ s. (row : Row) → row_of 8 s ≡ Some row → row.kind ≡ kinds.Octets) set (10 ∷ []) ((λ row known. cc), tt)
    (λ not row known. let none = rw not.0.0 at known in absurd cc)

-- An envelope without record 2 lacks 2:00.
pub no_application_fault : missing_fault 2 (missing_of 2 (λ _. false)) ≡ Some (record { rec = 2; set = 0; cause = causes.Missing })
no_application_fault = ap (λ (ns : List ℕ). missing_fault 2 (find (λ n. true) ns)) (mandatory_is 2)
