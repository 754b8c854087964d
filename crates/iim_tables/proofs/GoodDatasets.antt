-- Lemmas on rows and good datasets, for the proofs of every crate.
use Rattle.std.proofs.Common.{◌≡◌, ℕ, ◌+◌, ◌≤◌, true, false, cond, nat_eq, nat_le, List, [], ◌∷◌, ◌++◌, length, Option, Some, None, refl, arith}
use Rattle.std.proofs.lemmas.Bool.{le-leb, or_parts}
use Rattle.std.proofs.lemmas.List.Sums.{sum_by-append, sum_by-cons}
use Rattle.std.specs.List.{list_all}
use Rattle.std.specs.Option.{option_map_or}
use Rattle.iim_dataset.specs.{Format.Octets.IsOctet, Format.Octets.Octets, Format.Octets.greatest_size, Format.Datasets.Dataset}
use Rattle.iim_tables.specs.Format.Rows.{row_of, table, is_admitted, OctetsMeetRow}
use Rattle.iim_tables.specs.Format.Records.{occurrences, occurs, repeats, IsGoodDataset}
use Rattle.iim_tables.specs.declared.shape.Row.{Row}

-- Octets meet a row that accepts them, and a row that they meet accepts them.
pub meets_as : (rec set : ℕ) (row : Row) (xs : List ℕ) → row_of rec set ≡ Some row → is_admitted row xs ≡ true → OctetsMeetRow rec set xs
meets_as rec set row xs known admitted = rw known admitted

pub admitted_as : (rec set : ℕ) (row : Row) (xs : List ℕ) → row_of rec set ≡ Some row → OctetsMeetRow rec set xs → is_admitted row xs ≡ true
admitted_as rec set row xs known meets = rw known at meets

-- No octets meet the row of a dataset that has no row.
pub none_meets : (rec set : ℕ) (xs : List ℕ) → row_of rec set ≡ None → OctetsMeetRow rec set xs → ⊥
none_meets rec set xs none meets = rw none at meets

-- Whether a dataset may repeat, by its row.
pub repeats_as : (rec n : ℕ) (o : Option Row) → row_of rec n ≡ o → repeats rec n ≡ option_map_or (λ (r : Row). r.repeats) o true
repeats_as rec n o is = rw is refl

-- A dataset of a record other than 1 is good if it meets its row.
pub good_elsewhere : {d : Dataset} → nat_eq d.rec 1 ≡ false → IsOctet d.set → Octets d.octets → OctetsMeetRow d.rec d.set d.octets → IsGoodDataset d
good_elsewhere other small octets meets = record { numbered = small; octets = octets; meets = meets; file_format = rw other refl }

pub occurrences_append : (n : ℕ) (xs ys : List Dataset) → occurrences n (xs ++ ys) ≡ occurrences n xs + occurrences n ys
occurrences_append n xs ys = sum_by-append (λ (d : Dataset). cond (nat_eq d.set n) 1 0) xs ys

pub none_counts : (n : ℕ) (xs : List Dataset) → occurs n xs ≡ false → occurrences n xs ≡ 0
none_counts n [] h = refl
none_counts n (x ∷ xs) h =
    let parts = or_parts (nat_eq x.set n) (occurs n xs) h in
    let later = none_counts n xs parts.1 in rw parts.0 later

pub some_counts : (n : ℕ) (xs : List Dataset) → occurs n xs ≡ true → 1 ≤ occurrences n xs
some_counts n [] h = absurd cc
some_counts n (x ∷ xs) h =
    let sum = occurrences_append n (x ∷ []) xs in
    let later = some_counts n xs in grind arith

pub occurrences_cons : (n : ℕ) (d : Dataset) (ds : List Dataset) → occurrences n (d ∷ ds) ≡ cond (nat_eq d.set n) 1 0 + occurrences n ds
occurrences_cons n d ds = sum_by-cons (λ (x : Dataset). cond (nat_eq x.set n) 1 0) d ds

pub table_bounded : list_all (λ e. nat_le e.row.max greatest_size) table ≡ true
unfolding table
table_bounded = refl

pub part_meets : (xs : List ℕ) → length xs ≤ greatest_size → OctetsMeetRow 8 10 xs
unfolding row_of table
part_meets xs le = rw (le-leb (length xs) greatest_size le, le-leb 0 (length xs) (omega arith)) refl
