-- Good records: each dataset is valid for its row, the mandatory datasets occur, and datasets that
-- must not repeat occur at most once (IIM version 4, the chapters on the envelope, application,
-- pre-ObjectData descriptor, ObjectData and post-ObjectData descriptor records).
use Rattle.std.specs.Prelude.{◌≡◌, ℕ, Bool, true, false, not, ◌&&◌, ◌||◌, ◌==◌, ◌≤◌, List, map, count_by, length}
use Rattle.std.specs.{List.AllByRecursion, List.list_any, List.filter, Option.option_map_or}
use Rattle.iim_dataset.specs.Format.{Octets.IsOctet, Octets.Octets, Octets.number, Datasets.Dataset}
use Rattle.iim_tables.specs.Format.Rows.{OctetsMeetRow, row_of, table}
use Rattle.iim_tables.specs.declared.shape.Duty.{Duty, TheVariants.Mandatory}

-- the dataset must occur in each record of its number (whether 7:90 must occur depends on the mode,
-- and is checked with the sizes)
abbrev pub must_occur : Duty → Bool
must_occur Mandatory = true
must_occur other = false

-- the numbers of the mandatory datasets of the record, lowest first
abbrev pub mandatory : ℕ → List ℕ
mandatory rec = map (λ e. e.set) (filter (λ e. e.rec == rec && must_occur e.row.duty) table)

-- the dataset may occur more than once: its row allows this, or it has no row
abbrev pub repeats : ℕ → ℕ → Bool
repeats rec n = option_map_or (λ r. r.repeats) (row_of rec n) true

-- the number of datasets with the number n
abbrev pub occurrences : ℕ → List Dataset → ℕ
occurrences n ds = count_by (λ d. d.set == n) ds

-- a dataset has the number n
abbrev pub occurs : ℕ → List Dataset → Bool
occurs n ds = list_any (λ d. d.set == n) ds

-- the dataset is not 1:20 File Format, or its value is 2
abbrev pub has_file_format : Dataset → Bool
has_file_format d = not (d.rec == 1 && d.set == 20) || number d.octets == 2

-- A good dataset: its number is an octet, its data are octets that are valid for its row, and 1:20
-- File Format is 2.
pub record IsGoodDataset (d : Dataset) : Type 0 where
  pub numbered : IsOctet d.set
  pub octets : Octets d.octets
  pub meets : OctetsMeetRow d.rec d.set d.octets
  pub file_format : has_file_format d ≡ true

-- A good record: each dataset is good and of this record, the mandatory ones occur, and those that
-- must not repeat occur at most once.
pub record IsGoodRecord (rec : ℕ) (ds : List Dataset) : Type 0 where
  pub each : AllByRecursion (λ d. (d.rec ≡ rec) × IsGoodDataset d) ds
  pub mandatory : AllByRecursion (λ n. occurs n ds ≡ true) (mandatory rec)
  pub once : (n : ℕ) → repeats rec n ≡ false → occurrences n ds ≤ 1

-- Some octets of length n are valid for the row of the dataset.
abbrev pub HasValueOfLength : ℕ → ℕ → ℕ → Type 0
HasValueOfLength rec set n = (xs : List ℕ) × Octets xs × (length xs ≡ n) × OctetsMeetRow rec set xs
