-- The encoding of an object by a packer: its division into subfiles, and records 7, 8 and 9.
use Rattle.std.specs.Prelude.{◌≡◌, ℕ, ◌≤◌, List, [], ◌∷◌, ◌++◌, length, flat_map, Bool, map, Some, None, is_some, IfSome}
use Rattle.std.specs.List.{AllByRecursion}
use Rattle.iim_dataset.specs.Format.Datasets.{Dataset, canonical_stream, written_number}
use Rattle.iim_object.specs.Format.Objects.{mode_number, Sizes, announced_of, maximum_of, bound_of, Size, Known, Unknown}

-- the parts, joined in order
abbrev pub joined_parts : List (List ℕ) → List ℕ
joined_parts parts = flat_map (λ part. part) parts

-- Each part has `size` octets.
abbrev pub AreFull : ℕ → List (List ℕ) → Type 0
AreFull size parts = AllByRecursion (λ part. length part ≡ size) parts

-- The object is divided into full parts of `size` octets, and a last part of 1 to `size` octets. An
-- empty object is one empty part.
pub record SplitsIntoSubfiles (size : ℕ) (object : List ℕ) (parts : List (List ℕ)) : Type 0 where
  pub full : List (List ℕ)
  pub last : List ℕ
  pub are_full : AreFull size full
  pub fits : length last ≤ size
  pub some : last ≡ [] → object ≡ []
  pub joined : object ≡ joined_parts full ++ last
  pub parts_are : parts ≡ full ++ last ∷ []

-- ---- The encoding of an object under a plan: record 7, the subfiles and record 9.

-- a dataset whose value is this number
abbrev pub number_dataset : ℕ → ℕ → ℕ → Dataset
number_dataset rec set n = record { rec = rec; set = set; octets = written_number n }

abbrev pub is_known : Size → Bool
is_known size = is_some (announced_of size)

-- 7:90 for a known size, 7:95 for a maximum, otherwise nothing
abbrev pub size_datasets : Size → List Dataset
size_datasets (Known n) = number_dataset 7 90 n ∷ []
size_datasets (Unknown (Some most)) = number_dataset 7 95 most ∷ []
size_datasets (Unknown None) = []

-- record 7: 7:10, 7:20, and then 7:90 or 7:95
abbrev pub plan_datasets : ℕ → Size → List Dataset
plan_datasets subfile size =
    record { rec = 7; set = 10; octets = mode_number (is_known size) ∷ [] } ∷ number_dataset 7 20 subfile ∷ size_datasets size

-- record 8: 8:10 for each part
abbrev pub subfile_dataset : List ℕ → Dataset
subfile_dataset part = record { rec = 8; set = 10; octets = part }

abbrev pub subfile_datasets : List (List ℕ) → List Dataset
subfile_datasets parts = map subfile_dataset parts

-- record 9: 9:10, with the number of octets of the object
abbrev pub confirmed_datasets : List ℕ → List Dataset
confirmed_datasets object = number_dataset 9 10 (length object) ∷ []

-- records 7, 8 and 9 for an object that is divided into these parts
abbrev pub object_datasets : ℕ → Size → List ℕ → List (List ℕ) → List Dataset
object_datasets subfile size object parts = plan_datasets subfile size ++ (subfile_datasets parts ++ confirmed_datasets object)

-- The octets are the encoding of the object, with subfiles of this length and with this size.
pub record IsWrittenObject (subfile : ℕ) (size : Size) (object octets : List ℕ) : Type 0 where
  pub parts : List (List ℕ)
  pub cut : SplitsIntoSubfiles subfile object parts
  pub octets_are : octets ≡ canonical_stream (object_datasets subfile size object parts)

-- If the size is known, the object has that number of octets.
abbrev pub HasKnownLength : Size → List ℕ → Type 0
HasKnownLength size object = IfSome (announced_of size) (λ n. length object ≡ n)

-- The object is within the bound of the plan and, if the size is known, has that number of octets.
pub record ObjectSuitsPlan (subfile : ℕ) (size : Size) (object : List ℕ) : Type 0 where
  pub fits : length object ≤ bound_of subfile size
  pub exact : HasKnownLength size object

-- the sizes of the plan, of the object and of its parts
abbrev pub packed_sizes : ℕ → Size → List ℕ → List (List ℕ) → Sizes
packed_sizes subfile size object parts =
    record { known = is_known size; subfile = subfile; announced = announced_of size; maximum = maximum_of size; subfiles = length parts; total = length object }
