-- Datasets (IIM version 4, the chapter on DataSets): how they are encoded, how a prefix of a stream
-- is split into datasets, and how they are printed.
use Rattle.std.specs.Prelude.{◌≡◌, ℕ, ◌+◌, ◌^◌, ◌<◌, ◌≤◌, nat_lt, ◌⊎◌, if◌then◌else◌, List, [], ◌∷◌, ◌++◌, length, flat_map, ◌==◌, take, ◌-◌, ◌/◌, ◌%◌, ◌&&◌, not, Bool, nat_le, codes, decimal, Option, Some, None}
use Rattle.std.specs.List.{filter}
use Rattle.byteorder.specs.Endian.{big_bytes}
use Rattle.iim_dataset.specs.Format.Octets.{IsOctet, Octets, number, IsProperPrefix, sp, digit_zero, capital_a, backslash, small_x}
use Rattle.iim_dataset.specs.declared.head.HeadCause.TheVariants.{Marker, CountForm}
use Rattle.iim_dataset.specs.declared.device.IoFault.TheVariants.{Interrupted, Failed}
use Rattle.iim_dataset.specs.declared.{head.HeadCause.HeadCause, device.IoFault.IoFault}
pub use Rattle.iim_dataset.specs.declared.head.{Head.Head, HeadFault.HeadFault}

-- a dataset: its record, its number within the record, and its data
pub record Dataset : Type 0 where
  pub rec : ℕ
  pub set : ℕ
  pub octets : List ℕ

-- the head that the tag of a dataset encodes
abbrev pub head_of : Dataset → Head
head_of d = record { rec = d.rec; set = d.set; count = length d.octets }

-- the greatest number of octets of the number in an extended count (a choice of the profile)
abbrev pub count_octets : ℕ
count_octets = 8

-- the greatest number of octets of a tag: five, and those of the number in an extended count
abbrev pub tag_octets : ℕ
tag_octets = 5 + count_octets

-- the tag marker, which is the first octet of each tag
abbrev pub tag_marker : ℕ
tag_marker = 0x1c

-- the first octet of an extended count
abbrev pub extended : ℕ
extended = 0x80

-- The standard form of a count: two octets, of which the first is below 80h.
abbrev pub IsStandardCount : ℕ → ℕ → ℕ → List ℕ → Type 0
IsStandardCount count high low more = (high < extended) × IsOctet low × (more ≡ []) × (number (high ∷ low ∷ []) ≡ count)

-- The extended form of a count: 8000h plus the number of octets that follow, in two octets, and
-- then the count in that many octets, at most `limit`.
abbrev pub IsExtendedCount : ℕ → ℕ → ℕ → ℕ → List ℕ → Type 0
IsExtendedCount limit count high low more =
    (high ≡ extended) × (low ≡ length more) × (1 ≤ low) × (low ≤ limit) × Octets more × (number more ≡ count)

-- The octets encode the count of a tag.
abbrev pub EncodesCount : ℕ → ℕ → List ℕ → Type 0
EncodesCount limit count (high ∷ low ∷ more) = IsStandardCount count high low more ⊎ IsExtendedCount limit count high low more
EncodesCount limit count fewer = ⊥

-- A tag: the tag marker 1Ch, the record number, the dataset number and the count.
pub record EncodesTag (limit : ℕ) (h : Head) (tag : List ℕ) : Type 0 where
  pub rec : IsOctet h.rec
  pub set : IsOctet h.set
  pub count : List ℕ
  pub is_count : EncodesCount limit h.count count
  pub parts : tag ≡ tag_marker ∷ h.rec ∷ h.set ∷ count

-- A dataset: its tag, and then as many octets of data as the tag states.
pub record EncodesDataset (limit : ℕ) (d : Dataset) (xs : List ℕ) : Type 0 where
  pub tag : List ℕ
  pub is_tag : EncodesTag limit (head_of d) tag
  pub data_octets : Octets d.octets
  pub parts : xs ≡ tag ++ d.octets

-- A stream: the encodings of the datasets, joined in order.
abbrev pub EncodesStream : ℕ → List Dataset → List ℕ → Type 0
EncodesStream limit [] xs = xs ≡ []
EncodesStream limit (d ∷ ds) xs = (first : List ℕ) × (rest : List ℕ)
    × EncodesDataset limit d first × EncodesStream limit ds rest × (xs ≡ first ++ rest)

-- ---- the canonical encoding

-- the encoding of a number whose length is encoded beside it: four octets up to 4,294,967,295, and
-- eight above that, high octet first
abbrev pub written_number : ℕ → List ℕ
written_number n = if nat_lt n (2 ^ 32) then big_bytes 4 n else big_bytes 8 n

-- the canonical encoding of a count: two octets up to 32,767, and an extended count in four or
-- eight octets above that
abbrev pub canonical_count : ℕ → List ℕ
canonical_count n = if nat_lt n 32768 then big_bytes 2 n else extended ∷ length (written_number n) ∷ written_number n

abbrev pub canonical_tag : Head → List ℕ
canonical_tag h = tag_marker ∷ h.rec ∷ h.set ∷ canonical_count h.count

-- the canonical encoding of a dataset: its canonical tag, and its data
abbrev pub canonical_dataset : Dataset → List ℕ
canonical_dataset d = canonical_tag (head_of d) ++ d.octets

-- the canonical encodings of datasets, joined in order
abbrev pub canonical_stream : List Dataset → List ℕ
canonical_stream ds = flat_map canonical_dataset ds

-- the datasets of record r
abbrev pub of_record : ℕ → List Dataset → List Dataset
of_record r ds = filter (λ d. d.rec == r) ds

-- a proper prefix of the encoding of one dataset
pub record IsPartialDataset (limit : ℕ) (xs : List ℕ) : Type 0 where
  pub begun : Dataset
  pub octets : List ℕ
  pub spelled : EncodesDataset limit begun octets
  pub is_part : IsProperPrefix xs octets

-- The octets so far consist of complete datasets and a rest that is shorter than a complete
-- dataset.
pub record SplitsInto (limit : ℕ) (xs : List ℕ) (whole : List Dataset) (rest : List ℕ) : Type 0 where
  pub front : List ℕ
  pub is_front : EncodesStream limit whole front
  pub is_rest : IsPartialDataset limit rest
  pub parts : xs ≡ front ++ rest

-- A partial dataset: the octets of its tag so far, none of them between datasets; or its head and
-- some of its data, but not all.
pub data PartialDataset : Type 0 where
  InTag : List ℕ → PartialDataset
  InData : Head → List ℕ → PartialDataset

-- The octets are the encoding of the partial dataset.
abbrev pub EncodesPartial : ℕ → PartialDataset → List ℕ → Type 0
EncodesPartial limit (InTag held) xs = (xs ≡ held) × (h : Head) × (tag : List ℕ) × EncodesTag limit h tag × IsProperPrefix held tag
EncodesPartial limit (InData h taken) xs = (tag : List ℕ) × EncodesTag limit h tag × (length taken < h.count) × Octets taken × (xs ≡ tag ++ taken)

-- The octets so far are the encodings of these complete datasets and of this partial one.
pub record ReadsAsDatasets (limit : ℕ) (xs : List ℕ) (whole : List Dataset) (begun : PartialDataset) : Type 0 where
  pub front : List ℕ
  pub rest : List ℕ
  pub is_front : EncodesStream limit whole front
  pub is_rest : EncodesPartial limit begun rest
  pub parts : xs ≡ front ++ rest

-- The next octet completes the dataset with this head: it is the last octet of the data, or the
-- last octet of the tag if the dataset has no data.
abbrev pub CompletesTheData : List ℕ → ℕ → List Dataset → Head → List ℕ → Type 0
CompletesTheData octets next whole head given =
    ((taken : List ℕ) × ReadsAsDatasets count_octets octets whole (InData head taken) × (given ≡ taken ++ next ∷ []) × (length given ≡ head.count))
    ⊎ ((held : List ℕ) × ReadsAsDatasets count_octets octets whole (InTag held) × EncodesTag count_octets head (held ++ next ∷ []) × (head.count ≡ 0) × (given ≡ []))

-- The octets are a proper prefix of a tag.
pub record BeginsTag (limit : ℕ) (octets : List ℕ) : Type 0 where
  pub head : Head
  pub more : List ℕ
  pub some_more : 0 < length more
  pub whole : EncodesTag limit head (octets ++ more)

-- No tag begins with these octets.
abbrev pub BeginsNoTag : ℕ → List ℕ → Type 0
BeginsNoTag limit octets = (h : Head) (more : List ℕ) → EncodesTag limit h (octets ++ more) → ⊥

-- A wrong marker can only be the first octet of a tag, and a wrong count only the fourth or a later
-- one.
abbrev pub CauseOccursAt : HeadCause → ℕ → Type 0
CauseOccursAt Marker at = at ≡ 0
CauseOccursAt CountForm at = 3 ≤ at

-- The first `used` octets are the tag of this head.
pub record HasTag (octets : List ℕ) (head : Head) (used : ℕ) : Type 0 where
  pub some : 0 < used
  pub within : used ≤ length octets
  pub tag : EncodesTag count_octets head (take used octets)

-- The octets before the index `taken` begin a tag, but no tag begins with these and the octet at
-- that index.
pub record HasNoTag (octets : List ℕ) (fault : HeadFault) : Type 0 where
  pub within : fault.taken < length octets
  pub begun : BeginsTag count_octets (take fault.taken octets)
  pub dead : BeginsNoTag count_octets (take (fault.taken + 1) octets)
  pub cause : CauseOccursAt fault.cause fault.taken

-- the hexadecimal digit of a number below 16: 0 to 9, A to F
abbrev pub hex_digit : ℕ → ℕ
hex_digit n = if nat_lt n 10 then digit_zero + n else capital_a - 10 + n

-- \x and the two hexadecimal digits of an octet
abbrev pub escape : ℕ → List ℕ
escape octet = backslash ∷ small_x ∷ hex_digit (octet / 16) ∷ hex_digit (octet % 16) ∷ []

-- An octet from 20h to 7Eh, except the backslash, is printed as itself.
abbrev pub is_plain : ℕ → Bool
is_plain octet = nat_le sp octet && nat_le octet 0x7e && not (octet == backslash)

-- the printed form of an octet: the octet itself, or \x and two digits
abbrev pub shown_octet : ℕ → List ℕ
shown_octet octet = if is_plain octet then octet ∷ [] else escape octet

abbrev pub shown : List ℕ → List ℕ
shown octets = flat_map shown_octet octets

-- a 0 before a number of one digit, otherwise nothing
abbrev pub padding : ℕ → List ℕ
padding n = if nat_lt n 10 then codes "0" else []

-- the printed name of a dataset: its record, and its number with at least two digits, as 1:00 or
-- 2:105
abbrev pub dataset_name : ℕ → ℕ → List ℕ
dataset_name rec set = decimal rec ++ (codes ":" ++ (padding set ++ decimal set))

-- a number in decimal, or - if there is no number
abbrev pub number_or_dash : Option ℕ → List ℕ
number_or_dash None = codes "-"
number_or_dash (Some n) = decimal n

-- the printed forms of the faults of readers and writers
abbrev pub text_of_fault : IoFault → List ℕ
text_of_fault Interrupted = codes "the device was interrupted"
text_of_fault Failed = codes "the device failed"
