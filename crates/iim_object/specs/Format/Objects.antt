-- Objects: what records 7, 8 and 9 state about an object, its tokens, and positions in it.
use Rattle.std.specs.Prelude.{◌≡◌, ℕ, ◌≤◌, ◌==◌, ◌⊎◌, Bool, true, false, cond, List, [], ◌∷◌, length, sum, is_some, Option, Some, None, IfSome, ◌+◌, ◌*◌, ◌^◌, ◌&&◌, nat_le, nat_lt, min, unwrap_or, ◌<◌, ◌++◌, map, if◌then◌else◌}
use Rattle.std.specs.{List.AllByRecursion, Option.option_or}
use Rattle.iim_dataset.specs.Format.Octets.{greatest_size, greatest_u32, number}
use Rattle.iim_dataset.specs.Format.Datasets.{tag_octets, Dataset, of_record}
use Rattle.iim_tables.specs.Format.Records.{IsGoodRecord}
pub use Rattle.iim_object.specs.declared.size.{Sizes.Sizes, Size.Size, Size.TheVariants.Known, Size.TheVariants.Unknown}

-- a number that a dataset of record 7 states, with the number of the dataset
pub record StatedNumber : Type 0 where
  pub set : ℕ
  pub number : ℕ

-- the number that is stated by a dataset of record 7, if there is one
abbrev pub number_at : ℕ → List StatedNumber → Option ℕ
number_at set [] = None
number_at set (p ∷ ps) = cond (p.set == set) (Some p.number) (number_at set ps)

-- The row of the dataset allows the number: 7:10 Size Mode is 0 or 1, 7:20 is at least 1, and 7:20,
-- 7:90 and 7:95 are at most the greatest size of an object.
abbrev pub IsAllowedByRow : StatedNumber → Type 0
IsAllowedByRow p = ((p.set ≡ 10) × (p.number ≤ 1)) ⊎ (((p.set ≡ 20) × (1 ≤ p.number) × (p.number ≤ greatest_size)) ⊎ (((p.set ≡ 90) ⊎ (p.set ≡ 95)) × (p.number ≤ greatest_size)))

-- No dataset repeats.
abbrev pub HaveNoRepeats : List StatedNumber → Type 0
HaveNoRepeats [] = Unit {0}
HaveNoRepeats (p ∷ ps) = (number_at p.set ps ≡ None) × HaveNoRepeats ps

-- The numbers are those of datasets of record 7 that are valid for their rows, without repetition.
pub record AreStatedNumbers (ps : List StatedNumber) : Type 0 where
  pub each : AllByRecursion IsAllowedByRow ps
  pub once : HaveNoRepeats ps

abbrev pub mode_number : Bool → ℕ
mode_number true = 1
mode_number false = 0

-- the sizes of an object, given its numbers of record 7 and the lengths of its subfiles
abbrev pub sizes_at : Bool → ℕ → List StatedNumber → List ℕ → Sizes
sizes_at known subfile ps lengths = record { known = known; subfile = subfile; announced = number_at 90 ps; maximum = number_at 95 ps; subfiles = length lengths; total = sum lengths }

-- The sizes agree: 7:90 occurs if and only if the size is known; it is at most 7:95; no subfile is
-- longer than 7:20; the total is at most the greatest size and 7:95, equals 7:90, and is the size
-- that 9:10 confirms.
pub record SizesAgree (s : Sizes) (lengths : List ℕ) (confirmed : ℕ) : Type 0 where
  pub by_mode : is_some s.announced ≡ s.known
  pub announced_fits : IfSome s.announced (λ a. IfSome s.maximum (λ m. a ≤ m))
  pub each_subfile : AllByRecursion (λ n. n ≤ s.subfile) lengths
  pub total_fits : s.total ≤ greatest_size
  pub within_maximum : IfSome s.maximum (λ m. s.total ≤ m)
  pub as_announced : IfSome s.announced (λ a. s.total ≡ a)
  pub as_confirmed : confirmed ≡ s.total

-- ---- Plans of objects.

-- the greatest number of subfiles of one envelope
abbrev pub max_subfiles : ℕ
max_subfiles = greatest_u32

-- the greatest length of record 7 in octets: 7:10, 7:20, and 7:90 or 7:95
abbrev pub most_sizes : ℕ
most_sizes = 6 + 2 * tag_octets

-- an upper bound on the length of an envelope in octets: the greatest object, the tags of its
-- subfiles, and all other records are shorter together
abbrev pub most_out : ℕ
most_out = 2 ^ 63 + 2 ^ 40

-- the greatest number of octets that subfiles of `subfile` octets contain
abbrev pub most_in : ℕ → ℕ
most_in subfile = subfile * max_subfiles

-- The size is at most the greatest size, and a known size needs no more subfiles than are allowed.
abbrev pub fits : ℕ → Size → Bool
fits subfile (Known n) = nat_le n greatest_size && nat_le n (most_in subfile)
fits subfile (Unknown (Some m)) = nat_le m greatest_size
fits subfile (Unknown None) = true

-- A plan is possible: a full subfile has from one octet to as many as the greatest object.
abbrev pub is_plan : ℕ → Size → Bool
is_plan subfile size = nat_le 1 subfile && nat_le subfile greatest_size && fits subfile size

-- the announced size, which is a known size
abbrev pub announced_of : Size → Option ℕ
announced_of (Known n) = Some n
announced_of (Unknown most) = None

-- the maximum of an unknown size, if there is one
abbrev pub maximum_of : Size → Option ℕ
maximum_of (Known n) = None
maximum_of (Unknown most) = most

-- the limit of the size: the known size, the maximum, or the greatest size
abbrev pub limit_of : Size → ℕ
limit_of size = unwrap_or (option_or (announced_of size) (maximum_of size)) greatest_size

-- the greatest number of octets of the object: the limit, but no more than the greatest number of
-- full subfiles contain
abbrev pub bound_of : ℕ → Size → ℕ
bound_of subfile size = min (limit_of size) (most_in subfile)

-- the object is shorter than a known size
abbrev pub is_short : Size → ℕ → Bool
is_short (Known n) total = nat_lt total n
is_short (Unknown most) total = false

-- the tokens: the number of a value of record 7, the count of a head of 8:10, the head of 9:10, and
-- the number of its value
pub data ObjectToken : Type 0 where
  NumberRead : (set : ℕ) → (number : ℕ) → ObjectToken
  SubfileBegun : (count : ℕ) → ObjectToken
  ObjectEnded : ObjectToken
  Confirmed : (number : ℕ) → ObjectToken

abbrev pub number_tokens : List StatedNumber → List ObjectToken
number_tokens ps = map (λ p. NumberRead p.set p.number) ps

-- The language of the object layer, in terms of numbers and lengths: the numbers of record 7, which
-- include the mode and the largest subfile, one or more subfiles, and the confirmed size. The sizes
-- must agree.
pub record ObjectLanguage (tokens : List ObjectToken) : Type 0 where
  pub stated : List StatedNumber
  pub lengths : List ℕ
  pub confirmed : ℕ
  pub known : Bool
  pub subfile : ℕ
  pub are_stated : AreStatedNumbers stated
  pub mode : number_at 10 stated ≡ Some (mode_number known)
  pub largest : number_at 20 stated ≡ Some subfile
  pub some : 0 < length lengths
  pub agree : SizesAgree (sizes_at known subfile stated lengths) lengths confirmed
  pub tokens_are : tokens ≡ number_tokens stated ++ (map SubfileBegun lengths ++ (ObjectEnded ∷ Confirmed confirmed ∷ []))

-- Good records 7, 8 and 9 in this order, after datasets of earlier records.
pub record AreObjectRecords (ds : List Dataset) : Type 0 where
  pub before : List Dataset
  pub r7 : List Dataset
  pub r8 : List Dataset
  pub r9 : List Dataset
  pub others : AllByRecursion (λ d. d.rec < 7) before
  pub descriptor : IsGoodRecord 7 r7
  pub object : IsGoodRecord 8 r8
  pub confirmation : IsGoodRecord 9 r9
  pub parts : ds ≡ before ++ (r7 ++ (r8 ++ r9))

-- the numbers that the datasets encode, each with the number of its dataset
abbrev pub numbers_of : List Dataset → List StatedNumber
numbers_of ds = map (λ d. record { set = d.set; number = number d.octets }) ds

abbrev pub lengths_of : List Dataset → List ℕ
lengths_of ds = map (λ d. length d.octets) ds

-- The sizes are those that the records state: the numbers of record 7, the number of subfiles, and
-- the sum of their lengths. They agree with one another, with each subfile, and with the number of
-- 9:10.
pub record HaveSizes (r7 r8 r9 : List Dataset) (s : Sizes) : Type 0 where
  pub mode : number_at 10 (numbers_of r7) ≡ Some (mode_number s.known)
  pub largest : number_at 20 (numbers_of r7) ≡ Some s.subfile
  pub announced : number_at 90 (numbers_of r7) ≡ s.announced
  pub maximum : number_at 95 (numbers_of r7) ≡ s.maximum
  pub subfiles : length r8 ≡ s.subfiles
  pub total : sum (lengths_of r8) ≡ s.total
  pub confirmed : ℕ
  pub is_confirmed : number_at 10 (numbers_of r9) ≡ Some confirmed
  pub agree : SizesAgree s (lengths_of r8) confirmed

-- ---- Positions in an object: the numbers, the lengths of the subfiles, and whether the object has
-- ended.

-- before the end of the object, after the head of 9:10, or after its value
pub data Ending : Type 0 where
  NotEnded : Ending
  Ended : Ending
  ConfirmedAs : ℕ → Ending

pub record Place : Type 0 where
  pub stated : List StatedNumber
  pub lengths : List ℕ
  pub ending : Ending

abbrev pub ending_tokens : Ending → List ObjectToken
ending_tokens NotEnded = []
ending_tokens Ended = ObjectEnded ∷ []
ending_tokens (ConfirmedAs n) = ObjectEnded ∷ Confirmed n ∷ []

-- the tokens that reach the position
abbrev pub tokens_of : Place → List ObjectToken
tokens_of p = number_tokens p.stated ++ (map SubfileBegun p.lengths ++ ending_tokens p.ending)

-- the position after one more token
abbrev pub place_after : Place → ObjectToken → Place
place_after p (NumberRead set n) = record p { stated = p.stated ++ record { set = set; number = n } ∷ [] }
place_after p (SubfileBegun count) = record p { lengths = p.lengths ++ count ∷ [] }
place_after p ObjectEnded = record p { ending = Ended }
place_after p (Confirmed n) = record p { ending = ConfirmedAs n }

-- The mode and the largest subfile are stated.
abbrev pub HasModeAndLargest : List StatedNumber → Type 0
HasModeAndLargest ps = (is_some (number_at 10 ps) ≡ true) × (is_some (number_at 20 ps) ≡ true)

-- The record layer and the limits accept the token: numbers of record 7 that are valid for their
-- rows, without repetition, before the subfiles; subfiles after the mode and the largest subfile,
-- no more than are allowed; the end after one or more subfiles; and the confirmed size after the
-- end.
abbrev pub MayFollow : Place → ObjectToken → Type 0
MayFollow p (NumberRead set n) = (p.ending ≡ NotEnded) × (p.lengths ≡ []) × AreStatedNumbers (p.stated ++ record { set = set; number = n } ∷ [])
MayFollow p (SubfileBegun count) = (p.ending ≡ NotEnded) × HasModeAndLargest p.stated × (length p.lengths < max_subfiles)
MayFollow p ObjectEnded = (p.ending ≡ NotEnded) × (0 < length p.lengths)
MayFollow p (Confirmed n) = p.ending ≡ Ended

-- the position before the first token
abbrev pub place_start : Place
place_start = record { stated = []; lengths = []; ending = NotEnded }

-- the token of a value: the confirmed size in record 9, otherwise a number of record 7
abbrev pub value_token : ℕ → ℕ → ℕ → ObjectToken
value_token rec set n = if rec == 9 then Confirmed n else NumberRead set n

-- the token of a head: the end of the object in record 9, otherwise a subfile
abbrev pub head_token : ℕ → ℕ → ObjectToken
head_token rec count = if rec == 9 then ObjectEnded else SubfileBegun count

-- the ending that corresponds to the datasets of record 9
abbrev pub ending_of : List Dataset → Ending
ending_of [] = NotEnded
ending_of (d ∷ ds) = ConfirmedAs (number d.octets)

-- the position after datasets, from the numbers of record 7, the lengths of record 8, and the
-- number of record 9
abbrev pub place_after_datasets : List Dataset → Place
place_after_datasets ds = record { stated = numbers_of (of_record 7 ds); lengths = lengths_of (of_record 8 ds); ending = ending_of (of_record 9 ds) }

-- the position after datasets and the head of 9:10
abbrev pub place_ended : List Dataset → Place
place_ended ds = record (place_after_datasets ds) { ending = Ended }

-- The numbers of record 7 and the confirmed size are at most `most`.
abbrev pub TokensAreWithin : ℕ → List ObjectToken → Type 0
TokensAreWithin most [] = Unit {0}
TokensAreWithin most (NumberRead set n ∷ tokens) = (n ≤ most) × TokensAreWithin most tokens
TokensAreWithin most (SubfileBegun n ∷ tokens) = TokensAreWithin most tokens
TokensAreWithin most (ObjectEnded ∷ tokens) = TokensAreWithin most tokens
TokensAreWithin most (Confirmed n ∷ tokens) = (n ≤ most) × TokensAreWithin most tokens

-- The language of the object layer if the greatest size is `most`: the numbers of record 7 are at
-- most `most`, and so is the total, which is the confirmed size.
abbrev pub LanguageWithin : ℕ → List ObjectToken → Type 0
LanguageWithin most tokens = ObjectLanguage tokens × TokensAreWithin most tokens

-- an event: an octet of the object, or its end
pub data ObjectEvent : Type 0 where
  ObjectOctet : (octet : ℕ) → ObjectEvent
  ObjectEnd : ObjectEvent
