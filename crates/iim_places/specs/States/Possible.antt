-- Positions that an envelope can have: defined by datasets that reach them, by each layer, and
-- under smaller size limits.
use Rattle.std.specs.Prelude.{◌≡◌, ℕ, ◌+◌, ◌⊎◌, ◌≤◌, true, ⊤, Option, None, Some, if◌then◌else◌, List, length, zero, suc, Bool, [], ◌∷◌, ◌++◌, take, drop, ◌↔◌, ◌-◌, ◌==◌, false}
use Rattle.std.specs.{List.AllByRecursion, Option.unwrap_or}
use Rattle.iim_fields.specs.Format.Causes.{is_kept, joined, section_after}
use Rattle.iim_fields.specs.Format.Records.{IsWithin, has_number_value, AreViableSections, AreViableSectionsWithHead, AreSections}
use Rattle.iim_places.specs.Format.Admitted.{Value, Admits, object_of, AreWithinLimits}
use Rattle.iim_places.specs.Format.Open.{IsIncomplete, message_tokens, object_so_far}
use Rattle.iim_places.specs.Format.Tickets.{Place, Phase, PartialTag, PartialData, AllEnded, ReachesPlace, first_version}
use Rattle.iim_places.specs.Format.{Streams.IsEnvelopeWithin, TicketForm.came, Causes.HeadFits, Causes.place_at}
use Rattle.iim_dataset.specs.Format.Octets.{greatest_u32, Octets, number, IsViablePrefix}
use Rattle.iim_dataset.specs.Format.Datasets.{BeginsTag, Dataset, count_octets, EncodesStream, head_of, PartialDataset, InTag, InData, ReadsAsDatasets}
use Rattle.iim_dataset.specs.States.Reading.{IsDatasetState}
use Rattle.iim_dataset.specs.declared.{head.Head.Head, place.DatasetPlace.TheVariants.Inside}
use Rattle.iim_object.specs.Format.Packing.{number_dataset, subfile_datasets, confirmed_datasets}
use Rattle.iim_object.specs.Format.Objects.{ObjectEnded, Confirmed, LanguageWithin, place_after_datasets}
use Rattle.iim_object.specs.Format.Objects as objects
use Rattle.iim_object.specs.States.Reading.{PlaceHasNumbers, IsPossible}
use Rattle.wire_message.specs.{States.Reading.ReachesSavedState, declared.saved.MessagePart.TheVariants.AfterEnd}
use Rattle.wire_message.specs.Format.Messages.{MessageLanguage, HasViableStory}
use Rattle.iim_fields.specs.declared.limits.Limits.{Limits}

-- the widest limits: 4,294,967,295 octets and as many fields
abbrev pub widest : Limits
widest = record { octets = greatest_u32; fields = greatest_u32 }

-- The octets are incomplete under the limits, or an envelope within them.
abbrev pub AreViable : Limits → List ℕ → Type 0
AreViable limits octets = IsIncomplete limits octets ⊎ ((value : Value) × IsEnvelopeWithin limits octets value)

-- The position is reached by some octets that are incomplete or an envelope under the widest
-- limits.
pub record Possible (place : Place) : Type 0 where
  pub octets : List ℕ
  pub leads : ReachesPlace octets place
  pub comes : AreViable widest octets

-- ---- The size limits of version 1: counts of at most four octets, and objects of at most
-- 4,294,967,295 octets.

abbrev pub first_count_octets : ℕ
first_count_octets = 4

abbrev pub first_greatest_size : ℕ
first_greatest_size = greatest_u32

abbrev pub IsSmall : Option ℕ → Type 0
IsSmall None = ⊤
IsSmall (Some n) = n ≤ first_greatest_size

-- The item in progress is possible in version 1. It is a tag; or a value of record 7 or 9 whose
-- count was valid; or a subfile with which the object is within the limit of version 1; or a value
-- of record 1 or 2, whose rows have not changed.
abbrev pub IsSmallPhase : (section taken : ℕ) → Phase → Type 0
IsSmallPhase section taken (PartialTag held) = BeginsTag first_count_octets held
IsSmallPhase section taken (PartialData set count left given) = (has_number_value section ≡ true → count ≤ first_count_octets) × (section ≡ 8 → (count ≤ first_greatest_size) × (taken + left ≤ first_greatest_size))
IsSmallPhase section taken AllEnded = ⊤

-- The position is within the size limits of version 1.
pub record IsSmallPlace (place : Place) : Type 0 where
  pub numbers : AllByRecursion IsSmall place.numbers
  pub taken : place.taken ≤ first_greatest_size
  pub begun : IsSmallPhase place.section place.taken place.phase

-- ---- limits

-- the number of octets that a dataset in progress of record 1 or 2 contributes to the limit: its
-- whole count
abbrev pub partial_count : ℕ → Phase → ℕ
partial_count section (PartialTag held) = 0
partial_count section (PartialData set count left taken) = if is_kept section then count else 0
partial_count section AllEnded = 0

-- the number of entries that a dataset in progress of record 1 or 2 contributes to the limit: one
abbrev pub partial_fields : ℕ → Phase → ℕ
partial_fields section (PartialTag held) = 0
partial_fields section (PartialData set count left taken) = if is_kept section then 1 else 0
partial_fields section AllEnded = 0

-- The heads of records 1 and 2 in the position, including that of a dataset in progress, are within
-- the limits.
abbrev pub AreHeadsWithin : Limits → Place → Type 0
AreHeadsWithin limits p = IsWithin limits (length (joined p.fields) + partial_count p.section p.phase) (length p.fields + partial_fields p.section p.phase)

-- the numbers of record 7 in a ticket: those of 7:10, 7:20, 7:90 and 7:95
pub record Numbers : Type 0 where
  pub mode : Option ℕ
  pub largest : Option ℕ
  pub announced : Option ℕ
  pub maximum : Option ℕ

abbrev pub number_list : Numbers → List (Option ℕ)
number_list n = n.mode ∷ n.largest ∷ n.announced ∷ n.maximum ∷ []

-- Size Mode, in one octet
abbrev pub mode_dataset : ℕ → Dataset
mode_dataset n = record { rec = 7; set = 10; octets = n ∷ [] }

-- the dataset of a number, or nothing if there is no number
abbrev pub dataset_if : (ℕ → Dataset) → Option ℕ → List Dataset
dataset_if made None = []
dataset_if made (Some n) = made n ∷ []

-- record 7: its numbers in order
abbrev pub witness_numbers : Numbers → List Dataset
witness_numbers n =
    dataset_if mode_dataset n.mode ++ (dataset_if (number_dataset 7 20) n.largest ++ (dataset_if (number_dataset 7 90) n.announced ++ dataset_if (number_dataset 7 95) n.maximum))

-- the octets, split into `count` parts of at most `size` octets, each of which is full before the
-- next begins
abbrev pub filled : (size count : ℕ) → List ℕ → List (List ℕ)
filled size zero xs = []
filled size (suc count) xs = take size xs ∷ filled size count (drop size xs)

-- 9:10, if the object has ended
abbrev pub witness_end : Bool → List ℕ → List Dataset
witness_end ended object = if ended then confirmed_datasets object else []

-- Datasets that reach a position: records 1 and 2, the numbers of record 7, `heads` subfiles of the
-- object, each full before the next begins, and 9:10 if the object has ended.
abbrev pub plain : List Dataset → Numbers → ℕ → List ℕ → Bool → List Dataset
plain fields numbers heads object ended = fields ++ (witness_numbers numbers ++ (subfile_datasets (filled (unwrap_or numbers.largest 0) heads object) ++ witness_end ended object))

-- ---- the dataset layer

-- the head of the data in progress
abbrev pub head_of_numbers : (section set count : ℕ) → Head
head_of_numbers section set count = record { rec = section; set = set; count = count }

-- What is in progress is reached by some octets: those of a tag; or the data of a head, of which
-- the octets received are stored, unless they belong to a subfile.
abbrev pub TagsReachPhase : ℕ → Phase → Type 0
TagsReachPhase section (PartialTag held) = BeginsTag count_octets held
TagsReachPhase section (PartialData set count left taken) =
    IsDatasetState (Inside (head_of_numbers section set count) left) × (length taken ≡ came section count left) × Octets taken
TagsReachPhase section AllEnded = ⊤

-- ---- the record layer

-- one if a subfile is in progress, otherwise 0
abbrev pub partial_subfiles : ℕ → Phase → ℕ
partial_subfiles section (PartialTag held) = 0
partial_subfiles section (PartialData set count left taken) = if section == 8 then 1 else 0
partial_subfiles section AllEnded = 0

-- one if the number is positive, otherwise 0
abbrev pub zero_or_one : ℕ → ℕ
zero_or_one zero = 0
zero_or_one (suc n) = 1

-- whether the last dataset has ended
abbrev pub phase_has_ended : Phase → Bool
phase_has_ended (PartialTag held) = false
phase_has_ended (PartialData set count left taken) = false
phase_has_ended AllEnded = true

-- Complete datasets that determine the state of the record layer: the fields, the numbers of record
-- 7 in order, one empty subfile if any is complete, and 9:10 if the last dataset has ended. The
-- data of subfiles and the sizes do not concern this layer.
abbrev pub record_datasets : Place → Numbers → List Dataset
record_datasets p numbers = plain p.fields numbers (zero_or_one (p.heads - partial_subfiles p.section p.phase)) [] (phase_has_ended p.phase)

-- The layer can continue after the complete datasets and the one in progress, and the section is
-- the record of the last head.
abbrev pub RecordsAreViable : ℕ → Phase → List Dataset → Type 0
RecordsAreViable section (PartialTag held) ds = (section_after ds ≡ section) × AreViableSections ds
RecordsAreViable section (PartialData set count left taken) ds = AreViableSectionsWithHead ds (head_of_numbers section set count)
RecordsAreViable section AllEnded ds = (section ≡ 9) × AreViableSections ds

-- ---- the object layer

-- the count of a subfile in progress, and the number of its octets that remain
abbrev pub partial_subfile_of : ℕ → Phase → Option (ℕ × ℕ)
partial_subfile_of section (PartialTag held) = None
partial_subfile_of section (PartialData set count left taken) = if section == 8 then Some (count, left) else None
partial_subfile_of section AllEnded = None

-- the position in the object after the last token: at its end after the head of 9:10, and after its
-- confirmed size after that value
abbrev pub object_after : ℕ → Phase → ℕ → objects.Place → objects.Place
object_after section (PartialTag held) total p = p
object_after section (PartialData set count left taken) total p = if section == 9 then objects.place_after p ObjectEnded else p
object_after section AllEnded total p = objects.place_after (objects.place_after p ObjectEnded) (Confirmed total)

-- Some tokens lead to these numbers, octets and heads of the object, and the layer can continue
-- after them.
abbrev pub ObjectReachesPlace : Place → Type 0
ObjectReachesPlace place = (p : objects.Place) × PlaceHasNumbers place.numbers place.taken (partial_subfile_of place.section place.phase) place.heads p
    × IsPossible (object_after place.section place.phase place.taken p)

-- The position in the message is reached by some octets, `place.taken` of them. If the object has
-- ended, the message has ended too.
abbrev pub MessageReachesPlace : Place → Type 0
MessageReachesPlace place = (octets : List ℕ) × (text : List ℕ) × ReachesSavedState octets text place.message × (length octets ≡ place.taken)
    × (place.section ≡ 9 → place.message.part ≡ AfterEnd)

-- ---- all layers

-- Each layer can reach the position and continue from it, and the position is within the widest
-- limits.
pub record LayersReach (place : Place) : Type 0 where
  pub numbers : Numbers
  pub numbers_are : place.numbers ≡ number_list numbers
  pub kept : AllByRecursion (λ (d : Dataset). is_kept d.rec ≡ true) place.fields
  pub tags : TagsReachPhase place.section place.phase
  pub records : RecordsAreViable place.section place.phase (record_datasets place numbers)
  pub object : ObjectReachesPlace place
  pub message : MessageReachesPlace place
  pub within : AreHeadsWithin widest place

-- A position is possible if and only if each layer by itself can reach it.
abbrev pub PlacesArePossibleByLayers : Type 0
PlacesArePossibleByLayers = (place : Place) → Possible place ↔ LayersReach place

-- ---- Positions that are possible under smaller size limits: an extended count and a size have at
-- most `octets` octets, and an object has at most `greatest`. Under these limits the languages of
-- the layers contain nothing larger.

pub record Scale : Type 0 where
  pub octets : ℕ
  pub greatest : ℕ

-- the size limits of version 1
abbrev pub first_scale : Scale
first_scale = record { octets = first_count_octets; greatest = first_greatest_size }

-- ---- the record layer

-- the additional conditions of the rows of 7:20, 7:90, 7:95, 8:10 and 9:10 under the size limits
pub record FitsRow (s : Scale) (d : Dataset) : Type 0 where
  pub size : has_number_value d.rec ≡ true → (length d.octets ≤ s.octets) × (number d.octets ≤ s.greatest)
  pub subfile : d.rec ≡ 8 → length d.octets ≤ s.greatest

-- the datasets of an envelope, each of them within its row under the size limits
abbrev pub SectionsIn : Scale → List Dataset → Type 0
SectionsIn s ds = AreSections ds × AllByRecursion (FitsRow s) ds

-- ---- incomplete input, and envelopes

abbrev pub SectionsAreViableIn : Scale → List Dataset → PartialDataset → Type 0
SectionsAreViableIn s ds (InTag held) = IsViablePrefix (SectionsIn s) ds
SectionsAreViableIn s ds (InData h taken) = (d : Dataset) × (head_of d ≡ h) × IsViablePrefix (SectionsIn s) (ds ++ d ∷ [])

abbrev pub object_place_in : List Dataset → PartialDataset → objects.Place
object_place_in ds (InTag held) = place_after_datasets ds
object_place_in ds (InData h taken) = place_at ds h

abbrev pub PartialFits : Limits → List Dataset → PartialDataset → Type 0
PartialFits limits ds (InTag held) = Unit {0}
PartialFits limits ds (InData h taken) = HeadFits limits ds h

-- Every layer can continue after the octets, under the size limits and within the limits, and they
-- are not an envelope.
pub record IsIncompleteAtScale (s : Scale) (limits : Limits) (octets : List ℕ) : Type 0 where
  pub whole : List Dataset
  pub begun : PartialDataset
  pub reads : ReadsAsDatasets s.octets octets whole begun
  pub records : SectionsAreViableIn s whole begun
  pub within : AreWithinLimits limits whole
  pub room : PartialFits limits whole begun
  pub object : IsViablePrefix (LanguageWithin s.greatest) (objects.tokens_of (object_place_in whole begun))
  pub message : IsViablePrefix MessageLanguage (message_tokens whole begun)
  pub story : HasViableStory (object_so_far whole begun)
  pub unfinished : SectionsIn s whole → ⊥

-- The octets are an envelope under the size limits, within the limits.
pub record IsEnvelopeAtScale (s : Scale) (limits : Limits) (octets : List ℕ) : Type 0 where
  pub value : Value
  pub admits : Admits octets value
  pub spelled : EncodesStream s.octets admits.datasets octets
  pub rows : AllByRecursion (FitsRow s) admits.datasets
  pub total : length (object_of admits.datasets) ≤ s.greatest
  pub within : AreWithinLimits limits admits.datasets

-- The position is reached by some octets that are incomplete or an envelope under the size limits
-- and the widest limits.
pub record IsPossibleAtScale (s : Scale) (place : Place) : Type 0 where
  pub octets : List ℕ
  pub leads : ReachesPlace octets place
  pub comes : IsIncompleteAtScale s widest octets ⊎ IsEnvelopeAtScale s widest octets

-- The position is possible in tickets of the version. In version 1 this means: under the size
-- limits of version 1.
abbrev pub IsPossibleInVersion : ℕ → Place → Type 0
IsPossibleInVersion version place = Possible place × (version ≡ first_version.number → IsPossibleAtScale first_scale place)
