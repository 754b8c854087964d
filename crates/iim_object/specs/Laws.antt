-- Statements of the lemmas about objects. The record at the end has a field for each lemma.
use Rattle.std.specs.Prelude.{◌≡◌, ◌↔◌, ℕ, ◌<◌, ◌≤◌, Bool, List, [], ◌∷◌, ◌++◌, length, map, sum, is_some, Some, None, IfSome, Option, IsTrue}
use Rattle.std.specs.List.{AllByRecursion}
use Rattle.iim_dataset.specs.Format.Octets.{IsViablePrefix, EndsViablePrefix, greatest_size, number, Octets}
use Rattle.iim_object.specs.Format.Objects.{StatedNumber, AreStatedNumbers, number_at, mode_number, Sizes, SubfileBegun, ObjectEnded, Confirmed, ObjectLanguage, number_tokens, ObjectToken, NumberRead, AreObjectRecords, HaveSizes, Place, tokens_of, place_after, MayFollow, place_start, max_subfiles, is_plan, announced_of, maximum_of, bound_of, Size, place_after_datasets, place_ended, TokensAreWithin, LanguageWithin}
use Rattle.iim_dataset.specs.Format.Datasets.{Dataset, of_record}
use Rattle.iim_object.specs.States.Reading.{ObjectReaderStandsAt, State, SizeCause, IsState, IsPossible}
use Rattle.iim_object.specs.Format.Causes.{cause_at, number_of_size_cause, HasSizeCause}
use Rattle.iim_object.specs.Format.Packing.{SplitsIntoSubfiles, number_dataset, plan_datasets, subfile_datasets, confirmed_datasets, ObjectSuitsPlan, packed_sizes}
use Rattle.iim_tables.specs.Format.Records.{IsGoodDataset, IsGoodRecord}

-- ---- When the tokens are a viable prefix, in terms of the numbers and lengths so far.

-- The numbers are consistent: an unknown size is not announced, and the announced size is at most
-- the maximum.
pub record HaveNoClash (ps : List StatedNumber) : Type 0 where
  pub mode : number_at 10 ps ≡ Some 0 → number_at 90 ps ≡ None
  pub sizes : (a m : ℕ) → number_at 90 ps ≡ Some a → number_at 95 ps ≡ Some m → a ≤ m

-- The mode and the largest subfile are stated, with these values.
pub record StatesModeAndLargest (known : Bool) (subfile : ℕ) (ps : List StatedNumber) : Type 0 where
  pub stated : AreStatedNumbers ps
  pub mode : number_at 10 ps ≡ Some (mode_number known)
  pub largest : number_at 20 ps ≡ Some subfile

-- Subfiles of these lengths are possible: the size is announced if it is known, no subfile is too
-- long, and the total exceeds neither the greatest size nor the announced size nor the maximum.
pub record SubfilesFit (known : Bool) (subfile : ℕ) (ps : List StatedNumber) (lengths : List ℕ) : Type 0 where
  pub clash : HaveNoClash ps
  pub by_mode : is_some (number_at 90 ps) ≡ known
  pub each : AllByRecursion (λ n. n ≤ subfile) lengths
  pub total : sum lengths ≤ greatest_size
  pub announced : IfSome (number_at 90 ps) (λ a. sum lengths ≤ a)
  pub maximum : IfSome (number_at 95 ps) (λ m. sum lengths ≤ m)

-- The total is the announced size, if one was announced.
abbrev pub TotalIsAnnounced : List StatedNumber → List ℕ → Type 0
TotalIsAnnounced ps lengths = IfSome (number_at 90 ps) (λ a. sum lengths ≡ a)

-- While record 7 is read, the tokens are a viable prefix if and only if its numbers are consistent.
abbrev pub NumbersAreViableWithoutClash : Type 0
NumbersAreViableWithoutClash = (ps : List StatedNumber) → AreStatedNumbers ps → IsViablePrefix ObjectLanguage (number_tokens ps) ↔ HaveNoClash ps

-- While subfiles are read, the tokens are a viable prefix if and only if the subfiles are possible.
abbrev pub SubfilesAreViableWhileTheyFit : Type 0
SubfilesAreViableWhileTheyFit = (known : Bool) (subfile : ℕ) (ps : List StatedNumber) (lengths : List ℕ) → StatesModeAndLargest known subfile ps → 0 < length lengths
    → IsViablePrefix ObjectLanguage (number_tokens ps ++ map SubfileBegun lengths) ↔ SubfilesFit known subfile ps lengths

-- At the end of the object, the tokens are a viable prefix if and only if the subfiles are possible
-- and have the announced total.
abbrev pub ObjectsEndAtTheAnnouncedSize : Type 0
ObjectsEndAtTheAnnouncedSize = (known : Bool) (subfile : ℕ) (ps : List StatedNumber) (lengths : List ℕ) → StatesModeAndLargest known subfile ps → 0 < length lengths
    → IsViablePrefix ObjectLanguage (number_tokens ps ++ (map SubfileBegun lengths ++ ObjectEnded ∷ [])) ↔ (SubfilesFit known subfile ps lengths × TotalIsAnnounced ps lengths)

-- At the confirmed size, the tokens are a viable prefix if and only if, in addition, that size is
-- the total.
abbrev pub TotalsAreConfirmed : Type 0
TotalsAreConfirmed = (known : Bool) (subfile : ℕ) (ps : List StatedNumber) (lengths : List ℕ) (n : ℕ) → StatesModeAndLargest known subfile ps → 0 < length lengths
    → IsViablePrefix ObjectLanguage (number_tokens ps ++ (map SubfileBegun lengths ++ (ObjectEnded ∷ Confirmed n ∷ [])))
    ↔ (SubfilesFit known subfile ps lengths × TotalIsAnnounced ps lengths × (n ≡ sum lengths))

-- ---- Records 7, 8 and 9 of an envelope, and the sizes that they state (IIM version 4, the
-- chapters on the pre-ObjectData descriptor, ObjectData and post-ObjectData descriptor records).

-- Records 7, 8 and 9 among the datasets have sizes.
pub record AreSized (ds : List Dataset) : Type 0 where
  pub records : AreObjectRecords ds
  pub sizes : Sizes
  pub have : HaveSizes records.r7 records.r8 records.r9 sizes

-- The sizes that records state are unique.
abbrev pub SizesAreDetermined : Type 0
SizesAreDetermined = (r7 r8 r9 : List Dataset) (s t : Sizes) → HaveSizes r7 r8 r9 s → HaveSizes r7 r8 r9 t → s ≡ t

-- ---- The position after complete datasets, and their tokens.

-- the tokens of datasets: the number of each dataset of record 7, the length of each of record 8,
-- the end of the object, and the number of 9:10
abbrev pub object_tokens : List Dataset → List ObjectToken
object_tokens ds = tokens_of (place_after_datasets ds)

-- The tokens of datasets that have sizes are in the language of the object layer, and each list of
-- tokens in that language is the tokens of some such datasets.
abbrev pub TokensAreOfSizedDatasets : Type 0
TokensAreOfSizedDatasets = (tokens : List ObjectToken) → ObjectLanguage tokens ↔ ((ds : List Dataset) × AreSized ds × (object_tokens ds ≡ tokens))

-- Complete datasets that are valid for their rows can be continued to datasets that have sizes if
-- and only if their tokens are a viable prefix.
abbrev pub DatasetsAreViableWithTheirTokens : Type 0
DatasetsAreViableWithTheirTokens = (ds : List Dataset) → IsViablePrefix AreObjectRecords ds → IsViablePrefix AreSized ds ↔ IsViablePrefix ObjectLanguage (object_tokens ds)

-- The same holds if a dataset of record 9 follows, for the tokens up to the end of the object.
abbrev pub DatasetsEndWithTheirTokens : Type 0
DatasetsEndWithTheirTokens = (ds : List Dataset) (d : Dataset) → IsViablePrefix AreObjectRecords (ds ++ d ∷ []) → d.rec ≡ 9
    → ((e : Dataset) × (e.rec ≡ 9) × IsViablePrefix AreSized (ds ++ e ∷ [])) ↔ IsViablePrefix ObjectLanguage (tokens_of (place_ended ds))

-- After a token that may follow at a position, the tokens of the new position are those of the old
-- one and this token.
abbrev pub TokensExtendThePlace : Type 0
TokensExtendThePlace = (p : Place) (token : ObjectToken) → MayFollow p token → tokens_of (place_after p token) ≡ tokens_of p ++ token ∷ []

-- The token may follow at the first position, and reaches the second.
abbrev pub TokenReachesPlace : Place → ObjectToken → Place → Type 0
TokenReachesPlace p token q = MayFollow p token × (place_after p token ≡ q)

-- Datasets of the records before 7 do not change the position.
abbrev pub OtherDatasetsChangeNoPlace : Type 0
OtherDatasetsChangeNoPlace = (ds : List Dataset) (d : Dataset) → d.rec < 7 → place_after_datasets (ds ++ d ∷ []) ≡ place_after_datasets ds

-- A number of record 7 that its row allows reaches the position after its dataset.
abbrev pub NumbersReachTheirPlace : Type 0
NumbersReachTheirPlace = (ds : List Dataset) (d : Dataset) → IsViablePrefix AreObjectRecords (ds ++ d ∷ []) → d.rec ≡ 7
    → TokenReachesPlace (place_after_datasets ds) (NumberRead d.set (number d.octets)) (place_after_datasets (ds ++ d ∷ []))

-- The head of a subfile that its row allows reaches the position after it, unless there are too
-- many subfiles.
abbrev pub SubfilesReachTheirPlace : Type 0
SubfilesReachTheirPlace = (ds : List Dataset) (d : Dataset) → IsViablePrefix AreObjectRecords (ds ++ d ∷ []) → d.rec ≡ 8 → length (of_record 8 ds) < max_subfiles
    → TokenReachesPlace (place_after_datasets ds) (SubfileBegun (length d.octets)) (place_after_datasets (ds ++ d ∷ []))

-- The head of 9:10 reaches the end of the object, and its number reaches the position after that
-- dataset.
abbrev pub EndsReachTheirPlace : Type 0
EndsReachTheirPlace = (ds : List Dataset) (d : Dataset) → IsViablePrefix AreObjectRecords (ds ++ d ∷ []) → d.rec ≡ 9
    → TokenReachesPlace (place_after_datasets ds) ObjectEnded (place_ended ds) × TokenReachesPlace (place_ended ds) (Confirmed (number d.octets)) (place_after_datasets (ds ++ d ∷ []))

-- These are the datasets of record 7, of record 8 and of record 9.
pub record AreByNumber (ds r7 r8 r9 : List Dataset) : Type 0 where
  pub sevens : of_record 7 ds ≡ r7
  pub eights : of_record 8 ds ≡ r8
  pub nines : of_record 9 ds ≡ r9

-- If datasets have the records 7, 8 and 9 in this order, these are the datasets of record 7, of
-- record 8 and of record 9.
abbrev pub RecordsAreByNumber : Type 0
RecordsAreByNumber = (ds : List Dataset) (r : AreObjectRecords ds) → AreByNumber ds r.r7 r.r8 r.r9

-- ---- The states that tokens reach.

-- The numbers in each `ObjectReader` are reached by some tokens, and a reader may have all numbers
-- that tokens reach.
abbrev pub ObjectStatesAreReached : Type 0
ObjectStatesAreReached = (s : State) → IsState s ↔ ((p : Place) × ObjectReaderStandsAt (Some s) p × (length p.lengths ≤ max_subfiles))

-- The tokens may follow one after another, and lead from the first position to the second.
abbrev pub TokensReachPlace : Place → List ObjectToken → Place → Type 0
TokensReachPlace p [] q = p ≡ q
TokensReachPlace p (token ∷ tokens) q = MayFollow p token × TokensReachPlace (place_after p token) tokens q

-- Tokens reach the possible positions, and no other positions at which they are a viable prefix.
abbrev pub PossiblePlacesAreReached : Type 0
PossiblePlacesAreReached = (p : Place) → IsPossible p ↔ ((tokens : List ObjectToken) × TokensReachPlace place_start tokens p × IsViablePrefix ObjectLanguage tokens)

-- The position determines the state of the reader.
abbrev pub PlacesDetermineTheReader : Type 0
PlacesDetermineTheReader = (a b : Option State) (p : Place) → ObjectReaderStandsAt a p → ObjectReaderStandsAt b p → a ≡ b

-- From positions with the same state, the same tokens reach positions with the same state.
abbrev pub ReadersDetermineLaterPlaces : Type 0
ReadersDetermineLaterPlaces = (old new : Option State) (p q r : Place) (tokens : List ObjectToken) → ObjectReaderStandsAt old p → ObjectReaderStandsAt old q → p.ending ≡ q.ending
    → TokensReachPlace p tokens r → ObjectReaderStandsAt new r → (t : Place) × TokensReachPlace q tokens t × ObjectReaderStandsAt new t × (r.ending ≡ t.ending)

-- At a possible position the tokens are also a viable prefix under each smaller greatest size that
-- the position does not exceed.
abbrev pub PlacesAreViableWithin : Type 0
PlacesAreViableWithin = (most : ℕ) (p : Place) → 1 ≤ most → IsPossible p → TokensAreWithin most (tokens_of p) → sum p.lengths ≤ most → IsViablePrefix (LanguageWithin most) (tokens_of p)

-- ---- Why a token is rejected: the causes, each with its number and its condition. The one with
-- the lowest number is reported.

-- The condition of the cause holds, and no condition of a cause with a lower number.
pub record IsFirstCause (p : Place) (token : ObjectToken) (cause : SizeCause) : Type 0 where
  pub holds : HasSizeCause cause p token
  pub lowest : (other : SizeCause) → HasSizeCause other p token → number_of_size_cause cause ≤ number_of_size_cause other

-- The cause for which a token is rejected has the lowest number of all causes whose condition
-- holds.
abbrev pub CausesAreTheFirst : Type 0
CausesAreTheFirst = (p : Place) (token : ObjectToken) (cause : SizeCause) → AreStatedNumbers p.stated → MayFollow p token
    → (cause_at p token ≡ Some cause) ↔ IsFirstCause p token cause

-- The tokens followed by a further token are a viable prefix if and only if the condition of no
-- cause holds for that token.
abbrev pub ObjectsAreRejectedForCauses : Type 0
ObjectsAreRejectedForCauses = (reader : Option State) (p : Place) (token : ObjectToken) → ObjectReaderStandsAt reader p → MayFollow p token
    → EndsViablePrefix ObjectLanguage (tokens_of p) token ↔ ((cause : SizeCause) × HasSizeCause cause p token)

-- A reader that has consumed complete records returns the sizes of these records.
abbrev pub ReadersReturnSizes : Type 0
ReadersReturnSizes = (reader : Option State) → (sizes : Sizes)
    × ((ds : List Dataset) (r : AreObjectRecords ds) → ObjectReaderStandsAt reader (place_after_datasets ds) → HaveSizes r.r7 r.r8 r.r9 sizes)

-- An object can be divided into subfiles in only one way (IIM version 4, the chapter on the
-- ObjectData record).
abbrev pub ObjectsSplitUniquely : Type 0
ObjectsSplitUniquely = (size : ℕ) (object : List ℕ) (parts others : List (List ℕ)) → 1 ≤ size → SplitsIntoSubfiles size object parts → SplitsIntoSubfiles size object others
    → parts ≡ others

-- ---- The encoding of an object by a packer under a plan: record 7, the subfiles and record 9.

-- Records 7, 8 and 9 in the encoding of an object are good.
pub record AreGoodRecords (subfile : ℕ) (size : Size) (object : List ℕ) (parts : List (List ℕ)) : Type 0 where
  pub seven : IsGoodRecord 7 (plan_datasets subfile size)
  pub eight : IsGoodRecord 8 (subfile_datasets parts)
  pub nine : IsGoodRecord 9 (confirmed_datasets object)

-- Records 7, 8 and 9 in the encoding of an object are good if the object is within the bound of the
-- plan.
abbrev pub PackedRecordsAreGood : Type 0
PackedRecordsAreGood = (subfile : ℕ) (size : Size) (object : List ℕ) (parts : List (List ℕ)) → IsTrue (is_plan subfile size) → Octets object
    → SplitsIntoSubfiles subfile object parts → length object ≤ bound_of subfile size → AreGoodRecords subfile size object parts

-- The encoding of each size is valid for the rows of sizes.
pub record NumberDatasetsAreGood : Type 0 where
  pub largest : (n : ℕ) → 1 ≤ n → n ≤ greatest_size → IsGoodDataset (number_dataset 7 20 n)
  pub announced : (n : ℕ) → n ≤ greatest_size → IsGoodDataset (number_dataset 7 90 n)
  pub maximum : (n : ℕ) → n ≤ greatest_size → IsGoodDataset (number_dataset 7 95 n)
  pub confirmed : (n : ℕ) → n ≤ greatest_size → IsGoodDataset (number_dataset 9 10 n)

-- Records 7, 8 and 9 in the encoding of an object that suits a plan have the sizes of the plan.
abbrev pub PackedObjectsHaveSizes : Type 0
PackedObjectsHaveSizes = (subfile : ℕ) (size : Size) (object : List ℕ) (parts : List (List ℕ)) → IsTrue (is_plan subfile size) → Octets object
    → SplitsIntoSubfiles subfile object parts → ObjectSuitsPlan subfile size object
    → HaveSizes (plan_datasets subfile size) (subfile_datasets parts) (confirmed_datasets object) (packed_sizes subfile size object parts)

-- The object in these parts is within its sizes: it is at most the greatest size, at most the
-- announced size and at most the maximum, if there are such, and has no more subfiles than one
-- envelope may have.
pub record IsWithinSizes (size : Size) (object : List ℕ) (parts : List (List ℕ)) : Type 0 where
  pub greatest : length object ≤ greatest_size
  pub announced : IfSome (announced_of size) (λ n. length object ≤ n)
  pub maximum : IfSome (maximum_of size) (λ n. length object ≤ n)
  pub few : length parts ≤ max_subfiles

-- An object is within the bound of a plan if and only if it is at most the greatest size, at most
-- the known size or the maximum if one is given, and has at most 4,294,967,295 subfiles.
abbrev pub SubfilesAreFew : Type 0
SubfilesAreFew = (subfile : ℕ) (size : Size) (object : List ℕ) (parts : List (List ℕ)) → IsTrue (is_plan subfile size) → SplitsIntoSubfiles subfile object parts
    → (length object ≤ bound_of subfile size) ↔ IsWithinSizes size object parts

-- The lemmas about objects, with a field for each.
pub record ObjectLaws : Type 0 where
  -- lemmas about when tokens are a viable prefix:
  pub numbers_are_viable_without_clash : NumbersAreViableWithoutClash
  pub subfiles_are_viable_while_they_fit : SubfilesAreViableWhileTheyFit
  pub objects_end_at_the_announced_size : ObjectsEndAtTheAnnouncedSize
  pub totals_are_confirmed : TotalsAreConfirmed
  -- lemmas about the tokens of datasets:
  pub tokens_are_of_sized_datasets : TokensAreOfSizedDatasets
  pub datasets_are_viable_with_their_tokens : DatasetsAreViableWithTheirTokens
  pub datasets_end_with_their_tokens : DatasetsEndWithTheirTokens
  pub tokens_extend_the_place : TokensExtendThePlace
  pub other_datasets_change_no_place : OtherDatasetsChangeNoPlace
  pub numbers_reach_their_place : NumbersReachTheirPlace
  pub subfiles_reach_their_place : SubfilesReachTheirPlace
  pub ends_reach_their_place : EndsReachTheirPlace
  pub records_are_by_number : RecordsAreByNumber
  -- lemmas about the cause for which a token is rejected:
  pub causes_are_the_first : CausesAreTheFirst
  pub objects_are_rejected_for_causes : ObjectsAreRejectedForCauses
  -- lemmas about positions, and about the states of readers at them:
  pub object_states_are_reached : ObjectStatesAreReached
  pub possible_places_are_reached : PossiblePlacesAreReached
  pub places_determine_the_reader : PlacesDetermineTheReader
  pub readers_determine_later_places : ReadersDetermineLaterPlaces
  pub places_are_viable_within : PlacesAreViableWithin
  -- lemmas about sizes:
  pub sizes_are_determined : SizesAreDetermined
  pub packed_objects_have_sizes : PackedObjectsHaveSizes
  pub subfiles_are_few : SubfilesAreFew
  pub number_datasets_are_good : NumberDatasetsAreGood
  pub packed_records_are_good : PackedRecordsAreGood
