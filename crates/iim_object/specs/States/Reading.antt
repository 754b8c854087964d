-- The states of a reader of objects, their transitions, and restoring a state from saved numbers.
use Rattle.std.specs.Prelude.{◌≡◌, ℕ, ◌<◌, ◌==◌, true, if◌then◌else◌, is_some, Option, Some, None, ◌*◌, ◌≤◌, List, [], ◌∷◌, IfSome, ◌⊎◌, Bool, ◌++◌, length, map, sum, take, slice_index, ◌+◌}
use Rattle.iim_object.specs.Format.Objects.{max_subfiles, IsAllowedByRow, mode_number, AreStatedNumbers, number_at, sizes_at, Sizes, ObjectToken, ObjectEnded, Confirmed, ObjectLanguage, Place, NotEnded, MayFollow, HasModeAndLargest, place_after, tokens_of, ObjectEvent, ObjectOctet, ObjectEnd, StatedNumber}
use Rattle.iim_object.specs.Format.Causes.{number_cause, subfile_cause, bound, cause_at}
use Rattle.iim_object.specs.declared.reading.fault.ObjectFault.{ObjectFault, TheVariants.Size, TheVariants.Stopped}
use Rattle.iim_dataset.specs.Format.Octets.{greatest_size, IsViablePrefix, EndsViablePrefix}
pub use Rattle.iim_object.specs.declared.reading.{state.State.State, fault.SizeCause.SizeCause}

abbrev pub state_start : State
state_start = record { mode = None; subfile = None; announced = None; maximum = None; subfiles = 0; total = 0 }

-- the new number if `set` is `wanted`, otherwise the old one
abbrev pub set_where : ℕ → ℕ → ℕ → Option ℕ → Option ℕ
set_where wanted set number old = if set == wanted then Some number else old

-- the state after a number of a dataset of record 7
abbrev pub state_with : State → ℕ → ℕ → State
state_with s set number = record s {
  mode = set_where 10 set number s.mode;
  subfile = set_where 20 set number s.subfile;
  announced = set_where 90 set number s.announced;
  maximum = set_where 95 set number s.maximum;
}

-- A number of record 7 may come next: no subfile has occurred, and its row allows the number.
abbrev pub NumberMayCome : State → ℕ → ℕ → Type 0
NumberMayCome s set number = (s.subfiles ≡ 0) × IsAllowedByRow (record { set = set; number = number })

-- A subfile may come next: the mode and the largest subfile are present, and the number of subfiles
-- is below its limit.
abbrev pub SubfileMayCome : State → Type 0
SubfileMayCome s = (is_some s.mode ≡ true) × (is_some s.subfile ≡ true) × (s.subfiles < max_subfiles)

-- A number of record 7 may come next, and is consistent with the other numbers.
abbrev pub NumberFits : State → ℕ → ℕ → Type 0
NumberFits s set number = NumberMayCome s set number
    × (number_cause (state_with s set number).mode (state_with s set number).announced (state_with s set number).maximum ≡ None)

-- A subfile of `count` octets may come next, and has nothing wrong.
abbrev pub SubfileFits : State → ℕ → Type 0
SubfileFits s count = SubfileMayCome s × (subfile_cause s.mode s.subfile s.announced s.maximum s.total count ≡ None)

-- A reader that has not failed, modelled by its state, accepts a number of dataset 7:`set`.
abbrev pub AcceptsNumber : Option State → ℕ → ℕ → Type 0
AcceptsNumber reader set number = (s : State) → reader ≡ Some s → NumberFits s set number

-- A reader that has not failed, modelled by its state, accepts the head of a subfile of `count`
-- octets.
abbrev pub AcceptsSubfile : Option State → ℕ → Type 0
AcceptsSubfile reader count = (s : State) → reader ≡ Some s → SubfileFits s count

-- the numbers of 7:10, 7:20, 7:90 and 7:95
abbrev pub state_numbers : State → List (Option ℕ)
state_numbers s = s.mode ∷ s.subfile ∷ s.announced ∷ s.maximum ∷ []

-- The rows allow the numbers of record 7. An unknown size is not announced, and the announced size
-- is at most the maximum.
pub record HasNumbers (s : State) : Type 0 where
  pub mode : IfSome s.mode (λ n. n ≤ 1)
  pub largest : IfSome s.subfile (λ n. (1 ≤ n) × (n ≤ greatest_size))
  pub announced : IfSome s.announced (λ n. n ≤ greatest_size)
  pub maximum : IfSome s.maximum (λ n. n ≤ greatest_size)
  pub not_known : s.mode ≡ Some 0 → s.announced ≡ None
  pub sizes : (a m : ℕ) → s.announced ≡ Some a → s.maximum ≡ Some m → a ≤ m

-- There are subfiles, no more than are allowed. The mode and the largest subfile are present, and
-- the size is announced if and only if it is known. The total is at most what these subfiles can
-- contain, and within the bound.
pub record HasSubfiles (s : State) : Type 0 where
  pub subfile : ℕ
  pub mode : s.mode ≡ Some (mode_number (is_some s.announced))
  pub largest : s.subfile ≡ Some subfile
  pub few : s.subfiles ≤ max_subfiles
  pub held : s.total ≤ s.subfiles * subfile
  pub total : s.total ≤ bound s.announced s.maximum

-- Tokens reach the state: numbers of record 7, possibly followed by subfiles.
pub record IsState (s : State) : Type 0 where
  pub numbers : HasNumbers s
  pub no_subfile : s.subfiles ≡ 0 → s.total ≡ 0
  pub some_subfiles : 0 < s.subfiles → HasSubfiles s

-- ---- The state of a reader at a position, and why it rejects a token.

-- The state has the numbers of the position, its number of subfiles and the total of their octets.
pub record IsStateAt (s : State) (p : Place) : Type 0 where
  pub mode : s.mode ≡ number_at 10 p.stated
  pub largest : s.subfile ≡ number_at 20 p.stated
  pub announced : s.announced ≡ number_at 90 p.stated
  pub maximum : s.maximum ≡ number_at 95 p.stated
  pub subfiles : s.subfiles ≡ length p.lengths
  pub total : s.total ≡ sum p.lengths

-- The reader, modelled by its state, has consumed the tokens of the position. The record layer
-- accepts these tokens, and they are a viable prefix.
pub record ObjectReaderStandsAt (reader : Option State) (p : Place) : Type 0 where
  pub state : State
  pub is_state : reader ≡ Some state
  pub tells : IsStateAt state p
  pub stated : AreStatedNumbers p.stated
  pub subfiles : p.lengths ≡ [] → p.ending ≡ NotEnded
  pub duties : 0 < length p.lengths → HasModeAndLargest p.stated
  pub alive : IsViablePrefix ObjectLanguage (tokens_of p)

-- A token that the record layer accepts moves the reader from each position to the position after
-- it.
abbrev pub TokenAdvancesObject : Option State → ObjectToken → Option State → Type 0
TokenAdvancesObject old token new = (p : Place) → ObjectReaderStandsAt old p → MayFollow p token → ObjectReaderStandsAt new (place_after p token)

-- At each position of the reader at which the record layer accepts the token, the tokens including
-- it are no longer a viable prefix, and this is the first cause.
abbrev pub RejectsObjectToken : Option State → ObjectToken → SizeCause → Type 0
RejectsObjectToken old token cause = (p : Place) → ObjectReaderStandsAt old p → MayFollow p token
    → EndsViablePrefix ObjectLanguage (tokens_of p) token × (cause_at p token ≡ Some cause)

-- At each position of the reader, the tokens including this one are a viable prefix.
abbrev pub IsViableWithToken : Option State → ObjectToken → Type 0
IsViableWithToken old token = (p : Place) → ObjectReaderStandsAt old p → MayFollow p token → IsViablePrefix ObjectLanguage (tokens_of p ++ token ∷ [])

-- At each position of the reader, the object may end, with this number of 9:10.
pub record ObjectMayEndAs (old : Option State) (number : ℕ) (new : Option State) : Type 0 where
  pub ended : Option State
  pub at_end : TokenAdvancesObject old ObjectEnded ended
  pub at_number : TokenAdvancesObject ended (Confirmed number) new

-- The tokens followed by the end are not a viable prefix; or they are, but followed by the end and
-- the number they are not.
abbrev pub RejectsObjectEnd : Option State → ℕ → Type 0
RejectsObjectEnd old number = ((cause : SizeCause) × RejectsObjectToken old ObjectEnded cause)
    ⊎ ((ended : Option State) × TokenAdvancesObject old ObjectEnded ended × ((cause : SizeCause) × RejectsObjectToken ended (Confirmed number) cause))

-- A value is rejected for its cause, and no sink is called.
abbrev pub RejectsObjectValue : Option State → ObjectToken → ObjectFault → Type 0
RejectsObjectValue old token (Size cause) = RejectsObjectToken old token cause
RejectsObjectValue old token (Stopped stop) = ⊥

-- the events that the sink receives at a head: the end of the object in record 9, otherwise none
abbrev pub events_at : ℕ → List ObjectEvent
events_at rec = if rec == 9 then ObjectEnd ∷ [] else []

-- A head is rejected for its cause, and the sink receives nothing; or the sink rejected the end of
-- the object, with a stop whose `taken` is 0.
abbrev pub RejectsObjectHead : {S : Type 0} → (S → List ObjectEvent → S → Type 0) → (S → List ObjectEvent → ObjectEvent → S → Type 0) → Option State → ObjectToken → S → S → ObjectFault → Type 0
RejectsObjectHead goes stops old token sink now (Size cause) = RejectsObjectToken old token cause × goes sink [] now
RejectsObjectHead goes stops old token sink now (Stopped stop) = (token ≡ ObjectEnded) × (stop.taken ≡ 0) × IsViableWithToken old token × stops sink [] ObjectEnd now

-- The sink rejected an octet of the slice.
abbrev pub RejectsObjectOctet : {S : Type 0} → (S → List ObjectEvent → ObjectEvent → S → Type 0) → List ℕ → S → S → ObjectFault → Type 0
RejectsObjectOctet stops run sink now (Size cause) = ⊥
RejectsObjectOctet stops run sink now (Stopped stop) =
    (stop.taken < length run) × stops sink (map ObjectOctet (take stop.taken run)) (ObjectOctet (slice_index run stop.taken)) now

-- The sizes are those of the position.
abbrev pub IsSizes : Place → Sizes → Type 0
IsSizes p s = (known : Bool) × (subfile : ℕ) × (number_at 10 p.stated ≡ Some (mode_number known)) × (number_at 20 p.stated ≡ Some subfile)
    × (s ≡ sizes_at known subfile p.stated p.lengths)

-- the numbers of 7:10, 7:20, 7:90 and 7:95, of which some may be missing
abbrev pub stated_numbers : List StatedNumber → List (Option ℕ)
stated_numbers ps = number_at 10 ps ∷ number_at 20 ps ∷ number_at 90 ps ∷ number_at 95 ps ∷ []

-- The last subfile has a count of `count` octets, of which `left` remain, one or more. All octets
-- of the other subfiles were received.
pub record LastIsPartial (lengths : List ℕ) (taken count left : ℕ) : Type 0 where
  pub finished : List ℕ
  pub lengths_are : lengths ≡ finished ++ count ∷ []
  pub some : 1 ≤ left
  pub fits : left ≤ count
  pub octets : sum lengths ≡ taken + left

-- `taken` octets of the subfiles were received: all of them, or all but those that remain of the
-- subfile in progress.
abbrev pub TakenOctetsAre : List ℕ → ℕ → Option (ℕ × ℕ) → Type 0
TakenOctetsAre lengths taken None = sum lengths ≡ taken
TakenOctetsAre lengths taken (Some begun) = LastIsPartial lengths taken begun.0 begun.1

-- The position has these numbers of record 7, `heads` heads of subfiles, and `taken` octets
-- received. The object has not ended.
pub record PlaceHasNumbers (numbers : List (Option ℕ)) (taken : ℕ) (begun : Option (ℕ × ℕ)) (heads : ℕ) (p : Place) : Type 0 where
  pub numbers_are : numbers ≡ stated_numbers p.stated
  pub octets : TakenOctetsAre p.lengths taken begun
  pub subfiles : heads ≡ length p.lengths
  pub not_ended : p.ending ≡ NotEnded

-- The position is reached by tokens that the record layer and the limits accept and that are a
-- viable prefix.
pub record IsPossible (p : Place) : Type 0 where
  pub stated : AreStatedNumbers p.stated
  pub subfiles : p.lengths ≡ [] → p.ending ≡ NotEnded
  pub duties : 0 < length p.lengths → HasModeAndLargest p.stated
  pub few : length p.lengths ≤ max_subfiles
  pub alive : IsViablePrefix ObjectLanguage (tokens_of p)
