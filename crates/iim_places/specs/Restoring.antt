-- Parts of tickets that no envelope reaches, and the consumers of a ticket's records.
use Rattle.std.specs.Prelude.{◌≡◌, ℕ, ◌^◌, ◌<◌, List, ◌++◌, length, ◌+◌, Bool, true, false, [], ◌∷◌, Option, None, cond}
use Rattle.std.specs.List.{AllByRecursion, flat_map}
use Rattle.iim_dataset.specs.Format.Datasets.{Dataset}
use Rattle.iim_places.specs.Format.Tickets.{field_octets, Place, Phase, part_number}
use Rattle.iim_places.specs.States.Possible.{LayersReach, partial_count, partial_fields, Numbers, plain}
use Rattle.iim_places.specs.{Format.TicketForm.FitsInField, Format.TicketForm.Contents, Laws.contents_of, Laws.texts_of}
use Rattle.iim_fields.specs.Format.Causes.{kept, kept_octets, is_kept}
use Rattle.iim_fields.specs.{Format.Records.IsWithin, Format.Records.AreViableSections, declared.limits.Limits.Limits}
use Rattle.wire_message.specs.declared.saved.MessagePlace.{MessagePlace}

-- The number fits into four octets.
abbrev pub FitsInFourOctets : ℕ → Type 0
FitsInFourOctets n = n < 2 ^ 32

-- The octets do not begin with an item of this kind in this encoding.
abbrev pub LacksItem : {X : Type 0} → (X → Type 0) → (X → List ℕ) → List ℕ → Type 0
LacksItem Is spelled octets = (x : _) (rest : List ℕ) → Is x → octets ≡ spelled x ++ rest → ⊥

-- The octets do not begin with `count` items of this kind in this encoding.
abbrev pub LacksItems : {X : Type 0} → (X → Type 0) → (X → List ℕ) → ℕ → List ℕ → Type 0
LacksItems Is spelled count octets = (xs : List _) (rest : List ℕ) → AllByRecursion Is xs → length xs ≡ count → octets ≡ flat_map spelled xs ++ rest → ⊥

-- The octets are `count` encoded datasets followed by the rest.
pub record FieldsPrecede (count : ℕ) (octets rest : List ℕ) : Type 0 where
  pub datasets : List Dataset
  pub each : AllByRecursion FitsInField datasets
  pub many : length datasets ≡ count
  pub spelled : octets ≡ flat_map field_octets datasets ++ rest

-- No position with these parts is reachable in each layer.
abbrev pub IsUnreachable : Contents → Type 0
IsUnreachable s = (place : Place) → contents_of s.version place ≡ s → LayersReach place → ⊥

-- The stored datasets, together with the one in progress, are within the limits.
abbrev pub AreWithinLimitsWith : Limits → ℕ → Phase → List Dataset → Type 0
AreWithinLimitsWith limits section phase ds = IsWithin limits (kept_octets ds + partial_count section phase) (length (kept ds) + partial_fields section phase)

-- All are datasets of records 1 and 2.
abbrev pub AreStored : List Dataset → Type 0
AreStored ds = AllByRecursion (λ (d : Dataset). is_kept d.rec ≡ true) ds

-- The datasets are within the limits, and the record layer can continue after them.
pub record CanContinueWithin (limits : Limits) (ds : List Dataset) : Type 0 where
  pub alive : AreViableSections ds
  pub within : IsWithin limits (kept_octets ds) (length (kept ds))

-- The result of a consumer of datasets. On `true` it has consumed these datasets, after any it had
-- consumed before. On `false` the datasets consumed before cannot be continued with these within
-- the limits.
abbrev pub ConsumesEach : {T : Type 0} → (T → Type 0) → (T → List Dataset → Type 0) → (T → Limits) → T → List Dataset → T → Bool → Type 0
ConsumesEach ready stands limits old es new true = ready new × (limits new ≡ limits old) × ((ds : List Dataset) → stands old ds → stands new (ds ++ es))
ConsumesEach ready stands limits old es new false = (ds : List Dataset) → stands old ds → CanContinueWithin (limits old) (ds ++ es) → ⊥

-- the numbers of 7:10, 7:20, 7:90 and 7:95
abbrev pub numbers_of_list : List (Option ℕ) → Numbers
numbers_of_list (mode ∷ largest ∷ announced ∷ maximum ∷ []) = record { mode = mode; largest = largest; announced = announced; maximum = maximum }
numbers_of_list other = record { mode = None; largest = None; announced = None; maximum = None }

-- the fields, the numbers, one empty subfile if `some` subfiles are complete, and 9:10 if the
-- object has ended
abbrev pub state_datasets : List Dataset → List (Option ℕ) → (some ended : Bool) → List Dataset
state_datasets fields numbers some ended = plain fields (numbers_of_list numbers) (cond some 1 0) [] ended

-- The position in a message that a ticket encodes by its part, counter, flag and texts.
pub record HasMessageParts (part counter flag : ℕ) (texts : List (List ℕ)) (m : MessagePlace) : Type 0 where
  pub part_is : part_number m.part ≡ part
  pub counter_is : m.counter ≡ counter
  pub flag_is : m.flag ≡ flag
  pub texts_are : texts_of m ≡ texts
