-- A check, a reader and a builder in terms of their fields: what they store, and how a head changes
-- it.
use Rattle.std.specs.Prelude.{ℕ, ◌⊎◌, List, Option, Some, ◌≡◌, length, None, ◌≢◌, Bool, true, false, replicate, slice_set, ◌==◌, if◌then◌else◌, ◌≤◌, ◌<◌, ◌^◌, [], ◌++◌, IsTrue, vec_capacity}
use Rattle.std.specs.{Option.option_or, Ordering.eq_by_cmp}
use Rattle.std.specs.Cmp.{IsEquivalence, IsTotalOrder, and_equiv, then_total, both_tied}
use Rattle.std.specs.Cmp.Lexicographic.{on_texts, on_texts_equal, texts_ties}
use Rattle.iim_dataset.specs.{Format.Datasets.Dataset, Format.Octets.Octets, declared.head.Head.Head}
use Rattle.iim_fields.specs.States.Standing.{has_seen, HasChecked, IsChecking, current_head, FieldsPlace, HasReadDatasets, IsReadingDataset, FitAnyLimits}
use Rattle.iim_fields.specs.Format.Causes.{head_fault, value_fault, FieldFault, missing_fault, missing_of, is_kept, Limits, joined, kept}
use Rattle.iim_fields.specs.Format.Records.{data_of, Identity, id_eq, id_cmp, IsWithin, IsEnvelope}
use Rattle.iim_fields.specs.StoreLayout.{store_room, fields_of, current_octets, HasStored}
use Rattle.iim_fields.specs.declared.{check.RecordPlace.RecordPlace, order.Order.Order, store.Store.Store}

-- The state is reached by some datasets, or by some datasets and a head.
abbrev pub IsRecordPlace : RecordPlace → Type 0
IsRecordPlace place = ((ds : List Dataset) × HasChecked (Some place) ds) ⊎ ((ds : List Dataset) × (h : Head) × IsChecking (Some place) ds h)

-- The first fault in the record layer of a dataset with this head and these data: that of the head
-- in this state, otherwise that of the value.
abbrev pub place_fault : RecordPlace → Head → List ℕ → Option FieldFault
place_fault place h xs = option_or (head_fault place.order.rec (has_seen place.order) h) (value_fault (data_of h xs))

pub id_equivalence : IsEquivalence id_eq
id_equivalence = and_equiv (on_texts_equal (λ (i : Identity). i.service)) (and_equiv (on_texts_equal (λ (i : Identity). i.number)) (on_texts_equal (λ (i : Identity). i.date_sent)))

pub id_total : IsTotalOrder id_cmp
id_total = then_total (on_texts (λ (i : Identity). i.service)) (then_total (on_texts (λ (i : Identity). i.number)) (on_texts (λ (i : Identity). i.date_sent)))

-- Two identities are equal if and only if their order is `Equal`.
pub id_ties : (x y : Identity) → id_eq x y ≡ eq_by_cmp id_cmp x y
id_ties x y = search (both_tied, texts_ties)

-- A dataset with this head and these data has no fault in the state of the check.
pub record MayAcceptDataset (check : Option RecordPlace) (h : Head) (xs : List ℕ) : Type 0 where
  pub count : h.count ≡ length xs
  pub octets : Octets xs
  pub fine : (place : RecordPlace) → check ≡ Some place → place_fault place h xs ≡ None

-- `new` is `old` after the head: the number of the head was added to those of the current record,
-- or is the first of the next record.
pub record OrderAddsHead (old : Order) (h : Head) (new : Order) : Type 0 where
  pub rec : new.rec ≡ h.rec
  pub same : h.rec ≡ old.rec → new.seen ≡ slice_set old.seen h.set true
  pub next : h.rec ≢ old.rec → new.seen ≡ slice_set (replicate 256 false) h.set true

-- The first missing dataset if records 1 and 2 end here, given the current record and the numbers
-- that have occurred in it: that of record 2 or, if this is not the current record, that of record
-- 1 or otherwise the first of record 2.
abbrev pub end_fault : ℕ → (ℕ → Bool) → Option FieldFault
end_fault present has =
    if present == 2 then missing_fault 2 (missing_of 2 has)
    else option_or (missing_fault 1 (missing_of 1 has)) (missing_fault 2 (missing_of 2 (λ _. false)))

-- the model of a reader with this check, these limits, this store and these octets of a size
abbrev pub reader_view : Option RecordPlace → Limits → Store → List ℕ → FieldsPlace
reader_view check limits store size =
    record { check = check; limits = limits; kept = fields_of store; taken = current_octets store ++ size; room = store_room store }

-- The state is reached by some datasets, or by some datasets, a head and some of its data.
abbrev pub IsReachedByDatasets : FieldsPlace → Type 0
IsReachedByDatasets fields = ((ds : List Dataset) × HasReadDatasets fields ds) ⊎ ((ds : List Dataset) × (h : Head) × (taken : List ℕ) × IsReadingDataset fields ds h taken)

-- The store has capacity for everything that the limits, which are numbers of 32 bits, allow.
pub record StoreHasCapacity (limits : Limits) (store : Store) : Type 0 where
  pub small_octets : limits.octets < 2 ^ 32
  pub small_fields : limits.fields < 2 ^ 32
  pub octets : limits.octets ≤ store.octets.room
  pub entries : limits.fields ≤ vec_capacity store.entries

-- The state is reached by some datasets, or a call has returned an error. The octets of the dataset
-- in progress are in the store if it will be stored, and otherwise in the size.
pub record IsReaderState (check : Option RecordPlace) (limits : Limits) (store : Store) (size : List ℕ) : Type 0 where
  pub room : StoreHasCapacity limits store
  pub store_is : HasStored store (fields_of store) (current_octets store)
  pub stands : (check ≡ None) ⊎ IsReachedByDatasets (reader_view check limits store size)
  pub in_store : (h : Head) → current_head check ≡ Some h → IsTrue (is_kept h.rec) → size ≡ []
  pub in_size : (h : Head) → current_head check ≡ Some h → is_kept h.rec ≡ false → current_octets store ≡ []

-- The check of the builder has consumed exactly the datasets that are stored.
pub record IsBuilderState (check : Option RecordPlace) (limits : Limits) (store : Store) : Type 0 where
  pub room : StoreHasCapacity limits store
  pub checked : HasChecked check (fields_of store)
  pub within : IsWithin limits (length (joined (fields_of store))) (length (fields_of store))
  pub holds : HasStored store (fields_of store) []
  pub all_kept : kept (fields_of store) ≡ fields_of store

-- the store has exactly the datasets of an envelope
pub record IsEnvelopeStore (store : Store) : Type 0 where
  pub few : FitAnyLimits (fields_of store)
  pub holds : HasStored store (fields_of store) []
  pub envelope : IsEnvelope (fields_of store)
