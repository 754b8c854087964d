-- A complete dataset, accepted in one call, and those of records 7 and 9 that may come next.
use Rattle.std.proofs.Common.{◌&&◌, ◌≡◌, ℕ, ◌<◌, ◌≤◌, List, [], ◌∷◌, ◌++◌, length, ◌⊎◌, refl, ap, sym, subst, ◌∙◌, inl, arith, Bool, true, false, Option, Some, None}
use Rattle.iim_fields.proofs.Words.{nat_tests, IsBetweenHeads, FieldsPlace, limits_of, HasStored, fields_of, StoreHasCapacity, kept, nothing_of_two, vec_len, is_none, option_or, Dataset, head_of, Head, head_fault, record_fault, limits_fault, first_fault, value_fault, room_fault, is_kept, kept_octets, added_field_fault, has_seen, OrderAddsHead, data_of, HasChecked, HasReadDatasets, place_fault, current_octets, reader_view, IsReaderState, Limits, FieldFault, Store, RecordPlace, IsBetweenDatasets, Octets, MayAcceptDataset, AdmitsDataset, DatasetEncodesNumber}
use Rattle.iim_fields.proofs.{Table.EachRowHasValues, Checking.told_at, Checking.record_fault_is, Checking.none_begun, Checking.checked_more, Numbers.and_true}
use Rattle.iim_fields.proofs.{Build.add_fault_of, Stand.Kept.Added, Stand.Kept.Passed}
use Rattle.iim_fields.proofs.Stand.{IsStore, Kept, begun_held, between_after, counts, fields_held, holds_after, kept_now, reading_between, room_fault_is, room_within, room_is, within_closed}

pub none_where : {X : Type 0} (o : Option X) → is_none o ≡ true → o ≡ None
none_where o e = grind arith

-- If the first of two faults is `None`, both are.
neither : (a b : Option FieldFault) → option_or a b ≡ None → (a ≡ None) × (b ≡ None)
neither a b e = grind arith

-- ---- The check.

same_head : (h : Head) (xs : List ℕ) → h.count ≡ length xs → h ≡ head_of (data_of h xs)
same_head h xs count = λ i. record { rec = h.rec; set = h.set; count = count i }

-- The dataset was accepted: it has no fault in the state.
pub took_by : EachRowHasValues → (old new : RecordPlace) (h : Head) (xs : List ℕ) → h.set < 256 → IsBetweenHeads (Some old) → h.count ≡ length xs → Octets xs
    → place_fault old h xs ≡ None → OrderAddsHead old.order h new.order → new.begun ≡ old.begun → (ds : List Dataset) → HasChecked (Some old) ds
    → HasChecked (Some new) (ds ++ data_of h xs ∷ [])
took_by values old new h xs small between count octets clear adds begun ds s =
    let none = neither (head_fault old.order.rec (has_seen old.order) h) (value_fault (data_of h xs)) clear in
    checked_more values old new h None (begun ∙ none_begun old between) tt small adds none.0 ds s (data_of h xs) (sym (same_head h xs count)) octets
    (λ _. none.1)

-- The fault by the state is the fault by the datasets.
pub exactly_by : (old : RecordPlace) (h : Head) (xs : List ℕ) (b : Bool) → b ≡ is_none (place_fault old h xs) → (ds : List Dataset)
    → HasChecked (Some old) ds → b ≡ is_none (option_or (record_fault ds h) (value_fault (data_of h xs)))
exactly_by old h xs b is ds s =
    is ∙ ap (λ (o : Option FieldFault). is_none (option_or o (value_fault (data_of h xs)))) (record_fault_is old.order ds h (told_at old ds s))

-- ---- Why a complete dataset is rejected.

room_told : (r l v : Option FieldFault) → is_none (option_or (option_or r l) v) ≡ (is_none (option_or r v) && is_none l)
room_told r l v = grind arith

-- A dataset that is stored is accepted exactly if the record layer has no fault and no limit is
-- exceeded.
pub whole_exact : {check : Option RecordPlace} {limits : Limits} {store : Store} {size : List ℕ} {f : FieldsPlace} (octets fields : ℕ) (h : Head)
    → (xs : List ℕ) → IsReaderState check limits store size → reader_view check limits store size ≡ f → octets ≡ length store.octets.items
    → fields ≡ vec_len store.entries → h.count ≡ length xs → is_kept h.rec ≡ true → (ds : List Dataset) → HasReadDatasets f ds
    → is_none (added_field_fault (limits_of f) ds (data_of h xs))
    ≡ (is_none (option_or (record_fault ds h) (value_fault (data_of h xs))) && is_none (room_fault limits octets fields h))
whole_exact {limits = limits} octets fields h xs r view long few count keeps ds s =
    let d = data_of h xs in
    let head = sym (same_head h xs count) in
    let room = room_is octets fields h (room_fault limits octets fields h) r long few refl ds (rw (← view) at s) in
    rw (← view) (ap is_none (add_fault_of limits ds d keeps)
    ∙ ((λ i. is_none (option_or (option_or (record_fault ds (head i)) (limits_fault limits ds (head i))) (value_fault d)))
    ∙ rw (← room) (room_told (record_fault ds h) (limits_fault limits ds h) (value_fault d))))

-- ---- The records.

-- Between datasets the stored octets are within the limits.
pub octets_within : {check : Option RecordPlace} {limits : Limits} {store : Store} {size : List ℕ} → IsReaderState check limits store size
    → IsBetweenHeads check
    → length store.octets.items ≤ limits.octets
octets_within {check} {limits} {store} {size} r between =
    let (ds, s) = between_after (reader_view check limits store size) r.stands between in
    let c = counts store (kept ds) [] (holds_after check limits store size ds r.store_is s) in omega (arith, c.0, s.within.octets_in)

-- A complete dataset was accepted: the store has what is stored of it.
pub stands_whole : {check new : Option RecordPlace} {limits : Limits} {store : Store} {size : List ℕ} {f : FieldsPlace} (last : Store) (h : Head)
    → (xs : List ℕ) → IsReaderState check limits store size → reader_view check limits store size ≡ f
    → ((ds : List Dataset) → HasChecked check ds → HasChecked new (ds ++ data_of h xs ∷ [])) → IsBetweenHeads new
    → room_fault limits (length store.octets.items) (vec_len store.entries) h ≡ None
    → h.count ≡ length xs → (current_octets store ++ size ≡ [] → Kept (fields_of store) (data_of h xs) (fields_of last) × (current_octets last ++ size ≡ []))
    → (ds : List Dataset) → HasReadDatasets f ds → HasReadDatasets (reader_view new limits last size) (ds ++ data_of h xs ∷ [])
stands_whole {check} {new} {limits} {store} {size} last h xs r view took next fits count keeps ds after =
    let s = rw (← view) at after in
    let checked = took ds s.checked in
    let room = sym (room_fault_is limits store ds h (holds_after check limits store size ds r.store_is s)) ∙ fits in
    let k = keeps s.taken_are in
    record {
      between = next;
      checked = checked;
      alive = checked.alive;
      within = within_closed limits ds h (data_of h xs) (is_kept h.rec) refl (sym (same_head h xs count))
          (λ is. let w = room_within limits (kept_octets ds) (length (kept ds)) h room is in record { octets_in = w.0; fields_in = w.1 }) s.within;
      kept_are = kept_now ds (data_of h xs) (fields_of store) (fields_of last) s.kept_are k.0;
      taken_are = k.1;
    }

pub reading_whole : {check new : Option RecordPlace} {limits : Limits} {store last : Store} {size : List ℕ} (d : Dataset)
    → IsReaderState check limits store size
    → IsBetweenHeads check → IsBetweenHeads new → StoreHasCapacity limits last → IsStore last
    → ((ds : List Dataset) → HasReadDatasets (reader_view check limits store size) ds → HasReadDatasets (reader_view new limits last size) (ds ++ d ∷ []))
    → IsReaderState new limits last size
reading_whole {check} {new} {limits} {store} {last} {size} d r between next room is on =
    let (ds, s) = between_after (reader_view check limits store size) r.stands between in reading_between room is next (inl (ds ++ d ∷ [], on ds s))

-- The store has one dataset more.
pub kept_whole : (old new : Store) (size : List ℕ) (d : Dataset) → is_kept d.rec ≡ true → HasStored new (fields_of old ++ d ∷ []) []
    → current_octets old ++ size ≡ [] → Kept (fields_of old) d (fields_of new) × (current_octets new ++ size ≡ [])
kept_whole old new size d keeps holds nothing =
    let none = nothing_of_two (current_octets old) size nothing in
    (Added keeps (fields_held new _ [] holds), (λ i. begun_held new _ [] holds i ++ none.1 i))

-- Between datasets none is in progress.
pub none_between : {check : Option RecordPlace} {limits : Limits} {store : Store} {size : List ℕ} → IsReaderState check limits store size → IsBetweenHeads check
    → current_octets store ≡ []
none_between {check} {limits} {store} {size} r between =
    let (ds, s) = between_after (reader_view check limits store size) r.stands between in (nothing_of_two (current_octets store) size s.taken_are).0

-- ---- A number.

pub no_limit : (limits : Limits) (octets fields : ℕ) (h : Head) → is_kept h.rec ≡ false → room_fault limits octets fields h ≡ None
no_limit limits octets fields h passes = rw passes refl

-- Neither record 7 nor record 9 is stored.
pub number_passes : (r : ℕ) → (r ≡ 7) ⊎ (r ≡ 9) → is_kept r ≡ false
number_passes r number = grind (arith, nat_tests)

pub number_stands : {check new : Option RecordPlace} {limits : Limits} {store : Store} {size : List ℕ} {f : FieldsPlace} (h : Head) (xs : List ℕ)
    → IsReaderState check limits store size → reader_view check limits store size ≡ f
    → ((ds : List Dataset) → HasChecked check ds → HasChecked new (ds ++ data_of h xs ∷ [])) → IsBetweenHeads new → (h.rec ≡ 7) ⊎ (h.rec ≡ 9)
    → h.count ≡ length xs → (ds : List Dataset) → HasReadDatasets f ds → HasReadDatasets (reader_view new limits store size) (ds ++ data_of h xs ∷ [])
number_stands {limits = limits} {store} h xs r view took next number count =
    let passes = number_passes h.rec number in
    stands_whole store h xs r view took next (no_limit limits _ _ h passes) count (λ none. (Passed passes refl, none))

-- ---- Complete datasets that may come next.

pub admits_exactly : {check : Option RecordPlace} {limits : Limits} {store : Store} {size : List ℕ} {f : FieldsPlace} {n : ℕ} {b : Bool} (h : Head)
    → IsReaderState check limits store size → reader_view check limits store size ≡ f → (h.rec ≡ 7) ⊎ (h.rec ≡ 9)
    → ((ds : List Dataset) (xs : List ℕ) → HasChecked check ds → DatasetEncodesNumber xs h n → b ≡ is_none (option_or (record_fault ds h) (value_fault
    (data_of h xs))))
    → (ds : List Dataset) (xs : List ℕ) → HasReadDatasets f ds → DatasetEncodesNumber xs h n
    → b ≡ is_none (option_or (first_fault (limits_of f) ds h) (value_fault (data_of h xs)))
admits_exactly {limits = limits} h r view number exactly ds xs s spelled =
    let none = no_limit limits (kept_octets ds) (length (kept ds)) h (number_passes h.rec number) in
    rw (← view) (exactly ds xs (rw (← view) at s).checked spelled
    ∙ sym (room_told (record_fault ds h) (limits_fault limits ds h) (value_fault (data_of h xs)) ∙ rw none (and_true _)))

pub may_take : {check : Option RecordPlace} {limits : Limits} {store : Store} {size : List ℕ} {f : FieldsPlace} {h : Head} {xs : List ℕ}
    → IsReaderState check limits store size → reader_view check limits store size ≡ f → IsBetweenDatasets f → AdmitsDataset f h xs → MayAcceptDataset check h xs
may_take {check} {limits} {store} {size} {f} {h} {xs} r view between a =
    let (ds, s) = between_after (reader_view check limits store size) r.stands (rw (← view) at between) in
    let none = neither (first_fault limits ds h) (value_fault (data_of h xs)) ((rw (← view) at a).no_fault ds s) in
    let clear : record_fault ds h ≡ None = (neither (record_fault ds h) (limits_fault limits ds h) none.0).0 in
    record {
      count = a.count;
      octets = a.octets;
      fine = λ place is.
          let told = told_at place ds (subst (λ (k : Option RecordPlace). HasChecked k ds) is s.checked) in
          (λ i. option_or ((record_fault_is place.order ds h told ∙ clear) i) (value_fault (data_of h xs))) ∙ none.1;
    }
