-- What a reader of records stores, step by step.
use Rattle.std.proofs.Common.{◌≡◌, ◌≢◌, ℕ, suc, ◌+◌, ◌-◌, ◌<◌, ◌≤◌, ◌⊎◌, Bool, true, false, cond, List, [], ◌∷◌, ◌++◌, length, get_or, refl, ap, sym, ◌∙◌, inl, inr, arith, subst, append_assoc, append-nil, length-append, Option, Some, None}
use Rattle.std.proofs.Math.Seq.{take-append_seam, drop-append_seam}
use Rattle.iim_fields.proofs.Words.{limits_of, IsBetweenHeads, cases_Bool, nat_tests, StoreHasCapacity, IsEnvelopeStore, vec_len, vec_capacity, option_or, filter-append, flat_map-append, eqb_tells, Octets, Dataset, head_of, Head, octets_append, are_octets, nothing_of_two, size_octets, occurs, AreViableSectionsWithHead, room_fault, limits_fault, first_fault, is_kept, kept, kept_octets, joined, section_after, current_datasets, data_of, encoded_number, has_number_value, section_at, IsInDataset, HasChecked, IsChecking, HasAcceptedHead, IsRecordFault, IsValueFault, current_head, HasStored, entries_of, fields_of, ends_at, current_octets, fields_from, FieldsPlace, IsBetweenDatasets, IsInsideDataset, AcceptsData, AcceptsEnd, HasReadDatasets, IsReadingDataset, IsHeadFault, IsDatasetOf, section_of, current_head_of, IsWithin, reader_view, IsReachedByDatasets, IsReaderState, Limits, Store, FieldFault, RecordPlace}
use Rattle.iim_fields.proofs.{Table.EachRowHasValues, Table.size_row, Table.kept_or_tells, Follows.present_more, Telling.head_fault_told, Dies.head_no_fault}
use Rattle.iim_fields.proofs.{Checking.one_begun, Checking.count_fits, Sections.some_data, Sections.taken_alive}

-- ---- The limits.

-- A head without a fault exceeds no limit.
pub room_within : (limits : Limits) (octets fields : ℕ) (h : Head) → room_fault limits octets fields h ≡ None → is_kept h.rec ≡ true
    → (octets + h.count ≤ limits.octets) × (fields + 1 ≤ limits.fields)
room_within limits octets fields h none is = grind (arith, nat_tests)

pub no_room : (limits : Limits) (octets fields : ℕ) (h : Head) (fault : FieldFault) → room_fault limits octets fields h ≡ Some fault
    → (is_kept h.rec ≡ true → IsWithin limits (octets + h.count) (fields + 1)) → ⊥
no_room limits octets fields h fault some in_limits = elim (cases_Bool (is_kept h.rec)) [
  | inl is ↦ let w = in_limits is in grind (arith, nat_tests)
  | inr other ↦ grind arith
]

-- ---- The store.

-- The entries and the octets of the store are those of its datasets.
abbrev pub IsStore : Store → Type 0
IsStore store = HasStored store (fields_of store) (current_octets store)

length-entries_of : (from : ℕ) (ds : List Dataset) → length (entries_of from ds) ≡ length ds
length-entries_of from [] = refl
length-entries_of from (d ∷ ds) = ap suc (length-entries_of (from + length d.octets) ds)

-- The datasets of a store are those that it was made of.
pub fields_back : (from : ℕ) (ks : List Dataset) (more : List ℕ) → fields_from from (entries_of from ks) (joined ks ++ more) ≡ ks
fields_back from [] more = refl
fields_back from (k ∷ ks) more =
    let long : from + length k.octets - from ≡ length k.octets = omega arith in
    rw (long, append_assoc k.octets (joined ks) more, take-append_seam k.octets (joined ks ++ more), drop-append_seam k.octets (joined ks ++ more))
    (ap (λ (xs : List Dataset). k ∷ xs) (fields_back (from + length k.octets) ks more))

pub fields_held : (store : Store) (ks : List Dataset) (more : List ℕ) → HasStored store ks more → fields_of store ≡ ks
fields_held store ks more holds = (λ i. fields_from 0 (holds.entries i) (holds.octets i)) ∙ fields_back 0 ks more

pub entries_append : (from : ℕ) (ks : List Dataset) (d : Dataset)
    → entries_of from (ks ++ d ∷ []) ≡ entries_of from ks ++ record { rec = d.rec; set = d.set; end = from + length (joined ks) + length d.octets } ∷ []
entries_append from [] d = ap (λ (n : ℕ). record { rec = d.rec; set = d.set; end = n } ∷ []) (omega arith)
entries_append from (k ∷ ks) d =
    let sum : (from + length k.octets) + length (joined ks) + length d.octets ≡ from + length (joined (k ∷ ks)) + length d.octets = omega
    (arith, length-append k.octets (joined ks)) in
    ap (λ es. record { rec = k.rec; set = k.set; end = from + length k.octets } ∷ es)
    (entries_append (from + length k.octets) ks d ∙ ap (λ (n : ℕ). entries_of (from + length k.octets) ks ++ record {
      rec = d.rec;
      set = d.set;
      end = n;
    } ∷ []) sum)

pub joined_more : (ks : List Dataset) (d : Dataset) → joined (ks ++ d ∷ []) ≡ joined ks ++ d.octets
joined_more ks d = flat_map-append (λ (x : Dataset). x.octets) ks (d ∷ []) ∙ ap (λ (xs : List ℕ). joined ks ++ xs) (append-nil d.octets)

pub kept_more : (ds : List Dataset) (d : Dataset) → is_kept d.rec ≡ true → kept (ds ++ d ∷ []) ≡ kept ds ++ d ∷ []
kept_more ds d is = filter-append (λ (x : Dataset). is_kept x.rec) ds (d ∷ []) ∙ ap (λ (b : Bool). kept ds ++ cond b (d ∷ []) []) is

pub kept_other : (ds : List Dataset) (d : Dataset) → is_kept d.rec ≡ false → kept (ds ++ d ∷ []) ≡ kept ds
kept_other ds d is = filter-append (λ (x : Dataset). is_kept x.rec) ds (d ∷ []) ∙ (ap (λ (b : Bool). kept ds ++ cond b (d ∷ []) []) is ∙ append-nil (kept ds))

pub kept_not_object : (n : ℕ) → is_kept n ≡ true → n ≢ 8
kept_not_object n is same = let bad : is_kept 8 ≡ true = subst (λ (m : ℕ). is_kept m ≡ true) same is in cc

ends_of : (from : ℕ) (ks : List Dataset) → ends_at from (entries_of from ks) ≡ from + length (joined ks)
ends_of from [] = omega arith
ends_of from (k ∷ ks) = ends_of (from + length k.octets) ks ∙ omega (arith, length-append k.octets (joined ks))

ends_at_length : (ks : List Dataset) → ends_at 0 (entries_of 0 ks) ≡ length (joined ks)
ends_at_length ks = ends_of 0 ks ∙ omega arith

pub begun_held : (store : Store) (ks : List Dataset) (more : List ℕ) → HasStored store ks more → current_octets store ≡ more
begun_held store ks more holds = rw (holds.entries, holds.octets, ends_at_length ks) (drop-append_seam (joined ks) more)

-- A store with these datasets is a valid store.
pub store_is : (store : Store) (ks : List Dataset) (more : List ℕ) → HasStored store ks more → IsStore store
store_is store ks more holds = record {
  entries = holds.entries ∙ ap (entries_of 0) (sym (fields_held store ks more holds));
  octets = holds.octets ∙ sym (λ i. joined (fields_held store ks more holds i) ++ begun_held store ks more holds i);
}

pub counts : (store : Store) (ks : List Dataset) (more : List ℕ) → HasStored store ks more → (length store.octets.items ≡ length (joined ks) + length more)
    × (vec_len store.entries ≡ length ks)
counts store ks more holds = (
  ap (λ (xs : List ℕ). length xs) holds.octets ∙ length-append (joined ks) more,
  store.entries.ok.0 ∙ (ap (λ xs. length xs) holds.entries ∙ length-entries_of 0 ks),
)

-- A store after octets were appended.
pub takes_holds : {old new : Store} {ks : List Dataset} {more : List ℕ} (xs : List ℕ) → HasStored old ks more → new.octets.items ≡ old.octets.items ++ xs
    → new.entries ≡ old.entries → HasStored new ks (more ++ xs)
takes_holds {ks = ks} {more} xs holds octets entries = record {
  entries = ap (λ v. v.items) entries ∙ holds.entries;
  octets = octets ∙ (ap (λ (ys : List ℕ). ys ++ xs) holds.octets ∙ append_assoc (joined ks) more xs);
}

-- A store after the appended octets were stored as the data of a dataset.
pub keeps_holds : {old new : Store} {ks : List Dataset} {more : List ℕ} (rec set : ℕ) → HasStored old ks more → new.octets ≡ old.octets
    → new.entries.items ≡ old.entries.items ++ record { rec = rec; set = set; end = length old.octets.items } ∷ []
    → HasStored new (ks ++ record { rec = rec; set = set; octets = more } ∷ []) []
keeps_holds {old} {ks = ks} {more} rec set holds octets entries =
    let d : Dataset = record { rec = rec; set = set; octets = more } in
    let c = counts old ks more holds in
    let end : length old.octets.items ≡ 0 + length (joined ks) + length more = omega (arith, c.0) in
    record {
      entries = entries ∙ ((λ i. holds.entries i ++ record { rec = rec; set = set; end = end i } ∷ []) ∙ sym (entries_append 0 ks d));
      octets = ap (λ v. v.items) octets ∙ (holds.octets ∙ (sym (joined_more ks d) ∙ sym (append-nil (joined (ks ++ d ∷ [])))));
    }

-- How many octets and entries the store of an envelope has.
pub totals : (store : Store) → IsEnvelopeStore store
    → (length (joined (fields_of store)) ≡ length store.octets.items) × (length (fields_of store) ≡ vec_len store.entries)
totals store e = let c = counts store (fields_of store) [] e.holds in omega (arith, c.0, c.1)

-- The octets of the dataset in progress are in the store.
pub ends_within : (store : Store) → IsStore store → ends_at 0 store.entries.items ≤ length store.octets.items
ends_within store is =
    let c = counts store (fields_of store) (current_octets store) is in
    let e : ends_at 0 store.entries.items ≡ length (joined (fields_of store)) = ap (ends_at 0) is.entries
    ∙ ends_at_length (fields_of store) in omega (arith, c.0, e)

-- The store of a reader whose stored datasets are these.
holds_kept : (store : Store) (ds : List Dataset) → IsStore store → fields_of store ≡ kept ds → HasStored store (kept ds) (current_octets store)
holds_kept store ds is same = subst (λ (ks : List Dataset). HasStored store ks (current_octets store)) same is

-- ---- The state.

-- No dataset is in progress.
pub none_begun : (check : Option RecordPlace) (o : _) (h : Head) → check ≡ Some (record { order = o; begun = None }) → IsInDataset check h → ⊥
none_begun check o h e a = let clash = one_begun check o a.order None (Some (record { head = h; row = a.row })) e a.inside in cc

-- Between datasets, some datasets reach the state.
pub between_after : (f : FieldsPlace) → (f.check ≡ None) ⊎ IsReachedByDatasets f → IsBetweenDatasets f → (ds : List Dataset) × HasReadDatasets f ds
between_after f (inl none) t = let clash = sym t.between ∙ none in cc
between_after f (inr (inl (ds, s))) t = (ds, s)
between_after f (inr (inr (ds, h, taken, s))) t = absurd (none_begun f.check t.order h t.between s.inside.1.head)

-- In a dataset, some datasets and its head reach the state.
pub inside_in : (f : FieldsPlace) (h : Head) → (f.check ≡ None) ⊎ IsReachedByDatasets f → IsInDataset f.check h → (ds : List Dataset) × (g : Head) ×
    (taken : List ℕ)
    × IsReadingDataset f ds g taken
inside_in f h (inl none) a = let clash = sym a.inside ∙ none in absurd cc
inside_in f h (inr (inl (ds, s))) a = absurd (none_begun f.check s.between.order h s.between.between a)
inside_in f h (inr (inr (ds, g, taken, s))) a = (ds, g, taken, s)

pub head_in : (check : Option RecordPlace) (h : Head) → IsInDataset check h → current_head check ≡ Some h
head_in check h a = ap current_head a.inside

same_head : (g h : Head) (o : Option Head) → o ≡ Some g → o ≡ Some h → g ≡ h
same_head g h o e f = let both = sym e ∙ f in cc

pub none_between : (check : Option RecordPlace) → IsBetweenHeads check → current_head check ≡ None
none_between check t = ap current_head t.between

-- ---- A head.

pub fault_of_record : (limits : Limits) (ds : List Dataset) (h : Head) (fault : FieldFault) → IsRecordFault ds h fault → IsHeadFault limits ds h fault
fault_of_record limits ds h fault f = record {
  first = ap (λ (o : Option FieldFault). option_or o (limits_fault limits ds h)) f.first;
  lowest = f.lowest limits;
  dead = λ alive _. f.dead alive;
}

-- The limit that a head exceeds, by the store, is that by the datasets.
pub room_fault_is : (limits : Limits) (store : Store) (ds : List Dataset) (h : Head) → HasStored store (kept ds) []
    → room_fault limits (length store.octets.items) (vec_len store.entries) h ≡ limits_fault limits ds h
room_fault_is limits store ds h holds =
    let c = counts store (kept ds) [] holds in
    let first : length store.octets.items ≡ kept_octets ds = omega (arith, c.0) in
    ap (λ (n : ℕ). room_fault limits n (vec_len store.entries) h) first ∙ ap (λ (n : ℕ). room_fault limits (kept_octets ds) n h) c.1

-- The store after datasets.
pub holds_after : (check : Option RecordPlace) (limits : Limits) (store : Store) (size : List ℕ) (ds : List Dataset) → IsStore store
    → HasReadDatasets (reader_view check limits store size) ds → HasStored store (kept ds) []
holds_after check limits store size ds is s =
    subst (HasStored store (kept ds)) (nothing_of_two (current_octets store) size s.taken_are).0 (holds_kept store ds is s.kept_are)

-- The limit that a head exceeds, by these numbers of octets and datasets, is that by the datasets.
pub room_is : {check : Option RecordPlace} {limits : Limits} {store : Store} {size : List ℕ} (octets fields : ℕ) (h : Head) (o : Option FieldFault)
    → IsReaderState check limits store size → octets ≡ length store.octets.items → fields ≡ vec_len store.entries → o ≡ room_fault limits octets fields h
    → (ds : List Dataset) → HasReadDatasets (reader_view check limits store size) ds → limits_fault limits ds h ≡ o
room_is {check} {limits} {store} {size} octets fields h o r long count told ds s =
    sym (room_fault_is limits store ds h (holds_after check limits store size ds r.store_is s))
    ∙ ((λ i. room_fault limits (sym long i) (sym count i) h) ∙ sym told)

pub fault_of_room : {check new : Option RecordPlace} {limits : Limits} {store : Store} {size : List ℕ} {f : FieldsPlace} {h : Head} {fault : FieldFault}
    → (octets fields : ℕ) → IsReaderState check limits store size → reader_view check limits store size ≡ f
    → ((ds : List Dataset) → HasChecked check ds → HasAcceptedHead new ds h) → octets ≡ length store.octets.items → fields ≡ vec_len store.entries
    → Some fault ≡ room_fault limits octets fields h → (ds : List Dataset) → HasReadDatasets f ds → IsHeadFault (limits_of f) ds h fault
fault_of_room {new = new} {limits} {h = h} {fault} octets fields r view on long count told ds after =
    let s = rw (← view) at after in
    let room = room_is octets fields h (Some fault) r long count told ds s in
    let none = head_no_fault ds h (taken_alive new ds h (on ds s.checked)) in
    let first : first_fault limits ds h ≡ Some fault = ap (λ (o : Option FieldFault). option_or o (limits_fault limits ds h)) none ∙ room in
    rw (← view) (record {
      first = first;
      lowest = head_fault_told limits ds h fault first;
      dead = λ alive in_limits. no_room limits (kept_octets ds) (length (kept ds)) h fault room in_limits;
    })

pub stands_in : {check new : Option RecordPlace} {limits : Limits} {store : Store} {size : List ℕ} {f : FieldsPlace} {h : Head} (octets fields : ℕ)
    → IsReaderState check limits store size → reader_view check limits store size ≡ f → IsInDataset new h → ((ds : List Dataset) → HasChecked check ds
    → HasAcceptedHead new ds h)
    → octets ≡ length store.octets.items → fields ≡ vec_len store.entries → None ≡ room_fault limits octets fields h → (ds : List Dataset)
    → HasReadDatasets f ds
    → IsReadingDataset (reader_view new limits store size) ds h []
stands_in {new = new} {limits} {h = h} octets fields r view at on long count told ds after =
    let s = rw (← view) at after in
    let room = room_is octets fields h None r long count told ds s in
    let taken = on ds s.checked in
    record {
      inside = (h.count, record { head = at; to_come = λ _. omega (arith, ap (λ (ys : List ℕ). length ys) s.taken_are) });
      checked = taken;
      alive = taken_alive new ds h taken;
      within = λ keeps. let w = room_within limits (kept_octets ds) (length (kept ds)) h room keeps in record { octets_in = w.0; fields_in = w.1 };
      others = s.within;
      kept_are = s.kept_are;
      taken_are = s.taken_are;
      octets = tt;
      nothing = λ _. refl;
    }

pub reading_begun : {check new : Option RecordPlace} {limits : Limits} {store : Store} {size : List ℕ} {h : Head} → IsReaderState check limits store size
    → IsBetweenHeads check → ((ds : List Dataset) → HasReadDatasets (reader_view check limits store size) ds → IsReadingDataset
    (reader_view new limits store size) ds h [])
    → IsReaderState new limits store size
reading_begun {check} {new} {limits} {store} {size} {h} r t on =
    let (ds, s) = between_after (reader_view check limits store size) r.stands t in
    let none = nothing_of_two (current_octets store) size s.taken_are in
    record { room = r.room; store_is = r.store_is; stands = inr (inr (ds, h, [], on ds s)); in_store = λ _ _ _. none.1; in_size = λ _ _ _. none.0 }

-- ---- Data.

-- The reader is in the dataset in progress, and in no other.
in_begun : (f : FieldsPlace) (g : Head) → IsInDataset f.check g → (ds : List Dataset) (h : Head) (taken : List ℕ) → IsReadingDataset f ds h taken → h ≡ g
in_begun f g a ds h taken s = same_head h g (current_head f.check) (head_in f.check h s.inside.1.head) (head_in f.check g a)

-- Data were added.
pub inside_more : {check : Option RecordPlace} {limits : Limits} {store : Store} {size : List ℕ} {f : FieldsPlace} (last : Store) (more xs : List ℕ)
    → IsReaderState check limits store size → reader_view check limits store size ≡ f → current_octets last ++ more ≡ (current_octets store ++ size) ++ xs
    → AcceptsData f (length xs) → (h : Head) (n : ℕ) → IsInsideDataset f h n → IsInsideDataset (reader_view check limits last more) h (n - length xs)
inside_more {check} {store = store} {size = size} last more xs r view taken_is can h n is =
    let i = rw (← view) at is in
    let (g, m, inside, g_other, fits) = rw (← view) at can in
    let same : h ≡ g = same_head h g (current_head check) (head_in check h i.head) (head_in check g inside.head) in
    record {
      head = i.head;
      to_come = λ other.
          let count = ap (λ (k : Head). k.count) same in
          let long = ap (λ (ys : List ℕ). length ys) taken_is in
          omega (arith, i.to_come other, inside.to_come g_other, fits, count, long, length-append (current_octets store ++ size) xs);
    }

pub stands_more : {check : Option RecordPlace} {limits : Limits} {store : Store} {size : List ℕ} {f : FieldsPlace} (last : Store) (more xs : List ℕ)
    → IsReaderState check limits store size → reader_view check limits store size ≡ f → fields_of last ≡ fields_of store
    → current_octets last ++ more ≡ (current_octets store ++ size) ++ xs → AcceptsData f (length xs) → ((i : ℕ) → get_or xs i 0 < 256)
    → (ds : List Dataset) (h : Head) (taken : List ℕ) → IsReadingDataset f ds h taken → IsReadingDataset (reader_view check limits last more) ds h (taken ++ xs)
stands_more {check} {limits} {store} {size} last more xs r view kept_is taken_is can small ds h taken stands =
    let s = rw (← view) at stands in
    let t = rw (← view) at can in
    let same = in_begun (reader_view check limits store size) t.0 t.2.head ds h taken s in
    record {
      inside = (s.inside.0 - length xs, inside_more last more xs r refl taken_is t h s.inside.0 s.inside.1);
      checked = s.checked;
      alive = s.alive;
      within = s.within;
      others = s.others;
      kept_are = kept_is ∙ s.kept_are;
      taken_are = taken_is ∙ ap (λ (ys : List ℕ). ys ++ xs) s.taken_are;
      octets = octets_append taken xs s.octets (are_octets xs small);
      nothing = λ eight. absurd (t.3 (ap (λ (k : Head). k.rec) (sym same) ∙ eight));
    }

pub reading_more : {check : Option RecordPlace} {limits : Limits} {store last : Store} {size more : List ℕ} (xs : List ℕ) (head : Head)
    → IsReaderState check limits store size
    → fields_of last ≡ fields_of store → current_octets last ++ more ≡ (current_octets store ++ size) ++ xs → AcceptsData (reader_view check limits store size)
    (length xs)
    → ((i : ℕ) → get_or xs i 0 < 256) → StoreHasCapacity limits last → IsStore last → current_head check ≡ Some head → (is_kept head.rec ≡ true → more ≡ [])
    → (is_kept head.rec ≡ false → current_octets last ≡ []) → IsReaderState check limits last more
reading_more {check} {limits} {store} {last} {size} {more} xs head r kept_is taken_is t small room is begun in_store in_size =
    let (ds, g, taken, s) = inside_in (reader_view check limits store size) t.0 r.stands t.2.head in
    record {
      room = room;
      store_is = is;
      stands = inr (inr (ds, g, taken ++ xs, stands_more last more xs r refl kept_is taken_is t small ds g taken s));
      in_store = λ h e keeps. in_store (rw (same_head h head (current_head check) e begun) at keeps);
      in_size = λ h e none. in_size (rw (same_head h head (current_head check) e begun) at none);
    }

-- The octets of a dataset that will be stored are in the store.
pub in_store_alone : (store : Store) (size : List ℕ) → size ≡ [] → current_octets store ++ size ≡ current_octets store
in_store_alone store size none = ap (λ (ys : List ℕ). current_octets store ++ ys) none ∙ append-nil (current_octets store)

pub taken_in_store : (old new : Store) (size xs : List ℕ) → size ≡ [] → new.octets.items ≡ old.octets.items ++ xs → new.entries ≡ old.entries → IsStore old
    → (fields_of new ≡ fields_of old) × (current_octets new ++ size ≡ (current_octets old ++ size) ++ xs)
taken_in_store old new size xs none octets entries is =
    let holds = takes_holds xs is octets entries in (
      fields_held new (fields_of old) (current_octets old ++ xs) holds,
      in_store_alone new size none ∙ (begun_held new (fields_of old) (current_octets old ++ xs) holds
          ∙ ap (λ (ys : List ℕ). ys ++ xs) (sym (in_store_alone old size none))),
    )

-- The octets were appended to the size.
pub taken_in_size : (store : Store) (old new xs : List ℕ) → new ≡ old ++ xs → current_octets store ++ new ≡ (current_octets store ++ old) ++ xs
taken_in_size store old new xs is = ap (λ (ys : List ℕ). current_octets store ++ ys) is ∙ sym (append_assoc (current_octets store) old xs)

-- A size has capacity for the octets.
pub size_room : EachRowHasValues → {check : Option RecordPlace} {limits : Limits} {store : Store} {size : List ℕ} (k : ℕ) (head : Head)
    → IsReaderState check limits store size
    → AcceptsData (reader_view check limits store size) k → current_head check ≡ Some head → is_kept head.rec ≡ false → length size + k ≤ size_octets
size_room values {check} {limits} {store} {size} k head r (h, n, inside, other, fits) is not_kept =
    let a = inside.head in
    let same : h ≡ head = same_head h head (current_head check) (head_in check h a) is in
    let (ds, g, taken, s) = inside_in (reader_view check limits store size) h r.stands a in
    let g_is = in_begun (reader_view check limits store size) h a ds g taken s in
    let none = head_no_fault ds h (subst (AreViableSectionsWithHead ds) g_is s.alive) in
    let high = count_fits (section_after ds) (λ n. occurs n (current_datasets ds)) h a.row none a.known in
    let bound = size_row h.rec h.set a.row (kept_or_tells h.rec h.set a.row a.known other (rw (← same) at not_kept)) a.known in
    omega (arith, inside.to_come other, fits, high, bound.1, ap (λ (ys : List ℕ). length (ys ++ size)) (r.in_size head is not_kept))

-- ---- The end of a dataset.

-- The limits after the dataset.
pub within_closed : (limits : Limits) (ds : List Dataset) (h : Head) (d : Dataset) (b : Bool) → is_kept h.rec ≡ b → head_of d ≡ h
    → (is_kept h.rec ≡ true → IsWithin limits (kept_octets ds + h.count) (length (kept ds) + 1)) → IsWithin limits (kept_octets ds) (length (kept ds))
    → IsWithin limits (kept_octets (ds ++ d ∷ [])) (length (kept (ds ++ d ∷ [])))
within_closed limits ds h d true is head in_limits others =
    let more = kept_more ds d (subst (λ (k : Head). is_kept k.rec ≡ true) (sym head) is) in
    let w = in_limits is in
    let long : kept_octets (ds ++ d ∷ []) ≡ length (joined (kept ds) ++ d.octets) = ap (λ (ks : List Dataset). length (joined ks)) more
    ∙ ap (λ (xs : List ℕ). length xs) (joined_more (kept ds) d) in
    let count : length d.octets ≡ h.count = ap (λ (k : Head). k.count) head in
    record {
      octets_in = omega (arith, w.octets_in, length-append (joined (kept ds)) d.octets);
      fields_in = omega (arith, w.fields_in, ap (λ (ks : List Dataset). length ks) more, length-append (kept ds) (d ∷ []));
    }
within_closed limits ds h d false is head in_limits others =
    subst (λ (ks : List Dataset). IsWithin limits (length (joined ks)) (length ks))
    (sym (kept_other ds d (subst (λ (k : Head). is_kept k.rec ≡ false) (sym head) is))) others

-- A reader that may close its dataset has received all data of it, unless it is a subfile.
pub closes_in : {f : FieldsPlace} {g : Head} → AcceptsEnd f → current_head f.check ≡ Some g → IsInDataset f.check g × (g.rec ≢ 8 → length f.taken ≡ g.count)
closes_in {f} {g} (h, n, inside, ended) is =
    let same : h ≡ g = same_head h g (current_head f.check) (head_in f.check h inside.head) is in
    let long : h.rec ≢ 8 → length f.taken ≡ h.count = λ other. elim ended [
      | inl eight ↦ absurd (other eight)
      | inr done ↦ omega (arith, inside.to_come other, done)
    ] in
    (subst (IsInDataset f.check) same inside.head, subst (λ (k : Head). k.rec ≢ 8 → length f.taken ≡ k.count) same long)

-- A subfile ends.
pub closed_subfile : {check new : Option RecordPlace} {limits : Limits} {f : FieldsPlace} {g : Head} (store : Store) (size : List ℕ)
    → reader_view check limits store size ≡ f → IsInDataset check g → g.rec ≡ 8 → IsBetweenHeads new → ((ds : List Dataset) → HasChecked check ds
    → HasChecked new ds)
    → (ds : List Dataset) (h : Head) (taken : List ℕ) → IsReadingDataset f ds h taken → (d : Dataset) → IsDatasetOf h taken d
    → HasReadDatasets (reader_view new limits store size) (ds ++ d ∷ []) × (None ≡ encoded_number d)
closed_subfile {check} {limits = limits} {g = g} store size view a eight between on ds h taken stands d of =
    let s = rw (← view) at stands in
    let h_eight : h.rec ≡ 8 = ap (λ (k : Head). k.rec) (in_begun (reader_view check limits store size) g a ds h taken s) ∙ eight in
    let d_eight : d.rec ≡ 8 = ap (λ (k : Head). k.rec) of.head ∙ h_eight in
    let checked = on (ds ++ d ∷ []) (s.checked.subfile h_eight d of.head of.octets) in
    let same = kept_other ds d (ap is_kept d_eight) in (
      record {
        between = between;
        checked = checked;
        alive = checked.alive;
        within = subst (λ (ks : List Dataset). IsWithin limits (length (joined ks)) (length ks)) (sym same) s.others;
        kept_are = s.kept_are ∙ sym same;
        taken_are = s.taken_are ∙ s.nothing h_eight;
      },
      ap (λ (r : ℕ). cond (has_number_value r) (Some (Rattle.iim_dataset.specs.Format.Octets.number d.octets)) None) (sym d_eight),
    )

-- What was stored of a dataset that ended.
pub data Kept (old : List Dataset) (d : Dataset) (new : List Dataset) : Type 0 where
  Added : is_kept d.rec ≡ true → new ≡ old ++ d ∷ [] → Kept old d new
  Passed : is_kept d.rec ≡ false → new ≡ old → Kept old d new

pub kept_now : (ds : List Dataset) (d : Dataset) (old new : List Dataset) → old ≡ kept ds → Kept old d new → new ≡ kept (ds ++ d ∷ [])
kept_now ds d old new is (Added keeps more) = more ∙ (ap (λ (ks : List Dataset). ks ++ d ∷ []) is ∙ sym (kept_more ds d keeps))
kept_now ds d old new is (Passed passes same) = same ∙ (is ∙ sym (kept_other ds d passes))

-- The value was accepted.
pub stands_closed : {check new : Option RecordPlace} {limits : Limits} {store : Store} {size xs : List ℕ} {f : FieldsPlace} {g : Head} {number : Option ℕ}
    → (last : Store) (more : List ℕ) → IsReaderState check limits store size → reader_view check limits store size ≡ f → IsInDataset check g → g.rec ≢ 8
    → IsBetweenHeads new
    → xs ≡ current_octets store ++ size → current_octets last ++ more ≡ [] → Kept (fields_of store) (data_of g (current_octets store ++ size)) (fields_of last)
    → ((ds : List Dataset) (h : Head) → IsChecking check ds h → HasChecked new (ds ++ data_of h xs ∷ []) × (number ≡ encoded_number (data_of h xs)))
    → (ds : List Dataset) (h : Head) (taken : List ℕ) → IsReadingDataset f ds h taken → (d : Dataset) → IsDatasetOf h taken d
    → HasReadDatasets (reader_view new limits last more) (ds ++ d ∷ []) × (number ≡ encoded_number d)
stands_closed {check} {new} {limits} {store} {size} {xs} {g = g} last more r view a g_other between xs_are none keeps on ds h taken stands d of =
    let s = rw (← view) at stands in
    let same = in_begun (reader_view check limits store size) g a ds h taken s in
    let other : h.rec ≢ 8 = λ eight. g_other (ap (λ (k : Head). k.rec) (sym same) ∙ eight) in
    let one = on ds h (s.checked.checking other) in
    let head = of.head in
    let d_is : data_of h (current_octets store ++ size) ≡ d = λ i. record {
      rec = sym (ap (λ (k : Head). k.rec) head) i;
      set = sym (ap (λ (k : Head). k.set) head) i;
      octets = (s.taken_are ∙ sym (of.given other)) i;
    } in
    let x_is : data_of h xs ≡ d = ap (data_of h) xs_are ∙ d_is in
    let g_is : data_of g (current_octets store ++ size) ≡ d = ap (λ (k : Head). data_of k (current_octets store ++ size)) (sym same) ∙ d_is in
    let checked : HasChecked new (ds ++ d ∷ []) = subst (λ (x : Dataset). HasChecked new (ds ++ x ∷ [])) x_is one.0 in (
      record {
        between = between;
        checked = checked;
        alive = checked.alive;
        within = within_closed limits ds h d (is_kept h.rec) refl head s.within s.others;
        kept_are = kept_now ds d (fields_of store) (fields_of last) s.kept_are (subst (λ (x : Dataset). Kept (fields_of store) x (fields_of last)) g_is keeps);
        taken_are = none;
      },
      one.1 ∙ ap encoded_number x_is,
    )

-- The value was rejected.
pub refused_value : {check : Option RecordPlace} {limits : Limits} {store : Store} {size xs : List ℕ} {f : FieldsPlace} {g : Head} {fault : FieldFault}
    → IsReaderState check limits store size → reader_view check limits store size ≡ f → IsInDataset check g → g.rec ≢ 8 → xs ≡ current_octets store ++ size
    → ((ds : List Dataset) (h : Head) → IsChecking check ds h → IsValueFault ds (data_of h xs) fault) → (ds : List Dataset) (h : Head) (taken : List ℕ)
    → IsReadingDataset f ds h taken → IsValueFault ds (data_of h taken) fault
refused_value {check} {limits} {store} {size} {g = g} {fault} r view a g_other same on ds h taken stands =
    let s = rw (← view) at stands in
    let other : h.rec ≢ 8 = λ eight. g_other (ap (λ (k : Head). k.rec) (sym (in_begun (reader_view check limits store size) g a ds h taken s)) ∙ eight) in
    subst (λ (ys : List ℕ). IsValueFault ds (data_of h ys) fault) (same ∙ s.taken_are) (on ds h (s.checked.checking other))

-- A dataset with this head, which has these data unless it is a subfile.
data_for : (h : Head) (taken : List ℕ) → Octets taken → (h.rec ≢ 8 → length taken ≡ h.count) → (d : Dataset) × IsDatasetOf h taken d
data_for h taken fit long = elim (eqb_tells h.rec 8) [
  | inl eight ↦ let (d, is, octets) = some_data h in (d, record { head = is; octets = octets; given = λ other. absurd (other eight.1) })
  | inr other ↦
      let count = long other.1 in
      (data_of h taken, record { head = (λ i. record { rec = h.rec; set = h.set; count = count i }); octets = fit; given = λ _. refl })
]

-- Some datasets reach the state after the value.
pub somewhere_closed : {f new : FieldsPlace} {g : Head} {number : Option ℕ} → (f.check ≡ None) ⊎ IsReachedByDatasets f → IsInDataset f.check g
    → (g.rec ≢ 8 → length f.taken ≡ g.count) → ((ds : List Dataset) (h : Head) (taken : List ℕ) → IsReadingDataset f ds h taken → (d : Dataset)
    → IsDatasetOf h taken d
    → HasReadDatasets new (ds ++ d ∷ []) × (number ≡ encoded_number d)) → IsReachedByDatasets new
somewhere_closed {f} {g = g} stands a all on =
    let (ds, h, taken, s) = inside_in f g stands a in
    let same = in_begun f g a ds h taken s in
    let long : h.rec ≢ 8 → length taken ≡ h.count =
    subst (λ (k : Head). k.rec ≢ 8 → length taken ≡ k.count) (sym same) (subst (λ (ys : List ℕ). g.rec ≢ 8 → length ys ≡ g.count) s.taken_are all) in
    let d = data_for h taken s.octets long in inl (ds ++ d.0 ∷ [], (on ds h taken s d.0 d.1).0)

-- No dataset is in progress.
no_head : (check : Option RecordPlace) → IsBetweenHeads check → (h : Head) → current_head check ≡ Some h → ⊥
no_head check t h e = let clash = sym e ∙ none_between check t in cc

pub kept_in_store : (old new : Store) (size : List ℕ) (h : Head) → size ≡ [] → IsStore old → is_kept h.rec ≡ true → new.octets ≡ old.octets
    → new.entries.items ≡ old.entries.items ++ record { rec = h.rec; set = h.set; end = length old.octets.items } ∷ []
    → Kept (fields_of old) (data_of h (current_octets old ++ size)) (fields_of new) × (current_octets new ++ size ≡ [])
kept_in_store old new size h none is keeps octets entries =
    let holds = keeps_holds h.rec h.set is octets entries in (
      Added keeps (fields_held new _ [] holds ∙ ap (λ (ys : List ℕ). fields_of old ++ data_of h ys ∷ []) (sym (in_store_alone old size none))),
      in_store_alone new size none ∙ begun_held new _ [] holds,
    )

-- No dataset is in progress.
pub reading_between : {check : Option RecordPlace} {limits : Limits} {store : Store} {size : List ℕ} → StoreHasCapacity limits store → IsStore store
    → IsBetweenHeads check
    → IsReachedByDatasets (reader_view check limits store size) → IsReaderState check limits store size
reading_between {check} room is t somewhere = record {
  room = room;
  store_is = is;
  stands = inr somewhere;
  in_store = λ g e _. absurd (no_head check t g e);
  in_size = λ g e _. absurd (no_head check t g e);
}

pub reading_kept : {check after : Option RecordPlace} {limits : Limits} {old new : Store} {size : List ℕ} (h : Head) → IsReaderState check limits old size
    → IsBetweenHeads after
    → new.octets ≡ old.octets → new.entries.items ≡ old.entries.items ++ record { rec = h.rec; set = h.set; end = length old.octets.items } ∷ []
    → vec_capacity new.entries ≡ vec_capacity old.entries → IsReachedByDatasets (reader_view after limits new size) → IsReaderState after limits new size
reading_kept {limits = limits} {old} {new} h r t octets entries capacity somewhere =
    let room : StoreHasCapacity limits new = omega (arith, r.room, ap (λ v. v.room) octets, capacity) in
    reading_between room (store_is new _ [] (keeps_holds h.rec h.set r.store_is octets entries)) t somewhere

-- There is capacity for one more entry.
pub entry_room : {check : Option RecordPlace} {limits : Limits} {store : Store} {size : List ℕ} {h : Head} → IsReaderState check limits store size
    → IsInDataset check h
    → is_kept h.rec ≡ true → vec_len store.entries < vec_capacity store.entries
entry_room {check} {limits} {store} {size} {h} r a keeps =
    let (ds, g, taken, s) = inside_in (reader_view check limits store size) h r.stands a in
    let same = in_begun (reader_view check limits store size) h a ds g taken s in
    let w = s.within (ap (λ (k : Head). is_kept k.rec) same ∙ keeps) in
    let c = counts store (kept ds) (current_octets store) (holds_kept store ds r.store_is s.kept_are) in omega (arith, c.1, w.fields_in, r.room.entries)

-- ---- The current record.

pub section_in : (f : FieldsPlace) (ds : List Dataset) (h : Head) (taken : List ℕ) → IsReadingDataset f ds h taken → section_of f ≡ h.rec
section_in f ds h taken s =
    let i = s.inside.1.head in
    let d = s.alive.0 in
    let is : head_of d ≡ h = s.alive.1 in
    elim (eqb_tells h.rec 8) [
      | inl eight ↦
          let (e, e_is, octets) = some_data h in
          let c = s.checked.subfile eight.1 e e_is octets in
          ap section_at c.at ∙ (c.tells.present ∙ (present_more ds e ∙ ap (λ (k : Head). k.rec) e_is))
      | inr other ↦
          let c = s.checked.checking other.1 in
          ap section_at c.inside ∙ ((c.tells d is).present ∙ (present_more ds d ∙ ap (λ (k : Head). k.rec) is))
    ]

-- ---- The head of the dataset in progress.

pub begun_in : (f : FieldsPlace) (ds : List Dataset) (h : Head) (taken : List ℕ) → IsReadingDataset f ds h taken → current_head_of f ≡ Some h
begun_in f ds h taken s = ap current_head s.inside.1.head.inside
