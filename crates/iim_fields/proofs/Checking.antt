-- The state of a check of records, token by token.
use Rattle.std.proofs.Common.{set, ◌≡◌, ◌≢◌, ℕ, zero, suc, ◌<◌, ◌≤◌, Bool, true, false, ◌||◌, nat_eq, List, [], ◌∷◌, ◌++◌, length, replicate, get_or, refl, ap, sym, ◌∙◌, inl, inr, arith, subst, length-set, Option, Some, None}
use Rattle.iim_tables.specs.declared.shape.Kind.{Kind}
use Rattle.iim_fields.proofs.Words.{nat_tests, option_or, list_any-append, and_from, eqb_tells, same_Some, Octets, within, Dataset, head_of, of_record, Head, are_octets, row_of, is_admitted, Row, has_kind, records, occurs, AreViableSectionsWithHead, head_fault, record_fault, value_fault, limits_fault, section_after, current_datasets, has_seen, IsOrderOf, OrderAddsHead, data_of, encoded_number, IsBetweenHeads, AcceptsHead, ExpectsNoValue, IsInDataset, HasChecked, IsChecking, HasAcceptedHead, IsRecordFault, IsValueFault, IsRecordPlace, Order, Begun, RecordPlace, FieldFault, good_elsewhere, meets_as, DatasetsDetermineTheCheck}
use Rattle.iim_fields.proofs.{NumberSets.seen_more, Table.EachRowHasValues, Table.not_after_itself, Table.object_kind, Runs.records_to_come, Sections.some_data}
use Rattle.iim_fields.proofs.Follows.{Follows, alive_follows, fresh_next, present_more, run_more}
use Rattle.iim_fields.proofs.Telling.{head_fault_told, values_tell}
use Rattle.iim_fields.proofs.Dies.{HasNoFault, no_fault_parts, in_order_cases, head_alive, head_no_fault, head_octet, good_value, value_alive, value_no_fault}
use Rattle.std.proofs.lemmas.List.{ext_get_or}

-- ---- The numbers that occurred.

nothing_seen : (k n : ℕ) → get_or (replicate k false) n false ≡ false
nothing_seen zero n = refl
nothing_seen (suc k) zero = refl
nothing_seen (suc k) (suc n) = nothing_seen k n

pub tells_start : (o : Order) → o.rec ≡ 0 → o.seen ≡ replicate 256 false → IsOrderOf o []
tells_start o first none = record {
  places = ap (λ (xs : List Bool). length xs) none;
  present = first;
  seen = λ n. ap (λ (xs : List Bool). get_or xs n false) none ∙ nothing_seen 256 n;
}

-- A number joins those that occurred in the record of the dataset.
tells_by : (new : Order) (ds : List Dataset) (d : Dataset) (before : List Bool) → d.set < 256 → length before ≡ 256 → new.rec ≡ d.rec
    → new.seen ≡ set before d.set true → ((n : ℕ) → get_or before n false ≡ occurs n (of_record d.rec ds)) → IsOrderOf new (ds ++ d ∷ [])
tells_by new ds d before fits long rec seen told = record {
  places = ap (λ (xs : List Bool). length xs) seen ∙ (length-set before d.set true ∙ long);
  present = rec ∙ sym (present_more ds d);
  seen = λ n.
      let all = list_any-append (λ (x : Dataset). nat_eq x.set n) (of_record d.rec ds) (d ∷ []) in
      rw (seen, seen_more before d.set n (omega (arith, fits, long)), told n, run_more ds d, all) (or_last (nat_eq d.set n) (occurs n (of_record d.rec ds)));
}
  where
    or_last : (a b : Bool) → (a || b) ≡ (b || (a || false))
    or_last a b = grind arith

pub tells_more : (o new : Order) (ds : List Dataset) (d : Dataset) → Follows ds → d.set < 256
    → HasNoFault (section_after ds) (λ n. occurs n (current_datasets ds)) (head_of d) → OrderAddsHead o (head_of d) new → IsOrderOf o ds → IsOrderOf new
    (ds ++ d ∷ [])
tells_more o new ds d follows fits f takes tells = elim (in_order_cases (section_after ds) d.rec f.order) [
  | inl same ↦ tells_by new ds d o.seen fits tells.places takes.rec (takes.same (same ∙ sym tells.present))
      (λ n. tells.seen n ∙ ap (λ (r : ℕ). occurs n (of_record r ds)) (sym same))
  | inr next ↦
      let other : d.rec ≢ o.rec = λ same. not_after_itself (section_after ds) d.rec next (sym (same ∙ tells.present)) in
      tells_by new ds d (replicate 256 false) fits refl takes.rec (takes.next other)
      (λ n. nothing_seen 256 n ∙ ap (occurs n) (sym (fresh_next ds d follows next)))
]

-- The fault by the state is the fault by the datasets.
pub record_fault_is : (o : Order) (ds : List Dataset) (h : Head) → IsOrderOf o ds → head_fault o.rec (has_seen o) h ≡ record_fault ds h
record_fault_is o ds h tells = λ i. head_fault (tells.present i) (λ n. tells.seen n i) h

-- The count of a head without a fault is within its row.
pub count_fits : (present : ℕ) (has : ℕ → Bool) (h : Head) (row : Row) → head_fault present has h ≡ None → row_of h.rec h.set ≡ Some row → h.count ≤ row.max
count_fits present has h row none known =
    let f = no_fault_parts present has h none in
    let same : f.row ≡ row = cc (sym f.known ∙ known) in
    let fits = rw same at f.fits in grind (arith, nat_tests)

-- ---- Octets.

-- Subfiles have no fault.
subfile_value : (ds : List Dataset) (d : Dataset) → AreViableSectionsWithHead ds (head_of d) → d.rec ≡ 8 → Octets d.octets → value_fault d ≡ None
subfile_value ds d at eight octets =
    let f = no_fault_parts (section_after ds) (λ n. occurs n (current_datasets ds)) (head_of d) (head_no_fault ds (head_of d) at) in
    let kind = object_kind d.set f.row (subst (λ (r : ℕ). row_of r d.set ≡ Some f.row) eight f.known) in
    let any : is_admitted f.row d.octets ≡ true =
    and_from (within f.row.min f.row.max (length d.octets)) (has_kind f.row.kind d.octets) f.fits (ap (λ (k : Kind). has_kind k d.octets) kind) in
    good_value d (good_elsewhere (ap (λ (r : ℕ). nat_eq r 1) eight) (head_octet ds (head_of d) at) octets (meets_as d.rec d.set f.row d.octets f.known any))

-- ---- The start.

pub checked_start : EachRowHasValues → (o : Order) → o.rec ≡ 0 → o.seen ≡ replicate 256 false → HasChecked (Some (record { order = o; begun = None })) []
checked_start values o first none =
    record { order = o; begun = None; at = refl; none = tt; alive = records_to_come values records; tells = tells_start o first none }

-- ---- States.

-- The order is that of the datasets.
pub told_at : (place : RecordPlace) (ds : List Dataset) → HasChecked (Some place) ds → IsOrderOf place.order ds
told_at place ds s =
    let same = same_Some place (record { order = s.order; begun = s.begun }) s.at in subst (λ (p : RecordPlace). IsOrderOf p.order ds) (sym same) s.tells

-- The dataset in progress is determined.
pub one_begun : (check : Option RecordPlace) (o p : Order) (a b : Option Begun) → check ≡ Some (record {
  order = o;
  begun = a;
}) → check ≡ Some (record { order = p; begun = b }) → a ≡ b
one_begun check o p a b e f = ap (λ (p : RecordPlace). p.begun) (same_Some {A = RecordPlace} (record {
  order = o;
  begun = a;
}) (record { order = p; begun = b }) (sym e ∙ f))

-- The order is determined.
pub same_order : (check : Option RecordPlace) (o p : Order) (a b : Option Begun) → check ≡ Some (record {
  order = o;
  begun = a;
}) → check ≡ Some (record { order = p; begun = b }) → o ≡ p
same_order check o p a b e f = ap (λ (p : RecordPlace). p.order) (same_Some {A = RecordPlace} (record {
  order = o;
  begun = a;
}) (record { order = p; begun = b }) (sym e ∙ f))

-- Between datasets none is in progress.
pub none_begun : (place : RecordPlace) → IsBetweenHeads (Some place) → place.begun ≡ None
none_begun place b = ap (λ (p : RecordPlace). p.begun) (same_Some place (record { order = b.order; begun = None }) b.between)

-- A check that expects no value has no dataset in progress that needs one.
pub not_both : (check : Option RecordPlace) (o p : Order) (a : Option Begun) (begun : Begun) → check ≡ Some (record { order = o; begun = a }) → ExpectsNoValue a
    → check ≡ Some (record { order = p; begun = Some begun }) → begun.head.rec ≢ 8 → ⊥
not_both check o p a begun e none f other = other (subst ExpectsNoValue (one_begun check o p a (Some begun) e f) none)

-- ---- A head.

-- A head without a fault in the state has none after the datasets.
clear_after : (old : RecordPlace) (h : Head) → head_fault old.order.rec (has_seen old.order) h ≡ None → (ds : List Dataset) → HasChecked (Some old) ds
    → record_fault ds h ≡ None
clear_after old h none ds s = sym (record_fault_is old.order ds h (told_at old ds s)) ∙ none

-- The new order is that of the datasets, and of one more with the head that was added.
tells_headed : (old new : RecordPlace) (h : Head) → h.set < 256 → OrderAddsHead old.order h new.order → (ds : List Dataset) → HasChecked (Some old) ds
    → record_fault ds h ≡ None → (d : Dataset) → head_of d ≡ h → IsOrderOf new.order (ds ++ d ∷ [])
tells_headed old new h small adds ds s clear d is =
    subst (λ (k : Head). k.set < 256 → OrderAddsHead old.order k new.order → record_fault ds k ≡ None → IsOrderOf new.order (ds ++ d ∷ [])) is
    (λ fits takes none. tells_more old.order new.order ds d (alive_follows ds s.alive) fits
    (no_fault_parts (section_after ds) (λ n. occurs n (current_datasets ds)) (head_of d) none) takes (told_at old ds s)) small adds clear

-- A complete dataset was accepted, and no value is expected.
pub checked_more : EachRowHasValues → (old new : RecordPlace) (h : Head) (begun : Option Begun) → new.begun ≡ begun → ExpectsNoValue begun → h.set < 256
    → OrderAddsHead old.order h new.order → head_fault old.order.rec (has_seen old.order) h ≡ None → (ds : List Dataset) → HasChecked (Some old) ds
    → (d : Dataset) → head_of d ≡ h → Octets d.octets → (h.rec ≢ 8 → value_fault d ≡ None) → HasChecked (Some new) (ds ++ d ∷ [])
checked_more values old new h begun begun_is no_value small adds none ds s d is octets fine =
    let clear = clear_after old h none ds s in
    let at : AreViableSectionsWithHead ds (head_of d) = subst (AreViableSectionsWithHead ds) (sym is) (head_alive values ds h s.alive small clear) in
    let fine_too : value_fault d ≡ None = elim (eqb_tells h.rec 8) [
      | inl eight ↦ subfile_value ds d at (ap (λ (k : Head). k.rec) is ∙ eight.1) octets
      | inr other ↦ fine other.1
    ] in
    record {
      order = new.order;
      begun = begun;
      at = (λ i. Some (record { order = new.order; begun = begun_is i }));
      none = no_value;
      alive = value_alive values ds d at octets fine_too;
      tells = tells_headed old new h small adds ds s clear d is;
    }

-- The head was accepted.
pub taken_by : EachRowHasValues → (old new : RecordPlace) (h : Head) (row : Row) → h.set < 256 → OrderAddsHead old.order h new.order
    → new.begun ≡ Some (record { head = h; row = row }) → row_of h.rec h.set ≡ Some row → head_fault old.order.rec (has_seen old.order) h ≡ None
    → (ds : List Dataset) → HasChecked (Some old) ds → HasAcceptedHead (Some new) ds h
taken_by values old new h row small adds begun known none ds s =
    let clear = clear_after old h none ds s in
    record {
      checking = λ other. record {
        order = new.order;
        row = row;
        inside = (λ i. Some (record { order = new.order; begun = begun i }));
        known = known;
        value = other;
        alive = head_alive values ds h s.alive small clear;
        tells = tells_headed old new h small adds ds s clear;
      };
      subfile = λ eight d is octets.
          checked_more values old new h (Some (record { head = h; row = row })) begun eight small adds none ds s d is octets (λ other. absurd (other eight));
    }

-- The head has this fault.
pub record_fault_by : (old : RecordPlace) (h : Head) (fault : FieldFault) → head_fault old.order.rec (has_seen old.order) h ≡ Some fault → (ds : List Dataset)
    → HasChecked (Some old) ds → IsRecordFault ds h fault
record_fault_by old h fault some ds s =
    let first : record_fault ds h ≡ Some fault = sym (record_fault_is old.order ds h (told_at old ds s)) ∙ some in
    record {
      first = first;
      lowest = λ limits. head_fault_told limits ds h fault (ap (λ (o : Option FieldFault). option_or o (limits_fault limits ds h)) first);
      dead = λ alive. let none = head_no_fault ds h alive in cc;
    }

-- If some datasets reach the state, some datasets with the head reach the next state.
pub place_headed : (old new : RecordPlace) (h : Head) → AcceptsHead (Some old) → IsRecordPlace old
    → ((ds : List Dataset) → HasChecked (Some old) ds → HasAcceptedHead (Some new) ds h) → IsRecordPlace new
place_headed old new h takes (inl (ds, s)) on = elim (eqb_tells h.rec 8) [
  | inl eight ↦ let (d, is, octets) = some_data h in inl (ds ++ d ∷ [], (on ds s).subfile eight.1 d is octets)
  | inr other ↦ inr (ds, h, (on ds s).checking other.1)
]
place_headed old new h takes (inr (ds, g, s)) on = absurd (not_both (Some old) takes.order s.order takes.begun (record {
  head = g;
  row = s.row;
}) takes.at takes.none s.inside s.value)

-- If some datasets reach the state, some datasets with a complete one more reach the next state, or
-- the state is the same.
pub place_led : (old new : RecordPlace) (taken : Bool) (d : Dataset) → IsBetweenHeads (Some old) → IsRecordPlace old
    → (taken ≡ true → (ds : List Dataset) → HasChecked (Some old) ds → HasChecked (Some new) (ds ++ d ∷ [])) → (taken ≡ false → new ≡ old)
    → IsRecordPlace new
place_led old new true d between (inl (ds, s)) took left = inl (ds ++ d ∷ [], took refl ds s)
place_led old new true d between (inr (ds, g, s)) took left =
    absurd (not_both (Some old) between.order s.order None (record { head = g; row = s.row }) between.between tt s.inside s.value)
place_led old new false d between is took left = subst IsRecordPlace (sym (left refl)) is

-- The state with another dataset in progress, after the same datasets.
pub checked_as : {old new : Option RecordPlace} (order : Order) (before after : Option Begun) → old ≡ Some (record { order = order; begun = before })
    → new ≡ Some (record { order = order; begun = after }) → ExpectsNoValue after → (ds : List Dataset) → HasChecked old ds → HasChecked new ds
checked_as {old} order before after old_is new_is none ds s = record {
  order = order;
  begun = after;
  at = new_is;
  none = none;
  alive = s.alive;
  tells = subst (λ (o : Order). IsOrderOf o ds) (same_order old s.order order s.begun before s.at old_is) s.tells;
}

-- ---- A value.

-- The check expects the value of one dataset.
pub one_awaited : (place : RecordPlace) (begun : Begun) → place.begun ≡ Some begun → (o : Order) (h : Head) (row : Row)
    → Some place ≡ Some (record { order = o; begun = Some (record { head = h; row = row }) }) → (place.order ≡ o) × (begun ≡ record { head = h; row = row })
one_awaited place begun is o h row e =
    let same = same_Some place (record { order = o; begun = Some (record { head = h; row = row }) }) e in
    (ap (λ (p : RecordPlace). p.order) same, same_Some begun (record { head = h; row = row }) (sym is ∙ ap (λ (p : RecordPlace). p.begun) same))

pub checked_value : EachRowHasValues → (old new : RecordPlace) (begun : Begun) (xs : List ℕ) (number : Option ℕ) → old.begun ≡ Some begun
    → new.order ≡ old.order → new.begun ≡ None
    → begun.head.count ≡ length xs → ((i : ℕ) → get_or xs i 0 < 256) → value_fault (data_of begun.head xs) ≡ None → number ≡ encoded_number
    (data_of begun.head xs)
    → (ds : List Dataset) (h : Head) → IsChecking (Some old) ds h → HasChecked (Some new) (ds ++ data_of h xs ∷ []) × (number ≡ encoded_number (data_of h xs))
checked_value values old new begun xs number is order none count small fine told ds h s =
    let one = one_awaited old begun is s.order h s.row s.inside in
    let head : begun.head ≡ h = ap (λ (b : Begun). b.head) one.1 in
    let counted : length xs ≡ h.count = sym count ∙ ap (λ (k : Head). k.count) head in
    let at : head_of (data_of h xs) ≡ h = λ i. record { rec = h.rec; set = h.set; count = counted i } in (
      record {
        order = s.order;
        begun = None;
        at = λ i. Some (record { order = (order ∙ one.0) i; begun = none i });
        none = tt;
        alive = value_alive values ds (data_of h xs) (subst (AreViableSectionsWithHead ds) (sym at) s.alive) (are_octets xs small)
            (subst (λ (k : Head). value_fault (data_of k xs) ≡ None) head fine);
        tells = s.tells (data_of h xs) at;
      },
      told ∙ ap (λ (k : Head). encoded_number (data_of k xs)) head,
    )

pub value_fault_by : (old : RecordPlace) (begun : Begun) (xs : List ℕ) (fault : FieldFault) → old.begun ≡ Some begun
    → value_fault (data_of begun.head xs) ≡ Some fault → (ds : List Dataset) (h : Head) → IsChecking (Some old) ds h → IsValueFault ds (data_of h xs) fault
value_fault_by old begun xs fault is some ds h s =
    let one = one_awaited old begun is s.order h s.row s.inside in
    let here : value_fault (data_of h xs) ≡ Some fault = subst (λ (k : Head). value_fault (data_of k xs) ≡ Some fault) (ap (λ (b : Begun). b.head) one.1)
    some in
    record {
      value = s.value;
      first = here;
      lowest = λ limits. ((values_tell limits ds (data_of h xs)).0 fault).0 here;
      dead = λ alive. let none = value_no_fault ds (data_of h xs) alive in cc;
    }

-- The head whose value is expected is that of the dataset in progress.
pub awaited_count : (place : RecordPlace) (begun : Begun) → place.begun ≡ Some begun → (h : Head) → IsInDataset (Some place) h → begun.head.count ≡ h.count
awaited_count place begun is h s = ap (λ (b : Begun). b.head.count) (one_awaited place begun is s.order h s.row s.inside).1

-- ---- Datasets determine the state.

-- Datasets determine the order.
one_order : (o p : Order) (ds : List Dataset) → IsOrderOf o ds → IsOrderOf p ds → o ≡ p
one_order o p ds s t =
    let seen : o.seen ≡ p.seen = ext_get_or false o.seen p.seen (s.places ∙ sym t.places) (λ n _. s.seen n ∙ sym (t.seen n)) in
    let rec_is : o.rec ≡ p.rec = s.present ∙ sym t.present in
    λ i. record { rec = rec_is i; seen = seen i }

between_one : (a b : Option RecordPlace) (ds : List Dataset) → IsBetweenHeads a → IsBetweenHeads b → HasChecked a ds → HasChecked b ds → a ≡ b
between_one a b ds i j s t =
    let same : i.order ≡ j.order = same_order a i.order s.order None s.begun i.between s.at
    ∙ (one_order s.order t.order ds s.tells t.tells ∙ sym (same_order b j.order t.order None t.begun j.between t.at)) in
    i.between ∙ ((λ k. Some (record { order = same k; begun = None })) ∙ sym j.between)

checking_one : (a b : Option RecordPlace) (ds : List Dataset) (h : Head) → IsChecking a ds h → IsChecking b ds h → a ≡ b
checking_one a b ds h s t =
    let d : Dataset = record { rec = h.rec; set = h.set; octets = s.alive.0.octets } in
    let is : head_of s.alive.0 ≡ h = s.alive.1 in
    let same : s.order ≡ t.order = one_order s.order t.order (ds ++ s.alive.0 ∷ []) (s.tells s.alive.0 is) (t.tells s.alive.0 is) in
    let both : Some s.row ≡ Some t.row = sym s.known ∙ t.known in
    let row : s.row ≡ t.row = cc both in
    s.inside ∙ ((λ k. Some (record { order = same k; begun = Some (record { head = h; row = row k }) })) ∙ sym t.inside)

pub one_place : DatasetsDetermineTheCheck
one_place = (between_one, checking_one)
