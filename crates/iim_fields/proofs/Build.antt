-- What a builder stores.
use Rattle.std.proofs.Common.{◌≡◌, ℕ, Bool, true, not, cond, List, [], ◌∷◌, ◌++◌, length, ap, sym, ◌∙◌, arith, subst, length-append, Option, Some, None}
use Rattle.iim_fields.proofs.Words.{BuilderView, store_room, vec_len, option_or, Dataset, head_of, record_fault, limits_fault, room_fault, value_fault, first_fault, is_kept, kept, joined, fault_on, HasChecked, IsChecking, HasAcceptedHead, HasStored, fields_of, IsBuilderState, added_field_fault, Limits, Store, FieldFault, RecordOrder, RecordPlace, StoreHasCapacity}
use Rattle.iim_fields.proofs.Stand.{fields_held, joined_more, kept_more, kept_not_object, counts, room_fault_is, room_within}
use Rattle.iim_fields.proofs.Dies.{head_no_fault}

-- the view of a builder with these limits and this store
abbrev pub building_of : Limits → Store → BuilderView
building_of limits store = record { limits = limits; fields = fields_of store; room = store_room store }

-- The fault of a dataset whose record is stored.
pub add_fault_of : (limits : Limits) (ds : List Dataset) (d : Dataset) → is_kept d.rec ≡ true
    → added_field_fault limits ds d ≡ option_or (option_or (record_fault ds (head_of d)) (limits_fault limits ds (head_of d))) (value_fault d)
add_fault_of limits ds d is = ap (λ (b : Bool). cond (not b) (Some (fault_on (head_of d) RecordOrder))
    (option_or (first_fault limits ds (head_of d)) (value_fault d))) is

-- ---- A dataset that is added.

-- A copy of the check has accepted the head, and checks the value next.
pub checking_of : {check copied after : Option RecordPlace} {limits : Limits} {store : Store} (d : Dataset) → IsBuilderState check limits store
    → is_kept d.rec ≡ true
    → copied ≡ check → ((ds : List Dataset) → HasChecked copied ds → HasAcceptedHead after ds (head_of d)) → IsChecking after (fields_of store) (head_of d)
checking_of {store = store} d building keeps same took = (took (fields_of store) (rw same building.checked)).checking (kept_not_object d.rec keeps)

-- The fault is that of the limits, or else of the value.
pub added_as : {check copied after : Option RecordPlace} {limits : Limits} {store : Store} {b : BuilderView} (octets fields : ℕ) (o : Option FieldFault)
    → (d : Dataset) → IsBuilderState check limits store → building_of limits store ≡ b → is_kept d.rec ≡ true → copied ≡ check
    → ((ds : List Dataset) → HasChecked copied ds → HasAcceptedHead after ds (head_of d)) → octets ≡ length store.octets.items → fields ≡ vec_len store.entries
    → o ≡ room_fault limits octets fields (head_of d) → added_field_fault b.limits b.fields d ≡ option_or o (value_fault d)
added_as {limits = limits} {store = store} octets fields o d building view keeps same took long count is =
    let ds = fields_of store in
    let none : record_fault ds (head_of d) ≡ None = head_no_fault ds (head_of d) (checking_of d building keeps same took).alive in
    let holds = subst (λ (ks : List Dataset). HasStored store ks []) (sym building.all_kept) building.holds in
    let room : limits_fault limits ds (head_of d) ≡ o =
    sym (room_fault_is limits store ds (head_of d) holds) ∙ ((λ i. room_fault limits (sym long i) (sym count i) (head_of d)) ∙ sym is) in
    rw (← view) (add_fault_of limits ds d keeps ∙ (λ i. option_or (option_or (none i) (room i)) (value_fault d)))

pub building_more : {check last : Option RecordPlace} {limits : Limits} {old new : Store} (octets fields : ℕ) (d : Dataset) → IsBuilderState check limits old
    → is_kept d.rec ≡ true → octets ≡ length old.octets.items → fields ≡ vec_len old.entries → None ≡ room_fault limits octets fields (head_of d)
    → HasChecked last (fields_of old ++ d ∷ []) → StoreHasCapacity limits new → HasStored new (fields_of old ++ d ∷ []) [] → IsBuilderState last limits new
building_more {last = last} {limits} {old} {new} octets fields d b is long count none checked room holds =
    let ds = fields_of old in
    let more = fields_held new (ds ++ d ∷ []) [] holds in
    let c = counts old ds [] b.holds in
    let w = room_within limits octets fields (head_of d) (sym none) is in
    let octets_are = ap (λ (ks : List Dataset). length (joined ks)) more in
    let all = ap (λ (xs : List ℕ). length xs) (joined_more ds d) in
    record {
      room = room;
      checked = rw more checked;
      within = record {
        octets_in = omega (arith, w.0, c.0, long, octets_are, all, length-append (joined ds) d.octets);
        fields_in = omega (arith, w.1, c.1, count, ap (λ (ks : List Dataset). length ks) more, length-append ds (d ∷ []));
      };
      holds = subst (λ (ks : List Dataset). HasStored new ks []) (sym more) holds;
      all_kept = ap kept more ∙ (kept_more ds d is ∙ (ap (λ (ks : List Dataset). ks ++ d ∷ []) b.all_kept ∙ sym more));
    }
