-- A complete subfile: when its head may come next, and which state it reaches.
use Rattle.std.proofs.Common.{◌≡◌, ℕ, Bool, true, false, ◌&&◌, ◌||◌, nat_eq, nat_le, List, [], ◌∷◌, ◌++◌, length, Option, Some, None, refl, ap, sym, ◌∙◌, inl, arith}
use Rattle.iim_fields.proofs.Words.{IsBetweenHeads, FieldsPlace, limits_of, kept, nat_tests, vec_len, is_none, option_or, Dataset, Head, table, row_of, head_fault, record_fault, first_fault, row_fault, is_kept, kept_octets, HasChecked, HasReadDatasets, AcceptedSubfile, reader_view, IsReaderState, Limits, FieldFault, Store, Begun, RecordPlace, HasAcceptedHead, IsInDataset, Octets, greatest_size, head_of, missing_of, occurs, section_after, current_datasets}
use Rattle.iim_fields.proofs.{Sections.one_of, Sections.some_data, Dies.no_fault_parts, Wholes.no_limit, Wholes.none_where, Checking.checked_as}
use Rattle.iim_fields.proofs.Stand.{between_after, stands_in, closed_subfile, reading_between}

-- ---- When its head may come next.

-- the number is that of a subfile, and the count at most the greatest size
abbrev counts_subfile : ℕ → ℕ → Bool
counts_subfile set count = nat_eq set 10 && nat_le count greatest_size

-- record 8 is the current one; or record 7 is, and nothing of it is missing
abbrev may_follow : ℕ → (ℕ → Bool) → Bool
may_follow p has = nat_eq p 8 || (nat_eq p 7 && is_none (missing_of 7 has))

row_admits : (again : Bool) (set count : ℕ) → is_none (row_fault again (row_of 8 set) (record { rec = 8; set = set; count = count })) ≡ counts_subfile set count
unfolding row_of table
row_admits again set count =
    one_of (λ s. is_none (row_fault again (row_of 8 s) (record { rec = 8; set = s; count = count })) ≡ counts_subfile s count) set (10 ∷ [])
    (grind (arith, nat_tests), tt) (λ not. rw (not.0.0, not.0.1) refl)

-- A subfile may come next exactly in record 8, or after a complete record 7.
admitted_at : (p : ℕ) (has : ℕ → Bool) (set count : ℕ)
    → (counts_subfile set count && may_follow p has) ≡ is_none (head_fault p has (record { rec = 8; set = set; count = count }))
admitted_at p has set count =
    one_of (λ q. (counts_subfile set count && may_follow q has) ≡ is_none (head_fault q has (record { rec = 8; set = set; count = count }))) p
    (8 ∷ 7 ∷ 0 ∷ 1 ∷ 2 ∷ 9 ∷ [])
    (grind (arith, row_admits (has set) set count), (grind (arith, row_admits false set count), (grind arith, (grind arith, (grind arith, (grind arith, tt))))))
    (λ not. rw (not.0.0, not.0.1, not.1.0.1, not.1.1.0.1, not.1.1.1.0.1, not.1.1.1.1.0.1, not.1.1.1.1.1.0.1) (grind arith))

pub subfile_admitted : (p : ℕ) (has : ℕ → Bool) (h : Head) → h.rec ≡ 8
    → ((nat_eq h.set 10 && nat_le h.count greatest_size) && (nat_eq p 8 || (nat_eq p 7 && is_none (missing_of 7 has)))) ≡ is_none (head_fault p has h)
subfile_admitted p has h eight = admitted_at p has h.set h.count ∙ (λ i. is_none (head_fault p has (record {
  rec = sym eight i;
  set = h.set;
  count = h.count;
})))

-- ---- The records.

-- a complete subfile with this head takes one check to the other
abbrev pub Leads : Option RecordPlace → Head → Option RecordPlace → Type 0
Leads old h new = (ds : List Dataset) → HasChecked old ds → (d : Dataset) → head_of d ≡ h → Octets d.octets → HasChecked new (ds ++ d ∷ [])

pub fields_exactly : {check : Option RecordPlace} {limits : Limits} {store : Store} {size : List ℕ} {f : FieldsPlace} {b : Bool} (h : Head)
    → IsReaderState check limits store size → reader_view check limits store size ≡ f → h.rec ≡ 8
    → ((ds : List Dataset) → HasChecked check ds → b ≡ is_none (record_fault ds h)) → (ds : List Dataset) → HasReadDatasets f ds
    → b ≡ is_none (first_fault (limits_of f) ds h)
fields_exactly {limits = limits} h r view eight exactly ds s =
    let none = no_limit limits (kept_octets ds) (length (kept ds)) h (ap is_kept eight) in
    rw (← view) (exactly ds (rw (← view) at s).checked ∙ rw none (or_nothing (record_fault ds h)))
  where
    or_nothing : (r : Option FieldFault) → is_none r ≡ is_none (option_or r None)
    or_nothing r = grind arith

-- In the subfile, the order of the check is that of the state after it.
pub fields_pass : {check new : Option RecordPlace} {limits : Limits} {store : Store} {size : List ℕ} {f : FieldsPlace} {h : Head} {b : Bool}
    → IsReaderState check limits store size → reader_view check limits store size ≡ f → IsBetweenHeads f.check
    → ((ds : List Dataset) → HasChecked check ds → b ≡ is_none (record_fault ds h)) → b ≡ true → Leads check h new → IsBetweenHeads new → h.rec ≡ 8
    → AcceptedSubfile f h (reader_view new limits store size)
fields_pass {check} {new} {limits} {store} {size} {h = h} r view between exactly taken leads next eight =
    let (ds, s) = between_after (reader_view check limits store size) r.stands (rw (← view) at between) in
    let parts = no_fault_parts (section_after ds) (λ n. occurs n (current_datasets ds)) h (none_where _ (sym (exactly ds s.checked) ∙ taken)) in
    let begun : Option Begun = Some (record { head = h; row = parts.row }) in
    let mid : Option RecordPlace = Some (record { order = next.order; begun = begun }) in
    let inside : IsInDataset mid h = record { order = next.order; row = parts.row; inside = refl; known = parts.known } in
    let begins : (es : List Dataset) → HasChecked check es → HasAcceptedHead mid es h = λ es t. record {
      checking = λ other. absurd (other eight);
      subfile = λ _ d is octets. checked_as next.order None begun next.between refl eight (es ++ d ∷ []) (leads es t d is octets);
    } in
    record {
      inside = reader_view mid limits store size;
      head = refl;
      limits = ap limits_of view;
      begins = stands_in _ _ r view inside begins refl refl (sym (no_limit limits (length store.octets.items) (vec_len store.entries) h (ap is_kept eight)));
      closes = closed_subfile store size refl inside eight next (checked_as next.order begun None refl next.between tt);
    }

pub fields_reading : {check new : Option RecordPlace} {limits : Limits} {store : Store} {size : List ℕ} {h : Head} (b : Bool)
    → IsReaderState check limits store size → IsBetweenHeads check → ((ds : List Dataset) → HasChecked check ds → b ≡ is_none (record_fault ds h))
    → (b ≡ true → Leads check h new) → (b ≡ false → new ≡ check) → IsBetweenHeads new → h.rec ≡ 8 → IsReaderState new limits store size
fields_reading {check} {new} {limits} {store} {size} {h} true r between exactly took left next eight =
    let (ds, s) = between_after (reader_view check limits store size) r.stands between in
    let (d, is, octets) = some_data h in
    let passes = fields_pass r refl between exactly refl (took refl) next eight in
    reading_between r.room r.store_is next
    (inl (ds ++ d ∷ [], (passes.closes ds h [] (passes.begins ds s) d (record { head = is; octets = octets; given = λ other. absurd (other eight) })).0))
fields_reading false r between exactly took left next eight = rw (left refl) r
