-- When the datasets of a builder are complete records 1 and 2, and when a reader of records returns
-- an envelope.
use Rattle.std.proofs.Common.{arith, ◌≡◌, ℕ, Bool, true, false, nat_eq, List, [], ◌∷◌, ◌++◌, refl, ap, sym, ◌∙◌, inl, inr, subst, append-nil, Option, None, length}
use Rattle.iim_fields.proofs.Words.{all_back, eqb_tells, AllByRecursion, list_any, filter, option_or, filter-append, filter_passes, recursion_from_All, or_cases, eqb-true, Dataset, of_record, all_there, after, AreRecords, AreSections, mandatory, occurs, IsGoodDataset, IsGoodRecord, AreViableSections, last_record, section_after, is_kept, kept, missing_fault, missing_of, has_seen, IsOrderOf, end_fault, IsEnvelope, missing_field_fault, IsEnvelopeStore, IsBuilderState, fields_of, Limits, Store, RecordPlace, Order, joined, HasChecked, LastRecordHasEnded, IsBetweenHeads, HasStored, IsReaderState, reader_view, FieldFault, IsSomeAnd}
use Rattle.iim_fields.proofs.{Table.EachRowHasValues, Table.no_application_fault, Runs.part_front, Runs.part_of, Runs.records_to_come, Dies.none_missing}
use Rattle.iim_fields.proofs.{Follows.From, Follows.alive_follows, Stand.between_after, Stand.holds_after, Endings.sections_end, Endings.whole_after_nine}
use Rattle.iim_fields.proofs.Checking.{same_order}

-- ---- The datasets whose record passes a test.

abbrev those : (ℕ → Bool) → List Dataset → List Dataset
those p ds = filter (λ d. p d.rec) ds

run_lacks : (p : ℕ → Bool) (r : ℕ) (run : List Dataset) → AllByRecursion (λ d. (d.rec ≡ r) × IsGoodDataset d) run → p r ≡ false → those p run ≡ []
run_lacks p r [] h none = refl
run_lacks p r (d ∷ run) h none = rw (ap p h.0.0 ∙ none) (run_lacks p r run h.1 none)

run_has : (p : ℕ → Bool) (r : ℕ) (run : List Dataset) → AllByRecursion (λ d. (d.rec ≡ r) × IsGoodDataset d) run → p r ≡ true → those p run ≡ run
run_has p r [] h some = refl
run_has p r (d ∷ run) h some = rw (ap p h.0.0 ∙ some) (ap (λ (xs : List Dataset). d ∷ xs) (run_has p r run h.1 some))

records_lack : (p : ℕ → Bool) (rs : List ℕ) (ds : List Dataset) → AreRecords rs ds → AllByRecursion (λ r. p r ≡ false) rs → those p ds ≡ []
records_lack p [] ds none h = ap (those p) none
records_lack p (r ∷ rs) ds (run, rest, parts, good, later) h =
    rw (parts, filter-append (λ (d : Dataset). p d.rec) run rest, run_lacks p r run good.each h.0) (records_lack p rs rest later h.1)

-- ---- After record 2.

-- Record 1 is complete.
first_whole : (ds : List Dataset) → AreViableSections ds → section_after ds ≡ 2 → IsGoodRecord 1 (of_record 1 ds)
first_whole ds alive two =
    let (run, rest, parts, good, later) = (alive_follows ds alive).goes alive.0 alive.1 in
    let (r1, rest1, parts1, good1, later1) = alive.1 in
    let p : ℕ → Bool = λ r. nat_eq r 1 in
    let run_all = all_back (λ (d : Dataset). (d.rec ≡ 2) × IsGoodDataset d) (of_record 2 ds) run (rw two at good.each) in
    let none = run_lacks p 2 run run_all refl in
    let later_none = records_lack p (7 ∷ 8 ∷ 9 ∷ []) rest (rw two at later) (refl, (refl, (refl, tt))) in
    let left : those p (ds ++ alive.0) ≡ of_record 1 ds =
    rw (filter-append (λ (d : Dataset). p d.rec) ds alive.0, parts, filter-append (λ (d : Dataset). p d.rec) run rest, none, later_none, append-nil) refl in
    let none1 = records_lack p (2 ∷ 7 ∷ 8 ∷ 9 ∷ []) rest1 later1 (refl, (refl, (refl, (refl, tt)))) in
    let right : those p (r1 ++ rest1) ≡ r1 = rw (filter-append (λ (d : Dataset). p d.rec) r1 rest1, run_has p 1 r1 good1.each refl, none1, append-nil) refl in
    subst (IsGoodRecord 1) (sym right ∙ (sym (ap (those p) parts1) ∙ left)) good1

-- ---- The fault.

two_case : (ds : List Dataset) (o : Order) → AreViableSections ds → IsOrderOf o ds → section_after ds ≡ 2 → end_fault 2 (has_seen o) ≡ missing_field_fault ds
two_case ds o alive tells two =
    let whole = all_there (λ n. occurs n (of_record 1 ds)) (mandatory 1) (first_whole ds alive two).mandatory in
    let seen : (n : ℕ) → has_seen o n ≡ occurs n (of_record 2 ds) = λ n. tells.seen n ∙ ap (λ (r : ℕ). occurs n (of_record r ds)) two in
    λ i. option_or (missing_fault 1 (sym whole i)) (missing_fault 2 (missing_of 2 (λ n. seen n i)))

one_case : (ds : List Dataset) (o : Order) → ((n : ℕ) → has_seen o n ≡ occurs n (of_record 1 ds)) → of_record 2 ds ≡ []
    → option_or (missing_fault 1 (missing_of 1 (has_seen o))) (missing_fault 2 (missing_of 2 (λ _. false))) ≡ missing_field_fault ds
one_case ds o seen none = λ i. option_or (missing_fault 1 (missing_of 1 (λ n. seen n i))) (missing_fault 2 (missing_of 2 (λ n. occurs n (sym none i))))

-- The last of stored datasets is of record 1 or 2.
last_kept : (d : Dataset) (ds : List Dataset) → AllByRecursion (λ x. is_kept x.rec ≡ true) (d ∷ ds) → is_kept (last_record d.rec ds) ≡ true
last_kept d [] h = h.0
last_kept d (e ∷ ds) h = last_kept e ds h.1

all_kept : (ds : List Dataset) → kept ds ≡ ds → AllByRecursion (λ d. is_kept d.rec ≡ true) ds
all_kept ds same = subst (AllByRecursion (λ (d : Dataset). is_kept d.rec ≡ true)) same
    (recursion_from_All (λ (d : Dataset). is_kept d.rec ≡ true) (kept ds) (filter_passes (λ (d : Dataset). is_kept d.rec) ds))

pub end_fault_is : (ds : List Dataset) (o : Order) → AreViableSections ds → kept ds ≡ ds → IsOrderOf o ds → end_fault o.rec (has_seen o)
    ≡ missing_field_fault ds
end_fault_is [] o alive same tells = rw tells.present (one_case [] o tells.seen refl)
end_fault_is (d ∷ ds) o alive same tells =
    let present = section_after (d ∷ ds) in
    elim (or_cases (nat_eq present 1) (nat_eq present 2) (last_kept d ds (all_kept (d ∷ ds) same))) [
      | inl first ↦
          let one : section_after (d ∷ ds) ≡ 1 = eqb-true present 1 first in
          let none : of_record 2 (d ∷ ds) ≡ [] = (alive_follows (d ∷ ds) alive).fresh 2 (ap (λ (m : ℕ). list_any (λ x. nat_eq x 2) (after m)) one) in
          rw (tells.present, one) (one_case (d ∷ ds) o (λ n. tells.seen n ∙ ap (λ (r : ℕ). occurs n (of_record r (d ∷ ds))) one) none)
      | inr second ↦
          let two : section_after (d ∷ ds) ≡ 2 = eqb-true present 2 second in
          rw (tells.present, two) (two_case (d ∷ ds) o alive tells two)
    ]

-- ---- A complete envelope.

-- If nothing is missing, record 2 is the current one, and nothing of it is missing.
nothing_missing : (present : ℕ) (has : ℕ → Bool) → end_fault present has ≡ None → (present ≡ 2) × (missing_of 2 has ≡ None)
nothing_missing present has none =
    let some = no_application_fault in
    elim (eqb_tells present 2) [
      | inl is ↦ let here = rw is.0 at none in (is.1, grind arith)
      | inr other ↦ let here = rw other.0 at none in absurd (grind arith)
    ]

present_good : (ds : List Dataset) (o : Order) → AreViableSections ds → IsOrderOf o ds → section_after ds ≡ 2 → missing_of 2 (has_seen o) ≡ None
    → IsGoodRecord 2 (of_record 2 ds)
present_good ds o alive tells two none =
    let (run, rest, parts, good, later) = (alive_follows ds alive).goes alive.0 alive.1 in
    let part = part_front 2 (of_record 2 ds) run (part_of 2 (of_record 2 ds ++ run) (rw two at good)) in
    let seen : (n : ℕ) → occurs n (of_record 2 ds) ≡ has_seen o n = λ n. ap (λ (r : ℕ). occurs n (of_record r ds)) (sym two) ∙ sym (tells.seen n) in
    let mandatory_all = none_missing (λ n. occurs n (of_record 2 ds)) (mandatory 2) ((λ i. missing_of 2 (λ n. seen n i)) ∙ none) in
    record { each = part.each; mandatory = mandatory_all; once = part.once }

-- The stored datasets of all records are good records 1 and 2.
pub kept_of_sections : (ds : List Dataset) → AreSections ds → IsEnvelope (kept ds)
kept_of_sections ds (r1, rest1, parts1, good1, (r2, rest2, parts2, good2, later2)) =
    let none = records_lack is_kept (7 ∷ 8 ∷ 9 ∷ []) rest2 later2 (refl, (refl, (refl, tt))) in
    let own = run_has is_kept 2 r2 good2.each refl in
    let tail : kept rest1 ≡ r2 = rw (parts2, filter-append (λ (d : Dataset). is_kept d.rec) r2 rest2, own, none, append-nil) refl in
    let both : kept ds ≡ r1 ++ r2 = rw (parts1, filter-append (λ (d : Dataset). is_kept d.rec) r1 rest1, run_has is_kept 1 r1 good1.each refl, tail) refl in
    record { r1 = r1; r2 = r2; parts = both; envelope = good1; application = good2 }

split_kept : (ds rest : List Dataset) → kept ds ≡ ds → AreRecords (7 ∷ 8 ∷ 9 ∷ []) rest → AreSections (ds ++ rest) → IsEnvelope ds
split_kept ds rest same later sections =
    let none = records_lack is_kept (7 ∷ 8 ∷ 9 ∷ []) rest later (refl, (refl, (refl, tt))) in
    let left : kept (ds ++ rest) ≡ ds = rw (filter-append (λ (d : Dataset). is_kept d.rec) ds rest, none, append-nil) same in
    subst IsEnvelope left (kept_of_sections (ds ++ rest) sections)

pub finished : EachRowHasValues → (ds : List Dataset) (o : Order) → AreViableSections ds → kept ds ≡ ds → IsOrderOf o ds → end_fault o.rec (has_seen o) ≡ None
    → IsEnvelope ds
finished values ds o alive same tells none =
    let m = nothing_missing o.rec (has_seen o) none in
    let two : section_after ds ≡ 2 = sym tells.present ∙ m.0 in
    let good = present_good ds o alive tells two m.1 in
    let rest = records_to_come values (7 ∷ 8 ∷ 9 ∷ []) in
    let from : From ds rest.0 = rw two ([], rest.0, refl, rw append-nil good, rest.1) in
    split_kept ds rest.0 same rest.1 ((alive_follows ds alive).comes rest.0 from)

-- ---- The builder.

-- what a check returns as missing if records 1 and 2 end here
abbrev pub TellsEnd : Option FieldFault → Option RecordPlace → Type 0
TellsEnd told check = IsSomeAnd check (λ place. told ≡ end_fault place.order.rec (has_seen place.order))

end_at : {check : Option RecordPlace} {ds : List Dataset} {told : Option FieldFault} (s : HasChecked check ds) → TellsEnd told check
    → told ≡ end_fault s.order.rec (has_seen s.order)
end_at {told = told} s tells = subst (TellsEnd told) s.at tells

pub finish_is : {check : Option RecordPlace} {limits : Limits} {store : Store} {told : Option FieldFault} → IsBuilderState check limits store
    → TellsEnd told check → told ≡ missing_field_fault (fields_of store)
finish_is {store = store} b tells = let s = b.checked in end_at s tells ∙ end_fault_is (fields_of store) s.order s.alive b.all_kept s.tells

pub envelope_store : EachRowHasValues → {check : Option RecordPlace} {limits : Limits} {store : Store} {told : Option FieldFault}
    → IsBuilderState check limits store → TellsEnd told check → told ≡ None → IsEnvelopeStore store
envelope_store values {store = store} b tells none =
    let s = b.checked in
    record {
      few = record { datasets = omega (arith, b.room.small_fields, b.within.fields_in); octets = omega (arith, b.room.small_octets, b.within.octets_in) };
      holds = b.holds;
      envelope = finished values (fields_of store) s.order s.alive b.all_kept s.tells (sym (end_at s tells) ∙ none);
    }

-- ---- The reader.

pub whole_where_ended : (check : Option RecordPlace) (ds : List Dataset) → LastRecordHasEnded check → HasChecked check ds → AreSections ds
whole_where_ended check ds ended s =
    let last : section_after ds ≡ 9 = sym s.tells.present
    ∙ (ap (λ (o : Order). o.rec) (same_order check s.order ended.order s.begun None s.at ended.between) ∙ ended.last) in
    whole_after_nine ds s.alive last

pub ended_where_whole : (check : Option RecordPlace) (ds : List Dataset) → IsBetweenHeads check → HasChecked check ds → AreSections ds
    → LastRecordHasEnded check
ended_where_whole check ds t s sections = record {
  order = t.order;
  between = t.between;
  last = ap (λ (o : Order). o.rec) (same_order check t.order s.order None s.begun t.between s.at) ∙ (s.tells.present ∙ sections_end ds sections);
}

pub ended_store : (check : Option RecordPlace) (limits : Limits) (store : Store) (size : List ℕ) → IsReaderState check limits store size
    → LastRecordHasEnded check
    → IsEnvelopeStore store
ended_store check limits store size r ended =
    let (ds, s) = between_after (reader_view check limits store size) r.stands (record { order = ended.order; between = ended.between }) in
    let same : kept ds ≡ fields_of store = sym s.kept_are in
    record {
      few = record {
        datasets = omega (arith, r.room.small_fields, s.within.fields_in, ap (λ (ks : List Dataset). length ks) same);
        octets = omega (arith, r.room.small_octets, s.within.octets_in, ap (λ (ks : List Dataset). length (joined ks)) same);
      };
      holds = subst (λ (ks : List Dataset). HasStored store ks []) same (holds_after check limits store size ds r.store_is s);
      envelope = subst IsEnvelope same (kept_of_sections ds (whole_where_ended check ds ended s.checked));
    }
