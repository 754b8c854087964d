-- Datasets are no longer a viable prefix exactly if there is a fault.
use Rattle.std.proofs.Common.{◌≡◌, ℕ, ◌+◌, ◌⊎◌, Bool, true, false, not, ◌&&◌, cond, nat_eq, List, [], ◌∷◌, ◌++◌, length, refl, ap, sym, ◌∙◌, inl, inr, arith, subst, append_assoc, Option, Some, None}
use Rattle.iim_fields.proofs.Words.{of_record, IsSomeAnd, IsTrue, AllByRecursion, find, and_parts, or_cases, eqb-true, eq-eqb, IsOctet, Octets, within, Dataset, head_of, Head, all_there, has_kind, row_of, is_admitted, Row, after, mandatory, repeats, occurs, occurrences, has_file_format, IsGoodDataset, IsGoodRecord, AreViableSections, AreViableSectionsWithHead, section_after, current_datasets, is_first, is_in_order, fault_on, missing_of, head_fault, record_fault, fault_by_row, value_fault, BadValue, FileFormat, repeats_as, meets_as, occurrences_append, some_counts, all_back, false_from_ne_true, cases_Bool, ne_eqb, nat_tests, occurrences_cons}
use Rattle.iim_fields.proofs.Table.{passed, passes, EachRowHasValues, next_of, not_after_itself, not_record0, value_for}
use Rattle.iim_fields.proofs.Sections.{front_alive}
use Rattle.iim_fields.proofs.Runs.{IsPart, part_front, part_of, part_more, no_part, part_completes, records_to_come, MayCome}
use Rattle.iim_fields.proofs.Follows.{From, FromRun, Follows, MayStand, alive_follows, cons_from, fresh_next, from_cons, from_less, from_more, run_more}

-- ---- What a head without a fault has.

pub record HasNoFault (present : ℕ) (has : ℕ → Bool) (h : Head) : Type 0 where
  pub order : is_in_order present h.rec ≡ true
  pub row : Row
  pub known : row_of h.rec h.set ≡ Some row
  pub once : ((nat_eq h.rec present && has h.set) && not row.repeats) ≡ false
  pub fits : within row.min row.max h.count ≡ true
  pub whole : is_first h.rec (after present) ≡ true → missing_of present has ≡ None

parts_by : (present : ℕ) (has : ℕ → Bool) (h : Head) (o : Option Row) → row_of h.rec h.set ≡ o → head_fault present has h ≡ None → HasNoFault present has h
parts_by present has h None known none = let shown = rw known at none in absurd (grind arith)
parts_by present has h (Some row) known none =
    let shown = rw known at none in
    record { order = grind arith; row = row; known = known; once = grind arith; fits = grind arith; whole = λ first. grind arith }

pub no_fault_parts : (present : ℕ) (has : ℕ → Bool) (h : Head) → head_fault present has h ≡ None → HasNoFault present has h
no_fault_parts present has h none = parts_by present has h (row_of h.rec h.set) refl none

pub no_fault_built : (present : ℕ) (has : ℕ → Bool) (h : Head) → HasNoFault present has h → head_fault present has h ≡ None
no_fault_built present has h f = let whole = f.whole in rw (f.order, f.known, f.once, f.fits) (grind arith)

-- ---- What is missing.

pub none_missing : (has : ℕ → Bool) (ns : List ℕ) → find (λ n. not (has n)) ns ≡ None → AllByRecursion (λ n. has n ≡ true) ns
none_missing has [] h = tt
none_missing has (n ∷ ns) h =
    let parts = passed (has n) n (find (λ m. not (has m)) ns) h in (parts.0, none_missing has ns parts.1)

-- ---- The order.

pub next_is : (present r : ℕ) → is_first r (after present) ≡ true → after present ≡ r ∷ after r
next_is present r h = elim (next_of present) [
  | inl none ↦ absurd (let bad = rw none at h in cc)
  | inr n ↦ let same = eqb-true r n.0 (rw n.1 at h) in subst (λ (q : ℕ). after present ≡ q ∷ after q) (sym same) n.1
]

pub in_order_cases : (present r : ℕ) → is_in_order present r ≡ true → (r ≡ present) ⊎ (after present ≡ r ∷ after r)
in_order_cases present r h = elim (or_cases (nat_eq r present && not (nat_eq r 0)) (is_first r (after present)) h) [
  | inl same ↦ inl (eqb-true r present (and_parts (nat_eq r present) (not (nat_eq r 0)) same).0)
  | inr first ↦ inr (next_is present r first)
]

is_first_of : (present r : ℕ) → after present ≡ r ∷ after r → is_first r (after present) ≡ true
is_first_of present r e = ap (is_first r) e ∙ eq-eqb r r refl

-- ---- No fault in a viable prefix.

-- the row that good data meet
abbrev MeetsRow : Option Row → List ℕ → Type 0
MeetsRow o xs = (row : Row) × (o ≡ Some row) × (within row.min row.max (length xs) ≡ true) × (is_admitted row xs ≡ true)

meets_row : (o : Option Row) (xs : List ℕ) → IsSomeAnd o (λ r. IsTrue (is_admitted r xs)) → MeetsRow o xs
meets_row None xs h = absurd h
meets_row (Some row) xs h = (row, refl, (and_parts (within row.min row.max (length xs)) (has_kind row.kind xs) h).0, h)

-- A dataset that does not repeat has not occurred before.
not_before : (r : ℕ) (xs : List Dataset) (d : Dataset) (ys : List Dataset) → IsGoodRecord r (xs ++ d ∷ ys) → repeats r d.set ≡ false → occurs d.set xs ≡ false
not_before r xs d ys good single =
    let most = good.once d.set single in
    let sum = occurrences_append d.set xs (d ∷ ys) in
    let one : occurrences d.set (d ∷ ys) ≡ 1 + occurrences d.set ys =
    occurrences_cons d.set d ys ∙ ap (λ (b : Bool). cond b 1 0 + occurrences d.set ys) (eq-eqb d.set d.set refl) in
    false_from_ne_true (occurs d.set xs) (λ is. let some = some_counts d.set xs is in omega arith)

pub good_next : (ds : List Dataset) (d : Dataset) (more : List Dataset) → From (ds ++ d ∷ []) more → IsGoodDataset d
good_next ds d more (run, rest, parts, good, later) =
    let here = rw (run_more ds d, append_assoc) at good.each in
    (all_back (λ (x : Dataset). (x.rec ≡ section_after (ds ++ d ∷ [])) × IsGoodDataset x) (of_record d.rec ds) (d ∷ run) here).0.1

-- A dataset that may come next has no fault.
from_no_fault : (ds : List Dataset) (d : Dataset) (more : List Dataset) → MayStand ds d → From (ds ++ d ∷ []) more → record_fault ds (head_of d) ≡ None
from_no_fault ds d more may from =
    let present : ℕ = section_after ds in
    let m = meets_row (row_of d.rec d.set) d.octets (good_next ds d more from).meets in
    no_fault_built present (λ n. occurs n (current_datasets ds)) (head_of d) (elim may [
      | inl same ↦
          let (run, rest, parts, good, later) = subst (λ (r : ℕ). FromRun r (of_record r ds ++ d ∷ []) more) same (from_less ds d more from) in
          let some = not_record0 d.rec d.set m.0 m.1 in
          let again : repeats present d.set ≡ m.0.repeats = ap (λ (q : ℕ). repeats q d.set) (sym same) ∙ repeats_as d.rec d.set (Some m.0) m.1 in
          let before = not_before present (current_datasets ds) d run (rw append_assoc at good) in
          record {
            order = grind (arith, nat_tests);
            row = m.0;
            known = m.1;
            once = grind (arith, nat_tests);
            fits = m.2;
            whole = λ first. absurd (not_after_itself present d.rec (next_is present d.rec first) (sym same));
          }
      | inr (next, done) ↦
          let first = is_first_of present d.rec next in
          let differ = ne_eqb d.rec present (λ same. not_after_itself present d.rec next (sym same)) in
          record {
            order = grind arith;
            row = m.0;
            known = m.1;
            once = grind arith;
            fits = m.2;
            whole = λ _. all_there (λ k. occurs k (current_datasets ds)) (mandatory present) done.mandatory;
          }
    ])

-- ---- A viable prefix, if there is no fault.

part_so_far : (ds : List Dataset) (more : List Dataset) → From ds more → IsPart (section_after ds) (current_datasets ds)
part_so_far ds more (run, rest, parts, good, later) = part_front (section_after ds) (current_datasets ds) run
    (part_of (section_after ds) (current_datasets ds ++ run) good)

may_come : (r : ℕ) (xs : List Dataset) (d : Dataset) (row : Row) → row_of r d.set ≡ Some row → (occurs d.set xs && not row.repeats) ≡ false → MayCome r xs d
may_come r xs d row known once = elim (cases_Bool row.repeats) [
  | inl again ↦ inl (repeats_as r d.set (Some row) known ∙ again)
  | inr single ↦ inr (grind arith)
]

-- A dataset whose head has no fault may come next, and continues a part of its record.
place : (ds : List Dataset) (d : Dataset) → Follows ds → IsPart (section_after ds) (current_datasets ds)
    → HasNoFault (section_after ds) (λ n. occurs n (current_datasets ds)) (head_of d)
    → MayStand ds d × IsPart d.rec (of_record d.rec ds) × MayCome d.rec (of_record d.rec ds) d
place ds d follows part f = elim (in_order_cases (section_after ds) d.rec f.order) [
  | inl same ↦ (inl same, rw same part, may_come d.rec (of_record d.rec ds) d f.row f.known (rw (← same, eq-eqb d.rec d.rec refl) at f.once))
  | inr next ↦
      let whole = none_missing (λ k. occurs k (current_datasets ds)) (mandatory (section_after ds)) (f.whole (is_first_of (section_after ds) d.rec next)) in
      let fresh = fresh_next ds d follows next in
      (inr (next, record { each = part.each; mandatory = whole; once = part.once }), rw fresh (no_part d.rec), rw fresh (inr refl))
]

-- With a head without a fault, and good data of it, datasets are a viable prefix.
pub alive_next : EachRowHasValues → (ds : List Dataset) (d : Dataset) → AreViableSections ds → record_fault ds (head_of d) ≡ None → IsGoodDataset d
    → AreViableSections (ds ++ d ∷ [])
alive_next values ds d alive none good =
    let follows = alive_follows ds alive in
    let part = part_so_far ds alive.0 (follows.goes alive.0 alive.1) in
    let f = no_fault_parts (section_after ds) (λ n. occurs n (current_datasets ds)) (head_of d) none in
    let (may, own, come) = place ds d follows part f in
    let done = part_completes values d.rec (of_record d.rec ds ++ d ∷ []) (part_more d.rec (of_record d.rec ds) d own refl good come) in
    let later = records_to_come values (after d.rec) in
    let from = from_more ds d (done.0 ++ later.0) (done.0, later.0, refl, done.1, later.1) in
    (done.0 ++ later.0, rw append_assoc (follows.comes (d ∷ done.0 ++ later.0) (cons_from ds d (done.0 ++ later.0) follows may from)))

-- ---- The lemmas.

pub from_alive : (ds : List Dataset) (d : Dataset) → (alive : AreViableSections (ds ++ d ∷ [])) → MayStand ds d × From (ds ++ d ∷ []) alive.0
from_alive ds d alive =
    let follows = alive_follows ds (front_alive ds (d ∷ []) alive) in
    from_cons ds d alive.0 follows (follows.goes (d ∷ alive.0) (rw append_assoc at alive.1))

pub head_alive : EachRowHasValues → (ds : List Dataset) (h : Head) → AreViableSections ds → IsOctet h.set → record_fault ds h ≡ None
    → AreViableSectionsWithHead ds h
head_alive values ds h alive small none =
    let f = no_fault_parts (section_after ds) (λ n. occurs n (current_datasets ds)) h none in
    let d = value_for values h f.row small f.known f.fits in
    (d.0, d.1, alive_next values ds d.0 alive (subst (λ (k : Head). record_fault ds k ≡ None) (sym d.1) none) d.2)

pub head_no_fault : (ds : List Dataset) (h : Head) → AreViableSectionsWithHead ds h → record_fault ds h ≡ None
head_no_fault ds h (d, is, alive) =
    let from = from_alive ds d alive in subst (λ (k : Head). record_fault ds k ≡ None) is (from_no_fault ds d alive.0 from.0 from.1)

-- The number of a head that can continue is an octet.
pub head_octet : (ds : List Dataset) (h : Head) → AreViableSectionsWithHead ds h → IsOctet h.set
head_octet ds h (d, is, alive) = subst (λ (k : Head). IsOctet k.set) is (good_next ds d alive.0 (from_alive ds d alive).1).numbered

value_parts : (o : Option Row) (d : Dataset) → IsOctet d.set → row_of d.rec d.set ≡ o → Octets d.octets → fault_by_row o d ≡ None → IsGoodDataset d
value_parts None d small known octets none = absurd cc
value_parts (Some row) d small known octets none =
    let admitted = passed (is_admitted row d.octets) (fault_on (head_of d) BadValue) _ none in
    let format = passed (has_file_format d) (fault_on (head_of d) FileFormat) _ admitted.1 in
    record { numbered = small; octets = octets; meets = meets_as d.rec d.set row d.octets known admitted.0; file_format = format.0 }

pub good_value : (d : Dataset) → IsGoodDataset d → value_fault d ≡ None
good_value d good =
    let m = meets_row (row_of d.rec d.set) d.octets good.meets in rw (m.1, m.3) (passes (has_file_format d) _ _ good.file_format refl)

pub value_alive : EachRowHasValues → (ds : List Dataset) (d : Dataset) → AreViableSectionsWithHead ds (head_of d) → Octets d.octets → value_fault d ≡ None
    → AreViableSections (ds ++ d ∷ [])
value_alive values ds d at octets none = alive_next values ds d (front_alive ds (at.0 ∷ []) at.2) (head_no_fault ds (head_of d) at)
    (value_parts (row_of d.rec d.set) d (head_octet ds (head_of d) at) refl octets none)

pub value_no_fault : (ds : List Dataset) (d : Dataset) → AreViableSections (ds ++ d ∷ []) → value_fault d ≡ None
value_no_fault ds d alive = good_value d (good_next ds d alive.0 (from_alive ds d alive).1)
