-- The first fault has the cause with the lowest number whose condition holds.
use Rattle.std.proofs.Common.{◌≡◌, ◌≢◌, ℕ, ◌+◌, ◌<◌, ◌≤◌, ◌⊎◌, Bool, true, false, not, ◌&&◌, cond, nat_eq, nat_le, List, [], ◌∷◌, length, refl, ap, sym, ◌∙◌, inl, inr, arith, subst, Option, Some, None, Decides}
use Rattle.iim_fields.specs.Format.Causes.{Token, BeginsNext, IsOutOfOrder, IsRepeated, IsOutOfRange, IsMissing, number_of_cause, HasFieldCause, FaultNamesDataset, IsFault, HasNoFault, head_at}
use Rattle.iim_fields.specs.Format.Causes.Token.{AtHead, AtValue}
use Rattle.iim_fields.specs.declared.fault.FieldCause.{FieldCause}
use Rattle.iim_fields.proofs.Words.{cases_lt, false_from_ne_true, nat_tests, record_fault, find, list_any, option_or, or_cases, or_right, eq-eqb, within, Dataset, Head, row_of, is_admitted, Row, after, mandatory, occurs, has_file_format, section_after, current_datasets, is_first, is_in_order, fault_on, row_fault, missing_fault, missing_of, is_kept, kept, kept_octets, limits_fault, first_fault, value_fault, fault_by_row, IsFaultIfAny, HeadsReportTheLowestCause, ValuesReportTheLowestCause, Limits, FieldFault, RecordOrder, UnknownDataset, Repeated, CountRange, Missing, BadValue, FileFormat, HeaderFull, TooManyFields, repeats_as, meets_as, admitted_as, none_meets}
use Rattle.iim_fields.proofs.{Sections.by_record, Table.passed, Table.mandatory_is, Table.mandatory_numbers, Dies.next_is}

-- ---- At most one fault.

-- Causes with the same number are the same cause: of each two.
same_cause : (c e : FieldCause) → number_of_cause c ≡ number_of_cause e → c ≡ e
same_cause RecordOrder RecordOrder same = refl
same_cause one other same = grind arith

one_name : (c : FieldCause) (ds : List Dataset) (t : Token) (r s q n : ℕ) → FaultNamesDataset c ds t r s → FaultNamesDataset c ds t q n → (r ≡ q) × (s ≡ n)
one_name Missing ds t r s q n f g = let low : s ≤ n = f.2 n g.1 in let high : n ≤ s = g.2 s f.1 in (f.0 ∙ sym g.0, omega arith)
one_name other ds t r s q n f g = (f.0 ∙ sym g.0, f.1 ∙ sym g.1)

one_fault : (limits : Limits) (ds : List Dataset) (t : Token) (f g : FieldFault) → IsFault limits ds t f → IsFault limits ds t g → f ≡ g
one_fault limits ds t f g is also =
    let low = λ (below : number_of_cause g.cause < number_of_cause f.cause). is.lowest g.cause below also.holds in
    let high = λ (below : number_of_cause f.cause < number_of_cause g.cause). also.lowest f.cause below is.holds in
    let same : f.cause ≡ g.cause = same_cause f.cause g.cause (omega (arith, low, high)) in
    let both = one_name f.cause ds t f.rec f.set g.rec g.set is.names (subst (λ (c : FieldCause). FaultNamesDataset c ds t g.rec g.set)
    (sym same) also.names) in
    λ i. record { rec = both.0 i; set = both.1 i; cause = same i }

-- ---- The conditions of a head.

begins : (ds : List Dataset) (h : Head) → BeginsNext ds h → is_first h.rec (after (section_after ds)) ≡ true
begins ds h (later, is) = ap (is_first h.rec) is ∙ eq-eqb h.rec h.rec refl

in_order : (ds : List Dataset) (h : Head) → is_in_order (section_after ds) h.rec ≡ true
    → ((h.rec ≢ 0) × (h.rec ≡ section_after ds)) ⊎ BeginsNext ds h
in_order ds h is = elim (or_cases (nat_eq h.rec (section_after ds) && not (nat_eq h.rec 0)) (is_first h.rec (after (section_after ds))) is) [
  | inl same ↦ inl (grind (arith, nat_tests))
  | inr first ↦ inr (after h.rec, next_is (section_after ds) h.rec first)
]

out_of_order : (ds : List Dataset) (h : Head) → Decides (not (is_in_order (section_after ds) h.rec)) (IsOutOfOrder ds h)
out_of_order ds h = (
  λ none may. elim may [ inl present ↦ grind (arith, nat_tests) | inr next ↦ let first = begins ds h next in grind (arith, nat_tests) ],
  λ out. ap not (false_from_ne_true _ (λ is. out (in_order ds h is))),
)

-- the current record has a dataset of the number
abbrev has_come : List Dataset → ℕ → Bool
has_come ds n = occurs n (current_datasets ds)

repeated : (ds : List Dataset) (h : Head) (row : Row) → row_of h.rec h.set ≡ Some row
    → Decides ((nat_eq h.rec (section_after ds) && has_come ds h.set) && not row.repeats) (IsRepeated ds h)
repeated ds h row known = let same = repeats_as h.rec h.set (Some row) known in grind (arith, nat_tests)

out_of_range : (h : Head) (row : Row) → row_of h.rec h.set ≡ Some row → Decides (not (within row.min row.max h.count)) (IsOutOfRange h)
out_of_range h row known = rw known (grind (arith, nat_tests))

-- ---- What is missing.

-- the numbers rise, and none is below `low`
abbrev Rise : ℕ → List ℕ → Type 0
Rise low [] = Unit {0}
Rise low (n ∷ ns) = (low ≤ n) × Rise n ns

mandatory_rise : (r : ℕ) → Rise 0 (mandatory r)
mandatory_rise r = subst (Rise 0) (sym (mandatory_is r)) (by_record (λ m. Rise 0 (mandatory_numbers m)) r (omega arith) (omega arith) (omega arith)
    (omega arith) (omega arith) (λ not1 not2 not7 not8 not9. rw (not1, not2, not7, not8, not9) tt))

not_below : (low m : ℕ) (ns : List ℕ) → Rise low ns → list_any (λ k. nat_eq k m) ns ≡ true → low ≤ m
not_below low m [] rise h = absurd cc
not_below low m (n ∷ ns) rise h = let later = not_below n m ns rise.1 in grind (arith, nat_tests)

-- The result is one of the numbers that did not occur, and none below it is one.
record IsLeast (has : ℕ → Bool) (ns : List ℕ) (n : ℕ) : Type 0 where
  one : list_any (λ m. nat_eq m n) ns ≡ true
  absent : has n ≡ false
  least : (m : ℕ) → list_any (λ k. nat_eq k m) ns ≡ true → has m ≡ false → n ≤ m

least_by : (has : ℕ → Bool) (low x : ℕ) (ns : List ℕ) (n : ℕ) (b : Bool) → has x ≡ b → Rise low (x ∷ ns)
    → (find (λ m. not (has m)) ns ≡ Some n → IsLeast has ns n) → (cond (not b) (Some x) (find (λ m. not (has m)) ns)) ≡ Some n → IsLeast has (x ∷ ns) n
least_by has low x ns n false is rise later h =
    let above = λ (m : ℕ). not_below x m ns rise.1 in
    record { one = grind (arith, nat_tests); absent = cc; least = λ m some lacks. grind (arith, nat_tests, above m) }
least_by has low x ns n true is rise later h =
    let l = later h in
    record { one = or_right (nat_eq x n) _ l.one; absent = l.absent; least = λ m some lacks. grind (arith, nat_tests, l.least m) }

least_found : (has : ℕ → Bool) (low : ℕ) (ns : List ℕ) (n : ℕ) → Rise low ns → find (λ m. not (has m)) ns ≡ Some n → IsLeast has ns n
least_found has low [] n rise h = absurd cc
least_found has low (x ∷ ns) n rise h = least_by has low x ns n (has x) refl rise (λ later. least_found has x ns n rise.1 later) h

none_absent : (has : ℕ → Bool) (ns : List ℕ) (m : ℕ) → find (λ n. not (has n)) ns ≡ None → list_any (λ k. nat_eq k m) ns ≡ true → has m ≡ true
none_absent has [] m none some = absurd cc
none_absent has (x ∷ ns) m none some =
    let parts = passed (has x) x (find (λ n. not (has n)) ns) none in let later = none_absent has ns m parts.1 in grind (arith, nat_tests)

-- ---- Tests one after another.

module _ (limits : Limits) (ds : List Dataset) where
  -- no condition of a cause below k holds
  abbrev Below : Token → ℕ → Type 0
  Below t k = (c : FieldCause) → number_of_cause c < k → HasFieldCause c limits ds t → ⊥

  -- the result is the fault; or it is `None`, and no condition of a cause below k holds
  abbrev IsTold : Token → ℕ → Option FieldFault → Type 0
  IsTold t k None = Below t k
  IsTold t k (Some f) = IsFault limits ds t f

  -- If no condition of a cause below m holds, the result is that for the causes below n.
  record Tells (t : Token) (m n : ℕ) (o : Option FieldFault) : Type 0 where
    told : Below t m → IsTold t n o

  -- A cause whose condition does not hold is skipped.
  past : (t : Token) (c : FieldCause) → Below t (number_of_cause c) → (HasFieldCause c limits ds t → ⊥) → Below t (number_of_cause c + 1)
  past t c below none e low holds = elim (cases_lt (number_of_cause e) (number_of_cause c)) [
    | inl less ↦ below e less holds
    | inr same ↦ none (subst (λ (x : FieldCause). HasFieldCause x limits ds t) (same_cause e c (omega arith)) holds)
  ]

  -- A test of one cause, and then others.
  test : {t : Token} {n : ℕ} {rest : Option FieldFault} (c : FieldCause) (b : Bool) → Decides b (HasFieldCause c limits ds t)
      → FaultNamesDataset c ds t (head_at t).rec (head_at t).set → Tells t (number_of_cause c + 1) n rest
      → Tells t (number_of_cause c) n (cond b (Some (fault_on (head_at t) c)) rest)
  test c true d names later = record { told = λ low. record { holds = d.0 refl; lowest = low; names = names } }
  test {t} c false d names later = record { told = λ low. later.told (past t c low (λ holds. let yes = d.1 holds in cc)) }

  -- Tests, and then others if these have no fault.
  both : {t : Token} {m k n : ℕ} (o p : Option FieldFault) → Tells t m k o → Tells t k n p → Tells t m n (option_or o p)
  both None p first second = record { told = λ low. second.told (first.told low) }
  both (Some f) p first second = record { told = first.told }

  -- ---- Heads.

  row_told : (h : Head) (o : Option Row) → row_of h.rec h.set ≡ o
      → Tells (AtHead h) 11 14 (row_fault (nat_eq h.rec (section_after ds) && has_come ds h.set) o h)
  row_told h None known = record { told = λ low. record { holds = known; lowest = low; names = (refl, refl) } }
  row_told h (Some row) known = record {
    told = λ low. (test Repeated _ (repeated ds h row known) (refl, refl)
        (test CountRange _ (out_of_range h row known) (refl, refl) (record { told = λ below. below }))).told (past (AtHead h) UnknownDataset low (λ none. cc));
  }

  early_told : (h : Head) (c : Bool) (m : Option ℕ) → is_first h.rec (after (section_after ds)) ≡ c → missing_of (section_after ds) (has_come ds) ≡ m
      → Tells (AtHead h) 14 15 (cond c (missing_fault (section_after ds) m) None)
  early_told h false m first found = record { told = λ low. past (AtHead h) Missing low (λ ends. let yes = begins ds h ends.0 in cc) }
  early_told h true None first found = record {
    told = λ low. past (AtHead h) Missing low (λ ends.
        let came = none_absent (has_come ds) (mandatory (section_after ds)) ends.1.0 found ends.1.1.mandatory in let lacks = ends.1.1.absent in cc);
  }
  early_told h true (Some n) first found =
      let least = least_found (has_come ds) 0 (mandatory (section_after ds)) n (mandatory_rise (section_after ds)) found in
      let absent : IsMissing ds n = record { mandatory = least.one; absent = least.absent } in
      let next = next_is (section_after ds) h.rec first in
      let all = λ (m : ℕ) (is : IsMissing ds m). least.least m is.mandatory is.absent in
      record { told = λ low. record { holds = ((after h.rec, next), (n, absent)); lowest = low; names = (refl, absent, all) } }

  -- Only a dataset that is stored exceeds a limit.
  kept_told : (h : Head) (b : Bool) (rest : Option FieldFault) → is_kept h.rec ≡ b → (is_kept h.rec ≡ true → Tells (AtHead h) 50 52 rest)
      → Tells (AtHead h) 50 52 (cond (not b) None rest)
  kept_told h true rest is kept = kept is
  kept_told h false rest is kept = record { told = λ low. past (AtHead h) TooManyFields (past (AtHead h) HeaderFull low (λ holds. cc)) (λ holds. cc) }

  room_told : (h : Head) → Tells (AtHead h) 50 52 (limits_fault limits ds h)
  room_told h = kept_told h _ _ refl (λ is.
      test HeaderFull (not (nat_le (kept_octets ds + h.count) limits.octets)) (grind (arith, nat_tests)) (refl, refl)
      (test TooManyFields (not (nat_le (length (kept ds) + 1) limits.fields)) (grind (arith, nat_tests)) (refl, refl) (record { told = λ low. low })))

  -- The causes of values are not causes of a head.
  to_limits : (h : Head) → Below (AtHead h) 15 → Below (AtHead h) 50
  to_limits h below BadValue low holds = holds
  to_limits h below FileFormat low holds = holds
  to_limits h below c low holds = below c (omega arith) holds

  head_told : (h : Head) → Tells (AtHead h) 10 52 (first_fault limits ds h)
  head_told h = both (record_fault ds h) (limits_fault limits ds h)
      (test RecordOrder _ (out_of_order ds h) (refl, refl) (both _ _ (row_told h _ refl) (early_told h _ _ refl refl)))
      (record { told = λ low. (room_told h).told (to_limits h low) })

  -- ---- Values.

  -- The causes of heads are not causes of a value.
  to_values : (d : Dataset) → Below (AtValue d) 15
  to_values d BadValue low holds = absurd (omega arith)
  to_values d FileFormat low holds = absurd (omega arith)
  to_values d c low holds = holds

  past_values : (d : Dataset) → Below (AtValue d) 17 → Below (AtValue d) 52
  past_values d below BadValue low holds = below BadValue (omega arith) holds
  past_values d below FileFormat low holds = below FileFormat (omega arith) holds
  past_values d below c low holds = holds

  value_told : (d : Dataset) (o : Option Row) → row_of d.rec d.set ≡ o → Tells (AtValue d) 10 52 (fault_by_row o d)
  value_told d None known = record { told = λ low. record { holds = none_meets d.rec d.set d.octets known; lowest = to_values d; names = (refl, refl) } }
  value_told d (Some row) known = record {
    told = λ low. (test BadValue (not (is_admitted row d.octets)) (grind (arith, nat_tests, meets_as, admitted_as)) (refl, refl)
        (test FileFormat (not (has_file_format d)) (grind (arith, nat_tests)) (refl, refl) (record { told = past_values d }))).told (to_values d);
  }

  -- ---- Both directions.

  tells : (t : Token) (o : Option FieldFault) → Tells t 10 52 o → IsFaultIfAny o limits ds t
  tells t None s =
      let none : HasNoFault limits ds t = λ c. s.told (λ e low holds. grind arith) c (grind arith) in
      ((λ f. ((λ is. absurd cc), (λ is. absurd (none f.cause is.holds)))), ((λ _. none), (λ _. refl)))
  tells t (Some g) s =
      let fault : IsFault limits ds t g = s.told (λ e low holds. grind arith) in
      let one = λ (f : FieldFault) (is : IsFault limits ds t f). ap (λ (x : FieldFault). Some x) (one_fault limits ds t g f fault is) in (
        (λ f. ((λ is. let same : g ≡ f = cc in subst (IsFault limits ds t) same fault), one f)),
        ((λ is. absurd cc), (λ none. absurd (none g.cause fault.holds))),
      )

pub heads_tell : HeadsReportTheLowestCause
heads_tell limits ds h = tells limits ds (AtHead h) (first_fault limits ds h) (head_told limits ds h)

pub values_tell : ValuesReportTheLowestCause
values_tell limits ds d = tells limits ds (AtValue d) (value_fault d) (value_told limits ds d (row_of d.rec d.set) refl)

pub head_fault_told : (limits : Limits) (ds : List Dataset) (h : Head) (f : FieldFault) → first_fault limits ds h ≡ Some f → IsFault limits ds (AtHead h) f
head_fault_told limits ds h f is = ((heads_tell limits ds h).0 f).0 is
