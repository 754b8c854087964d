-- A builder accepts the datasets of an envelope that is within its limits.
use Rattle.std.proofs.Common.{◌≡◌, ℕ, ◌+◌, Bool, true, cond, List, [], ◌∷◌, ◌++◌, append_assoc, length, length-append, refl, ap, sym, ◌∙◌, subst, arith, Some, None, Result, Ok, Err, IfErr, IsOk}
use Rattle.std.proofs.lemmas.List.Concat.{flat_map-append}
use Rattle.iim_fields.proofs.Words.{AllByRecursion, option_or, nat_tests, Octets, Dataset, head_of, IsGoodDataset, AreViableSections, IsEnvelope, added_field_fault, limit_exceeded_by, joined, kept, kept_octets, is_kept, limits_fault, fault_on, HeadsAreRejectedForFaults, ValuesAreRejectedForFaults, BuildersAcceptEnvelopes, AreRecords, AreSections, IsWithin, FieldFault, RecordOrder, Limits, all_append, all_front, all_back}
use Rattle.iim_fields.proofs.{Runs.records_to_come, Table.EachRowHasValues, Table.passes}

-- The datasets of an object can follow those of an envelope.
sections_of : (ds object : List Dataset) → IsEnvelope ds → AreRecords (7 ∷ 8 ∷ 9 ∷ []) object → AreSections (ds ++ object)
sections_of ds object e follows = (
  e.r1,
  e.r2 ++ object,
  ap (λ (l : List Dataset). l ++ object) e.parts ∙ append_assoc e.r1 e.r2 object,
  e.envelope,
  (e.r2, object, refl, e.application, follows),
)

-- ---- What holds of each dataset.

record IsTakeable (d : Dataset) : Type 0 where
  is_kept : is_kept d.rec ≡ true
  octets : Octets d.octets

takeable : (r : ℕ) (ds : List Dataset) → is_kept r ≡ true → AllByRecursion (λ d. (d.rec ≡ r) × IsGoodDataset d) ds → AllByRecursion IsTakeable ds
takeable r [] is h = tt
takeable r (d ∷ ds) is h = (record { is_kept = ap is_kept h.0.0 ∙ is; octets = h.0.1.octets }, takeable r ds is h.1)

all_takeable : (ds : List Dataset) → IsEnvelope ds → AllByRecursion IsTakeable ds
all_takeable ds e = subst (AllByRecursion IsTakeable) (sym e.parts)
    (all_append IsTakeable e.r1 e.r2 (takeable 1 e.r1 refl e.envelope.each) (takeable 2 e.r2 refl e.application.each))

all_kept : (ds : List Dataset) → AllByRecursion IsTakeable ds → kept ds ≡ ds
all_kept [] h = refl
all_kept (d ∷ ds) h = ap (λ (b : Bool). cond b (d ∷ kept ds) (kept ds)) h.0.is_kept ∙ ap (λ (l : List Dataset). d ∷ l) (all_kept ds h.1)

-- ---- No fault.

joined_more : (before : List Dataset) (d : Dataset) (ds : List Dataset)
    → length (joined (before ++ d ∷ ds)) ≡ length (joined before) + (length d.octets + length (joined ds))
joined_more before d ds =
    ap length (flat_map-append (λ (x : Dataset). x.octets) before (d ∷ ds))
    ∙ (length-append (joined before) (joined (d ∷ ds)) ∙ ap (λ (n : ℕ). length (joined before) + n) (length-append d.octets (joined ds)))

has_room : (limits : Limits) (before ds : List Dataset) (d : Dataset) → kept before ≡ before
    → IsWithin limits (length (joined (before ++ d ∷ ds))) (length (before ++ d ∷ ds)) → limits_fault limits before (head_of d) ≡ None
has_room limits before ds d all within =
    let octets : kept_octets before ≡ length (joined before) = ap (λ (l : List Dataset). length (joined l)) all in
    let fields : length (kept before) ≡ length before = ap (λ (l : List Dataset). length l) all in
    let more = joined_more before d ds in
    let longer = length-append before (d ∷ ds) in grind (arith, nat_tests)

pub added : EachRowHasValues → HeadsAreRejectedForFaults → ValuesAreRejectedForFaults → BuildersAcceptEnvelopes
added rows heads values limits before ds d e within =
    let (object, follows) = records_to_come rows (7 ∷ 8 ∷ 9 ∷ []) in
    let sections = sections_of (before ++ d ∷ ds) object e follows in
    let each = all_takeable (before ++ d ∷ ds) e in
    let this : IsTakeable d = (all_back IsTakeable before (d ∷ ds) each).0 in
    let whole : AreSections (before ++ d ∷ (ds ++ object)) = rw append_assoc at sections in
    let alive : AreViableSections (before ++ d ∷ []) = (ds ++ object, rw append_assoc whole) in
    let head = ((heads before (head_of d) (d ∷ ds ++ object, whole)).1 (d, refl, alive)).0 in
    let room = has_room limits before ds d (all_kept before (all_front IsTakeable before (d ∷ ds) each)) within in
    let value = (values before d (d, refl, alive) this.octets).1 alive in
    passes (is_kept d.rec) (fault_on (head_of d) RecordOrder) _ this.is_kept (λ i. option_or (option_or (head i) (room i)) (value i))

-- ---- Within the limits.

within_of : (limits : Limits) (ds : List Dataset) → limit_exceeded_by limits ds ≡ None → IsWithin limits (length (joined ds)) (length ds)
within_of limits ds none = record { octets_in = grind (arith, nat_tests); fields_in = grind (arith, nat_tests) }

-- The next dataset of an envelope is accepted.
pub takes : {T : Type 0} → BuildersAcceptEnvelopes → (limits under : Limits) (all done rest : List Dataset) (d : Dataset) (result : Result T FieldFault)
    → IsEnvelope all → limit_exceeded_by limits all ≡ None
    → under ≡ limits → done ++ d ∷ rest ≡ all → IfErr result (λ fault. added_field_fault under done d ≡ Some fault) → IsOk result
takes law limits under all done rest d (Ok done_it) e none same parts refused = refl
takes law limits under all done rest d (Err fault) e none same parts refused =
    let fine = law limits done rest d (rw parts e) (rw parts (within_of limits all none)) in let clash = rw same at refused in absurd cc
