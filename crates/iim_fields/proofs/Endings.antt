-- Where the datasets of an envelope end.
use Rattle.std.proofs.Common.{◌≡◌, ℕ, ◌+◌, ◌<◌, ◌≤◌, false, cond, nat_eq, List, [], ◌∷◌, ◌++◌, length, refl, ap, sym, ◌∙◌, inl, inr, arith, subst, append-nil, length-append}
use Rattle.iim_fields.proofs.Words.{cond_both, eq-eqb, None, AllByRecursion, eqb_tells, Dataset, of_record, table, row_of, AreViableSections, AreRecords, AreSections, repeats, occurrences, IsGoodDataset, IsGoodRecord, none_meets, occurrences_append, last_record, section_after, EnvelopesEndWithTheLastRecord, NoSectionsAreAPrefixOfOthers}
use Rattle.iim_fields.proofs.{Table.mandatory_is, Runs.not_empty, Follows.Follows, Follows.alive_follows, Follows.present_more, Sections.last_of_joined}

-- ---- The last record has one dataset.

no_row_but_ten : (n : ℕ) → nat_eq 10 n ≡ false → row_of 9 n ≡ None
unfolding row_of table
no_row_but_ten n other = rw other refl

once_ten : repeats 9 10 ≡ false
unfolding row_of table
once_ten = refl

is_ten : (d : Dataset) → d.rec ≡ 9 → IsGoodDataset d → d.set ≡ 10
is_ten d last good = elim (eqb_tells 10 d.set) [
  | inl same ↦ sym same.1
  | inr other ↦
      let none : row_of d.rec d.set ≡ None = ap (λ (r : ℕ). row_of r d.set) last ∙ no_row_but_ten d.set other.0 in
      absurd (none_meets d.rec d.set d.octets none good.meets)
]

all_ten : (ds : List Dataset) → AllByRecursion (λ d. (d.rec ≡ 9) × IsGoodDataset d) ds → occurrences 10 ds ≡ length ds
all_ten [] each = refl
all_ten (d ∷ ds) each =
    let one : occurrences 10 (d ∷ []) ≡ 1 = ap (λ (n : ℕ). 0 + cond (nat_eq n 10) 1 0) (is_ten d each.0.0 each.0.1) in
    let sum = occurrences_append 10 (d ∷ []) ds in
    let more = all_ten ds each.1 in omega arith

at_most_one : (ds : List Dataset) → IsGoodRecord 9 ds → length ds ≤ 1
at_most_one ds good = let count = all_ten ds good.each in let most = good.once 10 once_ten in omega arith

nothing_after_one : (own run : List Dataset) → 0 < length own → IsGoodRecord 9 (own ++ run) → run ≡ []
nothing_after_one own [] some good = refl
nothing_after_one own (d ∷ run) some good =
    let most = at_most_one (own ++ d ∷ run) good in absurd (omega (arith, length-append own (d ∷ run)))

-- ---- The last dataset of an envelope is of record 9.

last_of_all : (r s : ℕ) (ds : List Dataset) → AllByRecursion (λ d. (d.rec ≡ s) × IsGoodDataset d) ds → 0 < length ds → last_record r ds ≡ s
last_of_all r s [] each some = absurd (omega arith)
last_of_all r s (d ∷ []) each some = each.0.0
last_of_all r s (d ∷ e ∷ ds) each some = last_of_all d.rec s (e ∷ ds) each.1 (omega arith)

some_of_nine : (ds : List Dataset) → IsGoodRecord 9 ds → 0 < length ds
some_of_nine [] good = absurd (not_empty 9 (subst (λ (ns : List ℕ). 0 < length ns) (sym (mandatory_is 9)) (omega arith)) good)
some_of_nine (d ∷ ds) good = omega arith

ends_with_nine : (rs : List ℕ) (r : ℕ) (ds : List Dataset) → AreRecords (rs ++ 9 ∷ []) ds → last_record r ds ≡ 9
ends_with_nine [] r ds (run, rest, parts, good, none) =
    ap (last_record r) (parts ∙ ap (λ (xs : List Dataset). run ++ xs) none ∙ append-nil run) ∙ last_of_all r 9 run good.each (some_of_nine run good)
ends_with_nine (s ∷ rs) r ds (run, rest, parts, good, later) =
    ap (last_record r) parts ∙ last_of_joined r run rest ∙ ends_with_nine rs (last_record r run) rest later

pub sections_end : (ds : List Dataset) → AreSections ds → section_after ds ≡ 9
sections_end ds sections = ends_with_nine (1 ∷ 2 ∷ 7 ∷ 8 ∷ []) 0 ds sections

-- ---- Nothing follows.

-- If the last dataset is of record 9, that record has a dataset.
of_last : (d : Dataset) (ds : List Dataset) → last_record d.rec ds ≡ 9 → 0 < length (of_record 9 (d ∷ ds))
of_last d [] last = rw (eq-eqb d.rec 9 last) (omega arith)
of_last d (e ∷ ds) last =
    let some = of_last e ds last in
    cond_both (nat_eq d.rec 9) (d ∷ of_record 9 (e ∷ ds)) (of_record 9 (e ∷ ds)) (λ (xs : List Dataset). 0 < length xs) (λ _. omega arith) (λ _. some)

some_last : (ds : List Dataset) → section_after ds ≡ 9 → 0 < length (of_record 9 ds)
some_last [] last = absurd cc
some_last (d ∷ ds) last = of_last d ds last

nothing_more : (ds more : List Dataset) → Follows ds → section_after ds ≡ 9 → AreSections (ds ++ more) → more ≡ []
nothing_more ds more follows last sections =
    let (run, rest, parts, good, later) = follows.goes more sections in
    let none : rest ≡ [] = rw last at later in
    let one : IsGoodRecord 9 (of_record 9 ds ++ run) = rw last at good in
    parts ∙ (λ i. nothing_after_one (of_record 9 ds) run (some_last ds last) one i ++ none i)

pub no_sections_are_a_prefix_of_others : NoSectionsAreAPrefixOfOthers
no_sections_are_a_prefix_of_others ds more whole sections = nothing_more ds more (alive_follows ds (more, sections)) (sections_end ds whole) sections

-- A viable prefix whose last dataset is of record 9 is all of an envelope.
pub whole_after_nine : (ds : List Dataset) → AreViableSections ds → section_after ds ≡ 9 → AreSections ds
whole_after_nine ds alive nine =
    let none : alive.0 ≡ [] = nothing_more ds alive.0 (alive_follows ds alive) nine alive.1 in
    subst AreSections (append-nil ds) (subst (λ (more : List Dataset). AreSections (ds ++ more)) none alive.1)

pub envelopes_end : EnvelopesEndWithTheLastRecord
envelopes_end ds d alive = (
  (λ last. whole_after_nine (ds ++ d ∷ []) alive (present_more ds d ∙ last)),
  (λ sections. sym (present_more ds d) ∙ sections_end (ds ++ d ∷ []) sections),
)
