-- Prefixes of good records, and how they are completed.
use Rattle.std.proofs.Common.{◌≡◌, ℕ, ◌+◌, ◌<◌, ◌≤◌, ◌⊎◌, Bool, true, false, cond, nat_eq, List, [], ◌∷◌, ◌++◌, length, refl, sym, inl, inr, arith, subst, append_assoc, append-nil}
use Rattle.iim_fields.proofs.Words.{AllByRecursion, list_any-append, eq-eqb, eqb_tells, Dataset, all_append, all_front, AreRecords, mandatory, IsGoodDataset, IsGoodRecord, occurs, occurrences, repeats, occurrences_append, none_counts}
use Rattle.iim_fields.proofs.Table.{EachRowHasValues, HasSample, samples}

pub occurs_front : (n : ℕ) (xs ys : List Dataset) → occurs n xs ≡ true → occurs n (xs ++ ys) ≡ true
occurs_front n xs ys h = rw (list_any-append (λ (d : Dataset). nat_eq d.set n) xs ys, h) refl

pub occurs_last : (n : ℕ) (xs : List Dataset) (d : Dataset) → d.set ≡ n → occurs n (xs ++ d ∷ []) ≡ true
occurs_last n xs d is = rw (list_any-append (λ (x : Dataset). nat_eq x.set n) xs (d ∷ []), eq-eqb d.set n is) (grind arith)

-- ---- A prefix of a record.

-- the datasets may be the first of a good record
pub record IsPart (rec : ℕ) (ds : List Dataset) : Type 0 where
  pub each : AllByRecursion (λ d. (d.rec ≡ rec) × IsGoodDataset d) ds
  pub once : (n : ℕ) → repeats rec n ≡ false → occurrences n ds ≤ 1

pub no_part : (r : ℕ) → IsPart r []
no_part r = record { each = tt; once = λ n h. omega arith }

pub part_front : (r : ℕ) (xs ys : List Dataset) → IsPart r (xs ++ ys) → IsPart r xs
part_front r xs ys p = record {
  each = all_front (λ (d : Dataset). (d.rec ≡ r) × IsGoodDataset d) xs ys p.each;
  once = λ n h. let sum = occurrences_append n xs ys in let most = p.once n h in omega arith;
}

pub part_of : (r : ℕ) (xs : List Dataset) → IsGoodRecord r xs → IsPart r xs
part_of r xs g = record { each = g.each; once = g.once }

-- the number may occur again, or has not occurred
abbrev pub MayCome : ℕ → List Dataset → Dataset → Type 0
MayCome r xs d = (repeats r d.set ≡ true) ⊎ (occurs d.set xs ≡ false)

once_more : (r : ℕ) (xs : List Dataset) (d : Dataset) → IsPart r xs → MayCome r xs d → (n : ℕ) → repeats r n ≡ false
    → occurrences n xs + (cond (nat_eq d.set n) 1 0 + 0) ≤ 1
once_more r xs d p may n h = elim (eqb_tells d.set n) [
  | inl same ↦ elim may [
    | inl again ↦ absurd (let bad = rw same.1 at again in cc)
    | inr none ↦ rw (same.0, none_counts n xs (rw same.1 at none)) (omega arith)
  ]
  | inr other ↦ let most = p.once n h in rw other.0 (omega arith)
]

pub part_more : (r : ℕ) (xs : List Dataset) (d : Dataset) → IsPart r xs → d.rec ≡ r → IsGoodDataset d → MayCome r xs d → IsPart r (xs ++ d ∷ [])
part_more r xs d p of good may = record {
  each = all_append (λ (x : Dataset). (x.rec ≡ r) × IsGoodDataset x) xs (d ∷ []) p.each ((of, good), tt);
  once = λ n h. let sum = occurrences_append n xs (d ∷ []) in let most = once_more r xs d p may n h in omega arith;
}

-- the prefix, and datasets after it with which these numbers occur
abbrev Completed : ℕ → List Dataset → List ℕ → Type 0
Completed r xs ns = (run : List Dataset) × IsPart r (xs ++ run) × AllByRecursion (λ n. occurs n (xs ++ run) ≡ true) ns

complete_by : (b : Bool) (r : ℕ) (xs : List Dataset) (n : ℕ) (ns : List ℕ) → occurs n xs ≡ b → IsPart r xs → HasSample r n
    → ((ys : List Dataset) → IsPart r ys → Completed r ys ns) → Completed r xs (n ∷ ns)
complete_by true r xs n ns is p sample more =
    let later = more xs p in (later.0, later.1, (occurs_front n xs later.0 is, later.2))
complete_by false r xs n ns is p sample more =
    let d : Dataset = sample.0 in
    let later = more (xs ++ d ∷ []) (part_more r xs d p sample.1 sample.3 (inr (rw (← sample.2) at is))) in
    let here = occurs_front n (xs ++ d ∷ []) later.0 (occurs_last n xs d sample.2) in
    (d ∷ later.0, rw append_assoc at later.1, (rw append_assoc at here, rw append_assoc at later.2))

complete : (r : ℕ) (ns : List ℕ) → AllByRecursion (HasSample r) ns → (xs : List Dataset) → IsPart r xs → Completed r xs ns
complete r [] have xs p = ([], subst (IsPart r) (sym (append-nil xs)) p, tt)
complete r (n ∷ ns) have xs p = complete_by (occurs n xs) r xs n ns refl p have.0 (complete r ns have.1)

-- A prefix of a record continues to a good one.
pub part_completes : EachRowHasValues → (r : ℕ) (xs : List Dataset) → IsPart r xs → (run : List Dataset) × IsGoodRecord r (xs ++ run)
part_completes values r xs p =
    let c = complete r (mandatory r) (samples values r) xs p in
    (c.0, record { each = c.1.each; mandatory = c.2; once = c.1.once })

-- Good records of these numbers exist.
pub records_to_come : EachRowHasValues → (rs : List ℕ) → (ds : List Dataset) × AreRecords rs ds
records_to_come values [] = ([], refl)
records_to_come values (r ∷ rs) =
    let first = part_completes values r [] (no_part r) in
    let later = records_to_come values rs in
    (first.0 ++ later.0, (first.0, later.0, refl, first.1, later.1))

none_occurs : (ns : List ℕ) → 0 < length ns → AllByRecursion (λ n. occurs n [] ≡ true) ns → ⊥
none_occurs [] long h = absurd (omega arith)
none_occurs (n ∷ ns) long h = let bad : false ≡ true = h.0 in cc

-- A good record that must have datasets is not empty.
pub not_empty : (r : ℕ) → 0 < length (mandatory r) → IsGoodRecord r [] → ⊥
not_empty r long g = none_occurs (mandatory r) long g.mandatory
