-- Arrays that datasets are written into.
use Rattle.iim_c.proofs.Words.{◌≡◌, ℕ, ◌+◌, ◌-◌, ◌<◌, ◌≤◌, List, length, get_or, drop, inl, inr, refl, sym, ap, subst, ◌∙◌, arith, cases_eq, drop-drop, Contents}
use Rattle.std.proofs.Common.{set}
use Rattle.std.proofs.lemmas.Bool.{cases_lt}
use Rattle.std.proofs.lemmas.List.{drop-set-lt, get_or-set_same, get_or-set_other}
use Rattle.iim_c.specs.Format.Tickets.{ArrayHasFields, IsFieldAt, no_dataset}
use Rattle.iim_c.specs.declared.field.IimDataset.{IimDataset}

-- before the first dataset no entry is written
pub no_field_yet : (ticket : List ℕ) (s : Contents) (from count : ℕ) (array : List IimDataset) → count ≡ 0 → ArrayHasFields ticket s from count array array
no_field_yet ticket s from count array none = record { each = λ k below room. absurd (omega (arith, none, below)); others = refl }

-- the dataset after the first n, and those before it
one_more_field : (ticket : List ℕ) (s : Contents) (from n : ℕ) (old now : List IimDataset) (found : IimDataset) → ArrayHasFields ticket s from n old now
    → length now ≡ length old → IsFieldAt ticket s (from + n) found → ArrayHasFields ticket s from (n + 1) old (set now n found)
one_more_field ticket s from n old now found had same is = record {
  each = λ k below room.
      elim (cases_eq k n) as (λ _. IsFieldAt ticket s (from + k) (get_or (set now n found) k no_dataset)) [
        | inl here ↦
            (let there : n < length now = omega (arith, here, room, same) in
            subst (λ (m : ℕ). IsFieldAt ticket s (from + m) (get_or (set now n found) m no_dataset)) (sym here)
            (subst (IsFieldAt ticket s (from + n)) (sym (get_or-set_same now n found no_dataset there)) is))
        | inr other ↦
            subst (IsFieldAt ticket s (from + k)) (sym (get_or-set_other now n k found no_dataset other)) (had.each k (omega (arith, below, other)) room)
      ];
  others = drop-set-lt (n + 1) now n found (omega arith) ∙ (sym (drop-drop 1 n now) ∙ (ap (drop 1) had.others ∙ drop-drop 1 n old));
}

-- the dataset with this index is written if it is one of those after the first `from`
pub put_if_wanted : (ticket : List ℕ) (s : Contents) (from index : ℕ) (old now new : List IimDataset) (found : IimDataset)
    → ArrayHasFields ticket s from (index - from) old now → length now ≡ length old → IsFieldAt ticket s index found
    → (index < from → new ≡ now) → (from ≤ index → new ≡ set now (index - from) found)
    → ArrayHasFields ticket s from ((index + 1) - from) old new
put_if_wanted ticket s from index old now new found had same is skipped put =
    elim (cases_lt index from) as (λ _. ArrayHasFields ticket s from ((index + 1) - from) old new) [
      | inl before ↦
          (let count : (index + 1) - from ≡ index - from = omega (arith, before) in
          rw (count, skipped before) had)
      | inr past ↦
          (let count : (index + 1) - from ≡ (index - from) + 1 = omega (arith, past) in
          let there : from + (index - from) ≡ index = omega (arith, past) in
          rw (count, put past) (one_more_field ticket s from (index - from) old now found had same (subst (λ (m : ℕ). IsFieldAt ticket s m found)
          (sym there) is)))
    ]
