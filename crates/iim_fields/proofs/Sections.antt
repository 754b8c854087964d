-- The last record of datasets, and which datasets can continue: lemmas for the proofs of every
-- crate.
use Rattle.std.proofs.Common.{◌≡◌, ℕ, false, nat_eq, List, [], ◌∷◌, ◌++◌, length, replicate, Option, refl, sym, subst, append_assoc, inl, inr}
use Rattle.iim_fields.proofs.Words.{AllByRecursion, cases_eq, ne_eqb, eqb_tells, length-replicate, Dataset, head_of, Octets, zeros_are, Head, RecordPlace, AreViableSections, AreViableSectionsWithHead, last_record, AreSections, HasAcceptedHead}

pub last_more : (r : ℕ) (ds : List Dataset) (d : Dataset) → last_record r (ds ++ d ∷ []) ≡ d.rec
last_more r [] d = refl
last_more r (x ∷ ds) d = last_more x.rec ds d

pub last_of_joined : (r : ℕ) (xs ys : List Dataset) → last_record r (xs ++ ys) ≡ last_record (last_record r xs) ys
last_of_joined r [] ys = refl
last_of_joined r (x ∷ xs) ys = last_of_joined x.rec xs ys

pub front_alive : (xs ys : List Dataset) → AreViableSections (xs ++ ys) → AreViableSections xs
front_alive xs ys (more, are) = (ys ++ more, subst AreSections (append_assoc xs ys more) are)

-- Datasets that can continue with a head can continue.
pub head_alive : (ds : List Dataset) (h : Head) → AreViableSectionsWithHead ds h → AreViableSections ds
head_alive ds h (d, is, alive) = front_alive ds (d ∷ []) alive

-- A dataset with this head: `h.count` octets, each 0.
pub some_data : (h : Head) → (d : Dataset) × (head_of d ≡ h) × Octets d.octets
some_data h =
    let zeros : List ℕ = replicate h.count 0 in
    let count : length zeros ≡ h.count = length-replicate {A = ℕ} h.count 0 in
    (record { rec = h.rec; set = h.set; octets = zeros }, (λ k. record { rec = h.rec; set = h.set; count = count k }), zeros_are h.count)

pub taken_alive : (check : Option RecordPlace) (ds : List Dataset) (h : Head) → HasAcceptedHead check ds h → AreViableSectionsWithHead ds h
taken_alive check ds h t = elim (eqb_tells h.rec 8) [
  | inl eight ↦ let (d, is, octets) = some_data h in (d, is, (t.subfile eight.1 d is octets).alive)
  | inr other ↦ (t.checking other.1).alive
]

-- What holds of each of some numbers, and of each other number, holds of a number.
pub one_of : (P : ℕ → Type 0) (r : ℕ) (ns : List ℕ) → AllByRecursion P ns → (AllByRecursion (λ n. (nat_eq n r ≡ false) × (nat_eq r n ≡ false)) ns → P r) → P r
one_of P r [] each other = other tt
one_of P r (n ∷ ns) each other = elim (cases_eq n r) [
  | inl same ↦ subst P same each.0
  | inr differ ↦ one_of P r ns each.1 (λ others. other ((ne_eqb n r differ, ne_eqb r n (λ e. differ (sym e))), others))
]

-- What holds of each of the five records, and of all other numbers, holds of a record.
pub by_record : (P : ℕ → Type 0) (r : ℕ) → P 1 → P 2 → P 7 → P 8 → P 9
    → (nat_eq r 1 ≡ false → nat_eq r 2 ≡ false → nat_eq r 7 ≡ false → nat_eq r 8 ≡ false → nat_eq r 9 ≡ false → P r) → P r
by_record P r one two seven eight nine other = one_of P r (1 ∷ 2 ∷ 7 ∷ 8 ∷ 9 ∷ []) (one, (two, (seven, (eight, (nine, tt)))))
    (λ not. other not.0.1 not.1.0.1 not.1.1.0.1 not.1.1.1.0.1 not.1.1.1.1.0.1)
