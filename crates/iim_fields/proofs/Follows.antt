-- What can follow datasets that are a viable prefix.
use Rattle.std.proofs.Common.{length, ◌<◌, ◌≡◌, ℕ, ◌⊎◌, Bool, true, false, nat_eq, List, [], ◌∷◌, ◌++◌, refl, ap, sym, ◌∙◌, inl, inr, arith, subst, append_assoc, append-nil}
use Rattle.iim_fields.proofs.Words.{all_back, ne_eqb, mandatory, list_any, filter-append, or_right, eq-eqb, Dataset, of_record, table, after, records, AreRecords, AreSections, IsGoodDataset, IsGoodRecord, none_meets, AreViableSections, section_after, current_datasets}
use Rattle.iim_fields.proofs.{Table.next_of, Table.mandatory_is, Table.no_row, Runs.not_empty, Sections.last_more, Sections.one_of}

-- the rest of the current record after its datasets so far, and then the records after it
abbrev pub FromRun : ℕ → List Dataset → List Dataset → Type 0
FromRun r own more = (run rest : List Dataset) × (more ≡ run ++ rest) × IsGoodRecord r (own ++ run) × AreRecords (after r) rest

abbrev pub From : List Dataset → List Dataset → Type 0
From ds more = FromRun (section_after ds) (current_datasets ds) more

-- the record is one of those that remain
abbrev pub is_coming : ℕ → ℕ → Bool
is_coming present r = list_any (λ x. nat_eq x r) (after present)

-- What completes the datasets is what follows their current record, and no record that remains has
-- occurred.
pub record Follows (ds : List Dataset) : Type 0 where
  pub goes : (more : List Dataset) → AreSections (ds ++ more) → From ds more
  pub comes : (more : List Dataset) → From ds more → AreSections (ds ++ more)
  pub fresh : (r : ℕ) → is_coming (section_after ds) r ≡ true → of_record r ds ≡ []

-- ---- One more dataset.

pub present_more : (ds : List Dataset) (d : Dataset) → section_after (ds ++ d ∷ []) ≡ d.rec
present_more ds d = last_more 0 ds d

pub run_more : (ds : List Dataset) (d : Dataset) → current_datasets (ds ++ d ∷ []) ≡ of_record d.rec ds ++ d ∷ []
run_more ds d = rw (present_more ds d, filter-append (λ (x : Dataset). nat_eq x.rec d.rec) ds (d ∷ []), eq-eqb d.rec d.rec refl) refl

pub from_more : (ds : List Dataset) (d : Dataset) (more : List Dataset) → FromRun d.rec (of_record d.rec ds ++ d ∷ []) more → From (ds ++ d ∷ []) more
from_more ds d more f = rw (run_more ds d, present_more ds d) f

pub from_less : (ds : List Dataset) (d : Dataset) (more : List Dataset) → From (ds ++ d ∷ []) more → FromRun d.rec (of_record d.rec ds ++ d ∷ []) more
from_less ds d more f = rw (run_more ds d, present_more ds d) at f

-- the dataset is of the current record; or it begins the next one, and the current one is complete
abbrev pub MayStand : List Dataset → Dataset → Type 0
MayStand ds d = (d.rec ≡ section_after ds) ⊎ ((after (section_after ds) ≡ d.rec ∷ after d.rec) × IsGoodRecord (section_after ds) (current_datasets ds))

-- The next record has not occurred.
pub fresh_next : (ds : List Dataset) (d : Dataset) → Follows ds → after (section_after ds) ≡ d.rec ∷ after d.rec → of_record d.rec ds ≡ []
fresh_next ds d follows next = follows.fresh d.rec (rw (next, eq-eqb d.rec d.rec refl) refl)

-- A record that must have datasets begins with a dataset of that record.
begun : (r : ℕ) (rs : List ℕ) (d : Dataset) (more : List Dataset) → 0 < length (mandatory r) → AreRecords (r ∷ rs) (d ∷ more)
    → (d.rec ≡ r) × ((run rest : List Dataset) × (more ≡ run ++ rest) × IsGoodRecord r (d ∷ run) × AreRecords rs rest)
begun r rs d more some ([], rest, parts, good, later) = absurd (not_empty r some good)
begun r rs d more some (x ∷ run, rest, parts, good, later) =
    let first : d ≡ x = cc in
    let tail : more ≡ run ++ rest = cc in
    let here : IsGoodRecord r (d ∷ run) = rw first good in (here.each.0.0, (run, rest, tail, here, later))

pub from_cons : (ds : List Dataset) (d : Dataset) (more : List Dataset) → Follows ds → From ds (d ∷ more) → MayStand ds d × From (ds ++ d ∷ []) more
from_cons ds d more follows ([], rest, parts, good, later) =
    let recs = rw (← parts) at later in
    elim (next_of (section_after ds)) [
      | inl none ↦ absurd (let bad = rw none at recs in cc)
      | inr n ↦
          let b = begun n.0 (after n.0) d more (rw mandatory_is n.2) (rw n.1 at recs) in
          let next : after (section_after ds) ≡ d.rec ∷ after d.rec = n.1 ∙ ap (λ (q : ℕ). q ∷ after q) (sym b.0) in
          let own = subst (λ (r : ℕ). FromRun r (d ∷ []) more) (sym b.0) b.1 in
          (inr (next, rw append-nil at good), from_more ds d more (rw (fresh_next ds d follows next) own))
    ]
from_cons ds d more follows (x ∷ run, rest, parts, good, later) =
    let first : d ≡ x = cc in
    let tail : more ≡ run ++ rest = cc in
    let here : IsGoodRecord (section_after ds) (current_datasets ds ++ d ∷ run) = rw first good in
    let same = (all_back (λ (y : Dataset). (y.rec ≡ section_after ds) × IsGoodDataset y) (current_datasets ds) (d ∷ run) here.each).0.0 in
    (inl same, from_more ds d more (subst (λ (r : ℕ). FromRun r (of_record r ds ++ d ∷ []) more) (sym same) (run, rest, tail, rw append_assoc here, later)))

pub cons_from : (ds : List Dataset) (d : Dataset) (more : List Dataset) → Follows ds → MayStand ds d → From (ds ++ d ∷ []) more → From ds (d ∷ more)
cons_from ds d more follows (inl same) f =
    let (run, rest, parts, good, later) = subst (λ (r : ℕ). FromRun r (of_record r ds ++ d ∷ []) more) same (from_less ds d more f) in
    (d ∷ run, rest, ap (λ (xs : List Dataset). d ∷ xs) parts, rw append_assoc at good, later)
cons_from ds d more follows (inr (next, done)) f =
    let (run, rest, parts, good, later) = rw (fresh_next ds d follows next) at (from_less ds d more f) in
    ([], d ∷ more, refl, rw append-nil done, rw next (d ∷ run, rest, ap (λ (xs : List Dataset). d ∷ xs) parts, good, later))

-- No record comes after itself.
not_coming_itself : (r : ℕ) → is_coming r r ≡ false
not_coming_itself r = one_of (λ m. is_coming m m ≡ false) r (0 ∷ 1 ∷ 2 ∷ 7 ∷ 8 ∷ 9 ∷ []) (refl, (refl, (refl, (refl, (refl, (refl, tt))))))
    (λ not. rw (not.0.1, not.1.0.1, not.1.1.0.1, not.1.1.1.0.1, not.1.1.1.1.0.1, not.1.1.1.1.1.0.1) refl)

-- A record that remains after the dataset remained before it.
still_coming : (ds : List Dataset) (d : Dataset) (r : ℕ) → MayStand ds d → is_coming d.rec r ≡ true → is_coming (section_after ds) r ≡ true
still_coming ds d r (inl same) coming = rw same at coming
still_coming ds d r (inr (next, done)) coming = rw (next, coming) (or_right (nat_eq d.rec r) true refl)

another : (d : Dataset) (r : ℕ) → is_coming d.rec r ≡ true → of_record r (d ∷ []) ≡ []
another d r coming = rw (ne_eqb d.rec r (λ same. let bad = rw same at coming in let none = not_coming_itself r in cc)) refl

follows_next : (ds : List Dataset) (d : Dataset) (old : List Dataset) → Follows ds → From ds (d ∷ old) → Follows (ds ++ d ∷ [])
follows_next ds d old follows before =
    let may = (from_cons ds d old follows before).0 in
    record {
      goes = λ more whole. (from_cons ds d more follows (follows.goes (d ∷ more) (rw append_assoc at whole))).1;
      comes = λ more from. rw append_assoc (follows.comes (d ∷ more) (cons_from ds d more follows may from));
      fresh = λ r coming.
          let here = rw (present_more ds d) at coming in
          rw (filter-append (λ (x : Dataset). nat_eq x.rec r) ds (d ∷ []), follows.fresh r (still_coming ds d r may here)) (another d r here);
    }

-- ---- From the start.

-- No dataset is of record 0.
empty_run : (run : List Dataset) → IsGoodRecord 0 run → run ≡ []
empty_run [] good = refl
empty_run (d ∷ run) good =
    let known = good.each.0 in absurd (none_meets d.rec d.set d.octets (rw known.0 (no_row d.set)) known.1.meets)

start_good : IsGoodRecord 0 []
unfolding table
start_good = record { each = tt; mandatory = tt; once = λ n h. omega arith }

follows_start : Follows []
follows_start = record {
  goes = λ more whole. ([], more, refl, start_good, whole);
  comes = λ more (run, rest, parts, good, later). subst (AreRecords records) (sym (parts ∙ ap (λ (xs : List Dataset). xs ++ rest) (empty_run run good))) later;
  fresh = λ r coming. refl;
}

follows_on : (ds rest : List Dataset) → Follows ds → AreViableSections (ds ++ rest) → Follows (ds ++ rest)
follows_on ds [] follows alive = subst Follows (sym (append-nil ds)) follows
follows_on ds (d ∷ rest) follows alive =
    let before : From ds (d ∷ (rest ++ alive.0)) = follows.goes (d ∷ (rest ++ alive.0)) (subst AreSections (append_assoc ds (d ∷ rest) alive.0) alive.1) in
    let same : (ds ++ d ∷ []) ++ rest ≡ ds ++ (d ∷ rest) = append_assoc ds (d ∷ []) rest in
    subst Follows same (follows_on (ds ++ d ∷ []) rest (follows_next ds d (rest ++ alive.0) follows before) (subst AreViableSections (sym same) alive))

pub alive_follows : (ds : List Dataset) → AreViableSections ds → Follows ds
alive_follows ds alive = follows_on [] ds follows_start alive
