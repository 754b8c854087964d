-- Prefixes of the datasets of records 7 to 9, and the places there.
use Rattle.iim_object.proofs.Words.{◌≡◌, ℕ, ◌<◌, ◌≤◌, ◌⊎◌, Bool, ◌==◌, List, [], ◌∷◌, ◌++◌, length, refl, sym, ap, subst, ◌∙◌, arith, inl, inr, append-nil, length-append, AllByRecursion, eq-eqb, nil_from_length, Dataset, of_record, all_front, all_back, all_map, nothing_of_two, Place, AreObjectRecords, numbers_of, lengths_of, place_after_datasets}
use Rattle.std.proofs.lemmas.Bool.{ne_eqb}
use Rattle.std.proofs.lemmas.List.Elements.{filter-append}
use Rattle.iim_object.specs.{Format.Objects.ending_of, Laws.AreByNumber, Laws.RecordsAreByNumber}
use Rattle.iim_object.proofs.Members.{IsMember, one_confirmation}

-- ---- The datasets of a record.

-- A dataset of the record adds one to its datasets, and others add none.
pub more_of : (rec : ℕ) (ds : List Dataset) (d : Dataset) (more : List Dataset) → d.rec ≡ rec
    → of_record rec (ds ++ d ∷ more) ≡ of_record rec ds ++ d ∷ of_record rec more
more_of rec ds d more e = rw (filter-append (λ (x : Dataset). x.rec == rec) ds (d ∷ more), eq-eqb d.rec rec e) refl

pub same_of : (rec : ℕ) (ds : List Dataset) (d : Dataset) → (d.rec ≡ rec → ⊥) → of_record rec (ds ++ d ∷ []) ≡ of_record rec ds
same_of rec ds d other = rw (filter-append (λ (x : Dataset). x.rec == rec) ds (d ∷ []), ne_eqb d.rec rec other) (append-nil (of_record rec ds))

all_in : (rec : ℕ) (ds : List Dataset) → AllByRecursion (λ d. d.rec ≡ rec) ds → of_record rec ds ≡ ds
all_in rec [] h = refl
all_in rec (d ∷ ds) h = rw (eq-eqb d.rec rec h.0, all_in rec ds h.1) refl

none_in : (rec : ℕ) (ds : List Dataset) → AllByRecursion (λ d. d.rec ≡ rec → ⊥) ds → of_record rec ds ≡ []
none_in rec [] h = refl
none_in rec (d ∷ ds) h = rw (ne_eqb d.rec rec h.0) (none_in rec ds h.1)

other_record : (rec wanted : ℕ) (ds : List Dataset) → (rec ≡ wanted → ⊥) → AllByRecursion (λ d. d.rec ≡ rec) ds → of_record wanted ds ≡ []
other_record rec wanted ds other h = none_in wanted ds (all_map (λ (d : Dataset). d.rec ≡ rec) (λ (d : Dataset). d.rec ≡ wanted
    → ⊥) ds (λ d is e. other (sym is ∙ e)) h)

lower_record : (wanted : ℕ) (ds : List Dataset) → 7 ≤ wanted → AllByRecursion (λ d. d.rec < 7) ds → of_record wanted ds ≡ []
lower_record wanted ds high h = none_in wanted ds (all_map (λ (d : Dataset). d.rec < 7) (λ (d : Dataset). d.rec ≡ wanted
    → ⊥) ds (λ d low e. absurd (omega arith)) h)

-- Datasets of records below 7, of 7, of 8 and of 9.
pub record AreSorted (before d7 d8 d9 : List Dataset) : Type 0 where
  pub others : AllByRecursion (λ d. d.rec < 7) before
  pub sevens : AllByRecursion (λ d. d.rec ≡ 7) d7
  pub eights : AllByRecursion (λ d. d.rec ≡ 8) d8
  pub nines : AllByRecursion (λ d. d.rec ≡ 9) d9

of_parts : (rec : ℕ) (b x y z : List Dataset)
    → of_record rec (b ++ (x ++ (y ++ z))) ≡ of_record rec b ++ (of_record rec x ++ (of_record rec y ++ of_record rec z))
of_parts rec b x y z =
    let p : Dataset → Bool = λ d. d.rec == rec in
    rw (filter-append p b (x ++ (y ++ z)), filter-append p x (y ++ z), filter-append p y z) refl

-- In sorted datasets, those of each record are the ones of its number.
by_record : (b x y z : List Dataset) → AreSorted b x y z → AreByNumber (b ++ (x ++ (y ++ z))) x y z
by_record b x y z s = record {
  sevens =
      rw (of_parts 7 b x y z, lower_record 7 b (omega arith) s.others, all_in 7 x s.sevens, other_record 8 7 y (λ e. omega arith) s.eights)
      (rw (other_record 9 7 z (λ e. omega arith) s.nines) (append-nil x));
  eights =
      rw (of_parts 8 b x y z, lower_record 8 b (omega arith) s.others, other_record 7 8 x (λ e. omega arith) s.sevens, all_in 8 y s.eights)
      (rw (other_record 9 8 z (λ e. omega arith) s.nines) (append-nil y));
  nines =
      rw (of_parts 9 b x y z, lower_record 9 b (omega arith) s.others, other_record 7 9 x (λ e. omega arith) s.sevens)
      (rw (other_record 8 9 y (λ e. omega arith) s.eights, all_in 9 z s.nines) refl);
}

abbrev pub place_with : List Dataset → List Dataset → List Dataset → Place
place_with d7 d8 d9 = record { stated = numbers_of d7; lengths = lengths_of d8; ending = ending_of d9 }

pub place_is : (b x y z : List Dataset) → AreSorted b x y z → place_after_datasets (b ++ (x ++ (y ++ z))) ≡ place_with x y z
place_is b x y z s = let n = by_record b x y z s in rw (n.sevens, n.eights, n.nines) refl

of_rec : (rec : ℕ) (ds : List Dataset) → AllByRecursion (IsMember rec) ds → AllByRecursion (λ d. d.rec ≡ rec) ds
of_rec rec ds h = all_map (IsMember rec) (λ (d : Dataset). d.rec ≡ rec) ds (λ d m. m.0) h

pub sorted_members : (b x y z : List Dataset) → AllByRecursion (λ d. d.rec < 7) b → AllByRecursion (IsMember 7) x → AllByRecursion (IsMember 8) y
    → AllByRecursion (IsMember 9) z → AreSorted b x y z
sorted_members b x y z others sevens eights nines = record { others = others; sevens = of_rec 7 x sevens; eights = of_rec 8 y eights; nines = of_rec 9 z nines }

-- The records that come after one another are sorted.
pub sorted : {ds : List Dataset} (r : AreObjectRecords ds) → AreSorted r.before r.r7 r.r8 r.r9
sorted r = sorted_members r.before r.r7 r.r8 r.r9 r.others r.descriptor.each r.object.each r.confirmation.each

pub records_by_number : RecordsAreByNumber
records_by_number ds r = subst (λ (all : List Dataset). AreByNumber all r.r7 r.r8 r.r9) (sym r.parts) (by_record r.before r.r7 r.r8 r.r9 (sorted r))

-- ---- Where a prefix ends.

-- The prefix ends in the first of two lists, or after it: prefixes of both, and what remains of
-- them.
record Fronts (ds more xs ys : List Dataset) : Type 0 where
  first : List Dataset
  left : List Dataset
  second : List Dataset
  later : List Dataset
  seen : ds ≡ first ++ second
  whole : xs ≡ first ++ left
  rest : ys ≡ second ++ later
  unseen : more ≡ left ++ later
  either : (left ≡ []) ⊎ (second ≡ [])

fronts : (ds more xs ys : List Dataset) → ds ++ more ≡ xs ++ ys → Fronts ds more xs ys
fronts [] more xs ys e = record { first = []; left = xs; second = []; later = ys; seen = refl; whole = refl; rest = refl; unseen = e; either = inr refl }
fronts (d ∷ ds) more [] ys e = record {
  first = [];
  left = [];
  second = d ∷ ds;
  later = more;
  seen = refl;
  whole = refl;
  rest = sym e;
  unseen = refl;
  either = inl refl;
}
fronts (d ∷ ds) more (x ∷ xs) ys e =
    let same : d ≡ x = cc in
    let p = fronts ds more xs ys (cc) in
    record {
      first = x ∷ p.first;
      left = p.left;
      second = p.second;
      later = p.later;
      seen = cc;
      whole = cc;
      rest = p.rest;
      unseen = p.unseen;
      either = p.either;
    }

-- Of each record the datasets in the prefix, and those that remain: none of a record before one
-- that has some.
pub record Parted (ds more r7 r8 r9 : List Dataset) : Type 0 where
  pub before : List Dataset
  pub d7 : List Dataset
  pub d8 : List Dataset
  pub d9 : List Dataset
  pub between : List Dataset
  pub m7 : List Dataset
  pub m8 : List Dataset
  pub m9 : List Dataset
  pub seen : ds ≡ before ++ (d7 ++ (d8 ++ d9))
  pub unseen : more ≡ between ++ (m7 ++ (m8 ++ m9))
  pub whole7 : r7 ≡ d7 ++ m7
  pub whole8 : r8 ≡ d8 ++ m8
  pub whole9 : r9 ≡ d9 ++ m9
  pub after7 : (m7 ≡ []) ⊎ (d8 ++ d9 ≡ [])
  pub after8 : (m8 ≡ []) ⊎ (d9 ≡ [])
  pub others : AllByRecursion (λ d. d.rec < 7) before
  pub members7 : AllByRecursion (IsMember 7) d7
  pub members8 : AllByRecursion (IsMember 8) d8
  pub members9 : AllByRecursion (IsMember 9) d9
  pub left : AreSorted between m7 m8 m9

pub parted : (ds more : List Dataset) (r : AreObjectRecords (ds ++ more)) → Parted ds more r.r7 r.r8 r.r9
parted ds more r =
    let a = fronts ds more r.before (r.r7 ++ (r.r8 ++ r.r9)) r.parts in
    let b = fronts a.second a.later r.r7 (r.r8 ++ r.r9) (sym a.rest) in
    let c = fronts b.second b.later r.r8 r.r9 (sym b.rest) in
    let others = (rw a.whole at r.others) in
    let sevens = (rw b.whole at r.descriptor.each) in
    let eights = (rw c.whole at r.object.each) in
    let nines = (rw c.rest at r.confirmation.each) in
    record {
      before = a.first;
      d7 = b.first;
      d8 = c.first;
      d9 = c.second;
      between = a.left;
      m7 = b.left;
      m8 = c.left;
      m9 = c.later;
      seen = cc (a.seen, b.seen, c.seen);
      unseen = cc (a.unseen, b.unseen, c.unseen);
      whole7 = b.whole;
      whole8 = c.whole;
      whole9 = c.rest;
      after7 = rw c.seen at b.either;
      after8 = c.either;
      others = all_front (λ (d : Dataset). d.rec < 7) a.first a.left others;
      members7 = all_front (IsMember 7) b.first b.left sevens;
      members8 = all_front (IsMember 8) c.first c.left eights;
      members9 = all_front (IsMember 9) c.second c.later nines;
      left = sorted_members a.left b.left c.left c.later (all_back (λ (d : Dataset). d.rec < 7) a.first a.left others)
          (all_back (IsMember 7) b.first b.left sevens)
          (all_back (IsMember 8) c.first c.left eights) (all_back (IsMember 9) c.second c.later nines);
    }

pub by_number : {ds more r7 r8 r9 : List Dataset} (p : Parted ds more r7 r8 r9) → AreByNumber ds p.d7 p.d8 p.d9
by_number p = rw p.seen (by_record p.before p.d7 p.d8 p.d9 (sorted_members p.before p.d7 p.d8 p.d9 p.others p.members7 p.members8 p.members9))

-- The first dataset of sorted ones, from record 7 on.
pub first_of : (d : Dataset) (more b x y z : List Dataset) → d ∷ more ≡ b ++ (x ++ (y ++ z)) → AreSorted b x y z → 7 ≤ d.rec
    → ((d.rec ≡ 7) × (0 < length x)) ⊎ (((d.rec ≡ 8) × (x ≡ []) × (0 < length y)) ⊎ ((d.rec ≡ 9) × (x ≡ []) × (y ≡ []) × (0 < length z)))
first_of d more (c ∷ b) x y z e s high = let same : d ≡ c = cc in absurd (omega (arith, ap (λ (d : Dataset). d.rec) same, s.others.0))
first_of d more [] (c ∷ x) y z e s high = let same : d ≡ c = cc in inl (rw same s.sevens.0, omega arith)
first_of d more [] [] (c ∷ y) z e s high = let same : d ≡ c = cc in inr (inl (rw same s.eights.0, refl, omega arith))
first_of d more [] [] [] (c ∷ z) e s high = let same : d ≡ c = cc in inr (inr (rw same s.nines.0, refl, refl, omega arith))
first_of d more [] [] [] [] e s high = absurd cc

-- Before a number of record 7 there is no subfile, and no end.
pub next_number : (ds : List Dataset) (d : Dataset) (more : List Dataset) (r : AreObjectRecords (ds ++ d ∷ more)) → d.rec ≡ 7
    → (of_record 8 ds ≡ []) × (of_record 9 ds ≡ [])
next_number ds d more r is =
    let p = parted ds (d ∷ more) r in
    let none : p.d8 ++ p.d9 ≡ [] = elim (first_of d more p.between p.m7 p.m8 p.m9 p.unseen p.left (omega arith)) [
      | inl f ↦ elim p.after7 [ inl e ↦ absurd (omega (arith, f.1, ap length e)) | inr e ↦ e ]
      | inr (inl f) ↦ absurd (omega (arith, f.0))
      | inr (inr f) ↦ absurd (omega (arith, f.0))
    ] in
    let both = nothing_of_two p.d8 p.d9 none in
    let n = by_number p in
    (n.eights ∙ both.0, n.nines ∙ both.1)

-- Before a subfile there is all of record 7, and no end.
pub next_subfile : (ds : List Dataset) (d : Dataset) (more : List Dataset) (r : AreObjectRecords (ds ++ d ∷ more)) → d.rec ≡ 8
    → (of_record 7 ds ≡ r.r7) × (of_record 9 ds ≡ [])
next_subfile ds d more r is =
    let p = parted ds (d ∷ more) r in
    let n = by_number p in
    elim (first_of d more p.between p.m7 p.m8 p.m9 p.unseen p.left (omega arith)) [
      | inl f ↦ absurd (omega (arith, f.0))
      | inr (inl f) ↦
          (n.sevens ∙ sym (rw (f.1, append-nil) at p.whole7), elim p.after8 [ inl e ↦ absurd (omega (arith, f.2, ap length e)) | inr e ↦ n.nines ∙ e ])
      | inr (inr f) ↦ absurd (omega (arith, f.0))
    ]

-- Before the end there are all of records 7 and 8, and no other end.
pub record NextEnd (ds r7 r8 : List Dataset) : Type 0 where
  pub before : List Dataset
  pub others : AllByRecursion (λ d. d.rec < 7) before
  pub seen : ds ≡ before ++ (r7 ++ r8)
  pub eights : of_record 8 ds ≡ r8
  pub nines : of_record 9 ds ≡ []

pub next_end : (ds : List Dataset) (d : Dataset) (more : List Dataset) (r : AreObjectRecords (ds ++ d ∷ more)) → d.rec ≡ 9 → NextEnd ds r.r7 r.r8
next_end ds d more r is =
    let p = parted ds (d ∷ more) r in
    let (one, m, only) = one_confirmation r.r9 r.confirmation in
    let n = by_number p in
    elim (first_of d more p.between p.m7 p.m8 p.m9 p.unseen p.left (omega arith)) [
      | inl f ↦ absurd (omega (arith, f.0))
      | inr (inl f) ↦ absurd (omega (arith, f.0))
      | inr (inr f) ↦
          let none : p.d9 ≡ [] = nil_from_length p.d9 (omega (arith, f.3, ap length p.whole9, ap length only, length-append p.d9 p.m9)) in
          let seven : r.r7 ≡ p.d7 = (rw (f.1, append-nil) at p.whole7) in
          let eight : r.r8 ≡ p.d8 = (rw (f.2, append-nil) at p.whole8) in
          record {
            before = p.before;
            others = p.others;
            seen = cc (p.seen, seven, eight, none, append-nil p.d8);
            eights = n.eights ∙ sym eight;
            nines = n.nines ∙ none;
          }
    ]
