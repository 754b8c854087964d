-- The datasets of a packed form, by record.
use Rattle.iim_pack.proofs.Words.{◌≡◌, ℕ, Bool, true, false, nat_eq, List, [], ◌∷◌, ◌++◌, refl, sym, ap, ◌∙◌, append_assoc, append-nil, AllByRecursion, Dataset, of_record, all_map, kept, joined, joined_parts, subfile_datasets}
use Rattle.std.specs.List.{filter}
use Rattle.std.proofs.lemmas.List.Elements.{filter-append}
use Rattle.iim_fields.specs.Format.Causes.{is_kept}

-- ---- the items that pass a test

all_pass : (p : Dataset → Bool) (ds : List Dataset) → AllByRecursion (λ d. p d ≡ true) ds → filter p ds ≡ ds
all_pass p [] h = refl
all_pass p (d ∷ ds) h = rw h.0 (ap (λ (xs : List Dataset). d ∷ xs) (all_pass p ds h.1))

none_pass : (p : Dataset → Bool) (ds : List Dataset) → AllByRecursion (λ d. p d ≡ false) ds → filter p ds ≡ []
none_pass p [] h = refl
none_pass p (d ∷ ds) h = rw h.0 (none_pass p ds h.1)

-- each dataset is of the record
abbrev pub AreOf : ℕ → List Dataset → Type 0
AreOf rec ds = AllByRecursion (λ d. d.rec ≡ rec) ds

by_record : (p : ℕ → Bool) (rec : ℕ) (b : Bool) (ds : List Dataset) → p rec ≡ b → AreOf rec ds → AllByRecursion (λ d. p d.rec ≡ b) ds
by_record p rec b ds test h = all_map (λ (d : Dataset). d.rec ≡ rec) (λ (d : Dataset). p d.rec ≡ b) ds (λ d is. ap p is ∙ test) h

-- five records in a row
five : (p : ℕ → Bool) (a b x y z : List Dataset)
    → filter (λ d. p d.rec) ((a ++ b) ++ (x ++ (y ++ z))) ≡ (filter (λ d. p d.rec) a ++ filter (λ d. p d.rec) b)
    ++ (filter (λ d. p d.rec) x ++ (filter (λ d. p d.rec) y ++ filter (λ d. p d.rec) z))
five p a b x y z =
    let q : Dataset → Bool = λ d. p d.rec in
    filter-append q (a ++ b) (x ++ (y ++ z))
    ∙ (λ i. filter-append q a b i ++ (filter-append q x (y ++ z) ∙ ap (λ (t : List Dataset). filter q x ++ t) (filter-append q y z)) i)

-- datasets of the records 1, 2, 7, 8 and 9
pub record AreInOrder (a b x y z : List Dataset) : Type 0 where
  pub ones : AreOf 1 a
  pub twos : AreOf 2 b
  pub sevens : AreOf 7 x
  pub eights : AreOf 8 y
  pub nines : AreOf 9 z

-- All datasets of a record that passes are kept, and none of a record that does not.
abbrev pick : Bool → List Dataset → List Dataset
pick true ds = ds
pick false ds = []

picked_record : (p : ℕ → Bool) (rec : ℕ) (b : Bool) (ds : List Dataset) → p rec ≡ b → AreOf rec ds → filter (λ d. p d.rec) ds ≡ pick b ds
picked_record p rec true ds test h = all_pass (λ d. p d.rec) ds (by_record p rec true ds test h)
picked_record p rec false ds test h = none_pass (λ d. p d.rec) ds (by_record p rec false ds test h)

-- the records that pass, of five in a row
picked : (p : ℕ → Bool) (a b x y z : List Dataset) → AreInOrder a b x y z
    → filter (λ d. p d.rec) ((a ++ b) ++ (x ++ (y ++ z))) ≡ (pick (p 1) a ++ pick (p 2) b) ++ (pick (p 7) x ++ (pick (p 8) y ++ pick (p 9) z))
picked p a b x y z o =
    five p a b x y z
    ∙ (λ i. (picked_record p 1 (p 1) a refl o.ones i ++ picked_record p 2 (p 2) b refl o.twos i)
    ++ (picked_record p 7 (p 7) x refl o.sevens i ++ (picked_record p 8 (p 8) y refl o.eights i ++ picked_record p 9 (p 9) z refl o.nines i)))

pub kept_are : (a b x y z : List Dataset) → AreInOrder a b x y z → kept ((a ++ b) ++ (x ++ (y ++ z))) ≡ a ++ b
kept_are a b x y z o = picked is_kept a b x y z o ∙ append-nil (a ++ b)

pub sevens_are : (a b x y z : List Dataset) → AreInOrder a b x y z → of_record 7 ((a ++ b) ++ (x ++ (y ++ z))) ≡ x
sevens_are a b x y z o = picked (λ r. nat_eq r 7) a b x y z o ∙ append-nil x

pub eights_are : (a b x y z : List Dataset) → AreInOrder a b x y z → of_record 8 ((a ++ b) ++ (x ++ (y ++ z))) ≡ y
eights_are a b x y z o = picked (λ r. nat_eq r 8) a b x y z o ∙ append-nil y

pub nines_are : (a b x y z : List Dataset) → AreInOrder a b x y z → of_record 9 ((a ++ b) ++ (x ++ (y ++ z))) ≡ z
nines_are a b x y z o = picked (λ r. nat_eq r 9) a b x y z o

-- ---- the data of the subfiles

pub object_joined : (full : List (List ℕ)) (last : List ℕ) → joined (subfile_datasets (full ++ last ∷ [])) ≡ joined_parts full ++ last
object_joined [] last = append-nil last
object_joined (f ∷ fs) last = ap (λ (t : List ℕ). f ++ t) (object_joined fs last) ∙ sym (append_assoc f (joined_parts fs) last)
