-- Positions of the object after heads and values.
use Rattle.std.proofs.Common.{◌≡◌, ℕ, ◌+◌, ◌<◌, ◌⊎◌, true, false, if◌then◌else◌, nat_eq, List, [], ◌∷◌, ◌++◌, length, refl, ap, sym, subst, ◌∙◌, inl, inr, rules, arith, length-append}
use Rattle.iim_places.proofs.Words.{AllByRecursion, filter-append, or_cases, eqb-true, ne_eqb, number, Dataset, head_of, of_record, Head, all_append, all_front, all_back, all_map, AreViableSections, AreViableSectionsWithHead, has_number_value, max_subfiles, MayFollow, place_after, head_token, value_token, AreObjectRecords, AreSized, place_after_datasets, DatasetsAreViableWithTheirTokens, place_at, ObjectIsViable, LayerLemmas, IsViablePrefix, Limits, CanContinueAt, RejectsHead, Layer}
use Rattle.iim_places.proofs.{Objects.records_alive, Living.viable_prefix}
use Rattle.iim_places.specs.declared.refusal.Layer.TheVariants as layers

-- ---- the records of datasets that are viable

-- the record is one before 7, or 7, 8 or 9
abbrev IsOne : ℕ → Type 0
IsOne r = (r < 7) ⊎ ((r ≡ 7) ⊎ ((r ≡ 8) ⊎ (r ≡ 9)))

all_ones : (ds : List Dataset) → AreObjectRecords ds → AllByRecursion (λ x. IsOne x.rec) ds
all_ones ds r =
    subst (AllByRecursion (λ (x : Dataset). IsOne x.rec)) (sym r.parts)
    (all_append _ r.before (r.r7 ++ (r.r8 ++ r.r9)) (all_map _ _ r.before (λ x h. inl h) r.others)
    (all_append _ r.r7 (r.r8 ++ r.r9) (all_map _ _ r.r7 (λ x h. inr (inl h.0)) r.descriptor.each)
    (all_append _ r.r8 r.r9 (all_map _ _ r.r8 (λ x h. inr (inr (inl h.0))) r.object.each) (all_map _ _ r.r9 (λ x h. inr (inr (inr h.0))) r.confirmation.each))))

pub is_one : (ds : List Dataset) (d : Dataset) → AreViableSections (ds ++ d ∷ []) → IsOne d.rec
is_one ds d alive = let r = records_alive (ds ++ d ∷ []) alive in (all_back (λ (x : Dataset). IsOne x.rec) ds (d ∷ [])
    (all_front (λ (x : Dataset). IsOne x.rec) (ds ++ d ∷ []) r.0 (all_ones ((ds ++ d ∷ []) ++ r.0) r.1))).0

-- ---- the position at a head

-- It is determined by the head's record and its count.
at_record : (r : ℕ) (ds : List Dataset) (h : Head) → h.rec ≡ r → place_at ds h ≡ place_at ds (record h { rec = r })
at_record r ds h is = ap (λ (k : ℕ). place_at ds (record h { rec = k })) is

pub at_number : (ds : List Dataset) (h : Head) → h.rec ≡ 7 → place_at ds h ≡ place_after_datasets ds
at_number = at_record 7

pub at_other : (ds : List Dataset) (h : Head) → h.rec < 7 → place_at ds h ≡ place_after_datasets ds
at_other ds h less = rw (ne_eqb h.rec 8 (λ e. omega (arith, e, less)), ne_eqb h.rec 9 (λ e. omega (arith, e, less))) refl

-- ---- heads

-- the position after a head
abbrev pub HeadLeads : List Dataset → Head → Type 0
HeadLeads ds h = MayFollow (place_after_datasets ds) (head_token h.rec h.count)
    × (place_after (place_after_datasets ds) (head_token h.rec h.count) ≡ place_at ds h)

pub subfile_reaches : LayerLemmas → (ds : List Dataset) (h : Head) → AreViableSectionsWithHead ds h → h.rec ≡ 8 → length (of_record 8 ds) < max_subfiles
    → HeadLeads ds h
subfile_reaches laws ds h (d, is, alive) eight few =
    rw eight ((laws.subfiles_reach_their_place ds d (records_alive (ds ++ d ∷ []) alive) (ap (λ (k : Head). k.rec) is ∙ eight) few).0, refl)

pub end_reaches : LayerLemmas → (ds : List Dataset) (h : Head) → AreViableSectionsWithHead ds h → h.rec ≡ 9 → HeadLeads ds h
end_reaches laws ds h (d, is, alive) nine = rw nine (laws.ends_reach_their_place ds d (records_alive (ds ++ d ∷ []) alive) (ap (λ
    (k : Head). k.rec) is ∙ nine)).0

-- ---- values

-- the position after the number of a value
abbrev pub ValueLeads : List Dataset → Dataset → Type 0
ValueLeads ds d = MayFollow (place_at ds (head_of d)) (value_token d.rec d.set (number d.octets))
    × (place_after (place_at ds (head_of d)) (value_token d.rec d.set (number d.octets)) ≡ place_after_datasets (ds ++ d ∷ []))

pub number_reaches : LayerLemmas → (ds : List Dataset) (d : Dataset) → AreViableSections (ds ++ d ∷ []) → has_number_value d.rec ≡ true → ValueLeads ds d
number_reaches laws ds d alive tells =
    let token : (r : ℕ) → d.rec ≡ r → value_token d.rec d.set (number d.octets) ≡ value_token r d.set (number d.octets) =
    λ r is. ap (λ (k : ℕ). value_token k d.set (number d.octets)) is in
    let whole = records_alive (ds ++ d ∷ []) alive in
    elim (or_cases (nat_eq d.rec 7) (nat_eq d.rec 9) tells) [
      | inl seven ↦ let is = eqb-true d.rec 7 seven in rw (at_record 7 ds (head_of d) is, token 7 is) (laws.numbers_reach_their_place ds d whole is)
      | inr nine ↦ let is = eqb-true d.rec 9 nine in rw (at_record 9 ds (head_of d) is, token 9 is) (laws.ends_reach_their_place ds d whole is).1
    ]

-- a value that encodes no number reaches the same position as its head
pub silent_reaches : LayerLemmas → (ds : List Dataset) (d : Dataset) → AreViableSections (ds ++ d ∷ []) → has_number_value d.rec ≡ false
    → (d.rec ≡ 8 → length (of_record 8 ds) < max_subfiles)
    → place_at ds (head_of d) ≡ place_after_datasets (ds ++ d ∷ [])
silent_reaches laws ds d alive none few = elim (is_one ds d alive) [
  | inl less ↦ at_other ds (head_of d) less ∙ sym (laws.others ds d less)
  | inr (inl seven) ↦ absurd (let bad : true ≡ false = rw seven at none in cc)
  | inr (inr (inl eight)) ↦ at_record 8 ds (head_of d) eight ∙ (laws.subfiles_reach_their_place ds d (records_alive (ds ++ d ∷ []) alive) eight (few eight)).1
  | inr (inr (inr nine)) ↦ absurd (let bad : true ≡ false = rw nine at none in cc)
]

pub one_more : (ds : List Dataset) (d : Dataset) → length (of_record 8 (ds ++ d ∷ [])) ≡ length (of_record 8 ds) + (if nat_eq d.rec 8 then 1 else 0)
one_more ds d =
    grind (arith, ap length (filter-append (λ (x : Dataset). nat_eq x.rec 8) ds (d ∷ [])), length-append (of_record 8 ds) (of_record 8 (d ∷ [])))

-- ---- what continues to datasets with sizes

pub lives_after : DatasetsAreViableWithTheirTokens → (ds : List Dataset) → AreViableSections ds → IsViablePrefix AreSized ds → ObjectIsViable
    (place_after_datasets ds)
lives_after live ds alive sized = (live ds (records_alive ds alive)).0 sized

-- the object layer can continue after the head of a dataset that continues to datasets with sizes
pub lives_at : LayerLemmas → (ds : List Dataset) (d : Dataset) → AreViableSections (ds ++ d ∷ [])
    → IsViablePrefix AreSized (ds ++ d ∷ []) → (d.rec ≡ 8 → length (of_record 8 ds) < max_subfiles) → ObjectIsViable (place_at ds (head_of d))
lives_at laws ds d alive sized few =
    let whole = records_alive (ds ++ d ∷ []) alive in
    let before : ObjectIsViable (place_after_datasets ds) =
    (laws.live ds (viable_prefix AreObjectRecords ds (d ∷ []) whole)).0 (viable_prefix AreSized ds (d ∷ []) sized) in
    elim (is_one ds d alive) [
      | inl less ↦ subst ObjectIsViable (sym (at_other ds (head_of d) less)) before
      | inr (inl seven) ↦ subst ObjectIsViable (sym (at_number ds (head_of d) seven)) before
      | inr (inr (inl eight)) ↦
          subst ObjectIsViable (sym (at_record 8 ds (head_of d) eight ∙ (laws.subfiles_reach_their_place ds d whole eight (few eight)).1))
          (lives_after laws.live (ds ++ d ∷ []) alive sized)
      | inr (inr (inr nine)) ↦ subst ObjectIsViable (sym (at_record 9 ds (head_of d) nine)) ((laws.ended ds d whole nine).0 (d, nine, sized))
    ]

-- ---- no layer rejects what all can continue with

pub no_rejected_head : (layer : Layer) (limits : Limits) (ds : List Dataset) (h : Head) → CanContinueAt limits ds h → RejectsHead layer limits ds h → ⊥
no_rejected_head layers.Record limits ds h goes dead = search rules
no_rejected_head layer limits ds h goes dead = search rules
