-- Consumers of complete datasets: consuming lists in turn, and datasets that can continue.
use Rattle.std.proofs.Common.{◌≡◌, ℕ, ◌≤◌, ◌≢◌, Bool, true, false, Option, Result, Ok, Err, OnOk, IfOk, IfErr, is_ok, List, [], ◌∷◌, ◌++◌, refl, subst, ◌∙◌, rules, arith, append_assoc}
use Rattle.iim_places.proofs.Words.{AllByRecursion, Dataset, head_of, Head, all_front, all_back, AcceptsHead, HasChecked, HasAcceptedHead, IsChecking, IsValueFault, AreViableSections, AreSections, records, IsGoodDataset, data_of, encoded_number, RecordPlace, FieldFault, Limits, front_alive, mode_dataset, widest, CanContinueWithin, ConsumesEach}
use Rattle.iim_places.proofs.{Bounds.each_in, Limits.kept_octets_append, Limits.kept_length_append}
use Rattle.iim_fields.specs.States.Standing.{FieldsPlace, IsBetweenDatasets, IsDatasetOf, HasReadDatasets, IsReadingDataset, limits_of}

-- If no datasets can continue, none can after further datasets.
pub no_more : (limits : Limits) (ds es fs : List Dataset) → (CanContinueWithin limits (ds ++ es) → ⊥) → CanContinueWithin limits (ds ++ (es ++ fs)) → ⊥
no_more limits ds es fs none goes =
    let all = rw (← append_assoc ds es fs) at goes in
    let octets = kept_octets_append (ds ++ es) fs in
    let fields = kept_length_append (ds ++ es) fs in
    none (record { alive = front_alive (ds ++ es) fs all.alive; within = search (rules, arith) })

-- consuming one list after another, and their value
pub took_more : {T : Type 0} (ready : T → Type 0) (stands : T → List Dataset → Type 0) (limits : T → Limits) (a b c : T) (es fs : List Dataset) (all : Bool)
    → ConsumesEach ready stands limits a es b true → ConsumesEach ready stands limits b fs c all → ConsumesEach ready stands limits a (es ++ fs) c all
took_more ready stands limits a b c es fs true h k = (k.0, k.1 ∙ h.1, λ ds s. rw (← append_assoc ds es fs) (k.2 (ds ++ es) (h.2 ds s)))
took_more ready stands limits a b c es fs false h k = λ ds s goes. k (ds ++ es) (h.2 ds s) (rw (h.1, append_assoc ds es fs) goes)

pub each_good : (ds : List Dataset) → AreSections ds → AllByRecursion IsGoodDataset ds
each_good ds are = each_in IsGoodDataset records ds (search rules) are

pub good_at : (ds : List Dataset) (d : Dataset) → AreViableSections (ds ++ d ∷ []) → IsGoodDataset d
good_at ds d (more, are) = (all_back IsGoodDataset ds (d ∷ []) (all_front IsGoodDataset (ds ++ d ∷ []) more (each_good ((ds ++ d ∷ []) ++ more) are))).0

-- a mode is an octet
pub no_wide_mode : (limits : Limits) (ds : List Dataset) (n : ℕ) → 256 ≤ n → CanContinueWithin limits (ds ++ mode_dataset n ∷ []) → ⊥
no_wide_mode limits ds n wide goes =
    let good = good_at ds (mode_dataset n) goes.alive in omega (arith, wide, good.octets.0)

-- in a check of records: a value that was consumed after its head, or not
pub value_took : (a b c : Option RecordPlace) (d : Dataset) (r : Result (Option ℕ) FieldFault)
    → ((ds : List Dataset) → HasChecked a ds → HasAcceptedHead b ds (head_of d)) → d.rec ≢ 8
    → OnOk r (AcceptsHead c) → IfOk r (λ number. (ds : List Dataset) (h : Head) → IsChecking b ds h
    → HasChecked c (ds ++ data_of h d.octets ∷ []) × (number ≡ encoded_number (data_of h d.octets)))
    → IfErr r (λ fault. (ds : List Dataset) (h : Head) → IsChecking b ds h → IsValueFault ds (data_of h d.octets) fault)
    → ConsumesEach AcceptsHead HasChecked (λ (_ : Option RecordPlace). widest) a (d ∷ []) c (is_ok r)
value_took a b c d (Ok number) taken other takes stands fault = (takes, refl, λ ds s. (stands ds (head_of d) ((taken ds s).checking other)).0)
value_took a b c d (Err e) taken other takes stands fault = λ ds s goes. (fault ds (head_of d) ((taken ds s).checking other)).dead goes.alive

-- in a reader of records: a dataset that was consumed after its head and its data, or not
pub closed_took : (a b c : FieldsPlace) (d : Dataset) (taken : List ℕ) (r : Result (Option ℕ) FieldFault)
    → ((ds : List Dataset) → HasReadDatasets a ds → IsReadingDataset b ds (head_of d) taken) → IsDatasetOf (head_of d) taken d
    → OnOk r (IsBetweenDatasets c) → limits_of c ≡ limits_of a
    → IfOk r (λ number. (ds : List Dataset) (h : Head) (xs : List ℕ) → IsReadingDataset b ds h xs → (e : Dataset) → IsDatasetOf h xs e
    → HasReadDatasets c (ds ++ e ∷ []) × (number ≡ encoded_number e))
    → IfErr r (λ fault. (ds : List Dataset) (h : Head) (xs : List ℕ) → IsReadingDataset b ds h xs → IsValueFault ds (data_of h xs) fault)
    → ConsumesEach IsBetweenDatasets HasReadDatasets limits_of a (d ∷ []) c (is_ok r)
closed_took a b c d taken (Ok number) stands is between same closes fault = (between, same, λ ds s. (closes ds (head_of d) taken (stands ds s) d is).0)
closed_took a b c d taken (Err e) stands is between same closes fault = λ ds s goes.
    let bad = fault ds (head_of d) taken (stands ds s) in
    bad.dead (subst (λ (xs : List ℕ). AreViableSections (ds ++ data_of (head_of d) xs ∷ [])) (is.given bad.value) goes.alive)
