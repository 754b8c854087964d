-- Datasets of one position have the same numbers in each record.
use Rattle.std.proofs.Common.{◌≡◌, ℕ, ◌<◌, ◌≤◌, Bool, true, false, cond, nat_eq, List, [], ◌∷◌, ◌++◌, length, is_some, None, refl, ap, sym, subst, ◌∙◌, inl, ◌&&◌, inr, arith}
use Rattle.iim_places.proofs.Words.{AllByRecursion, eqb-true, ne_eqb, filter-append, list_any-append, number, Dataset, head_alive, has_number_value, value_token, head_of, of_record, Head, all_front, records, IsGoodDataset, occurs, AreViableSections, AreViableSectionsWithHead, section_after, kept, is_kept, by_record, max_subfiles, StatedNumber, IsAllowedByRow, AreStatedNumbers, number_at, numbers_of, ObjectToken, NotEnded, HasModeAndLargest, MayFollow, place_after, head_token, place_after_datasets, stated_numbers, zero_or_one, place_at, LayerLemmas, all_map}
use Rattle.iim_places.proofs.{SizeRows.HasTen, SizeRows.Unstated, SizeRows.by_number, SizeRows.by_ten, SizeRows.eight_has, SizeRows.nine_has, Plain.filter_none}
use Rattle.iim_places.proofs.Places.{one_more, is_one, at_other, at_number, subfile_reaches, end_reaches, HeadLeads, number_reaches, silent_reaches}
use Rattle.iim_places.proofs.{Bounds.each_in, Bounds.by_last, Taking.each_good}
use Rattle.iim_object.specs.Format.Objects.{Place}
pub use Rattle.iim_places.proofs.Bounds.{nines}

-- The datasets have the same numbers in each record.
pub record SameRecords (ds es : List Dataset) : Type 0 where
  pub seen : (r n : ℕ) → occurs n (of_record r ds) ≡ occurs n (of_record r es)

-- ---- one more dataset

pub seen_on : {ds es xs ys : List Dataset} → SameRecords ds es → SameRecords xs ys → SameRecords (ds ++ xs) (es ++ ys)
seen_on {ds} {es} {xs} {ys} same more = grind (arith, filter-append, list_any-append)

pub same_more : (ds es : List Dataset) (d e : Dataset) → head_of d ≡ head_of e → SameRecords ds es → SameRecords (ds ++ d ∷ []) (es ++ e ∷ [])
same_more ds es d e is same = seen_on same (record { seen = λ r n. grind (arith, is) })

pub of_kept : (r : ℕ) → is_kept r ≡ true → (ds : List Dataset) → of_record r (kept ds) ≡ of_record r ds
of_kept r is [] = refl
of_kept r is (d ∷ ds) = grind (arith, of_kept r is ds, is, eqb-true)

-- ---- record 7, whose numbers are determined

-- the object layer's position is one that tokens reach, whether or not it is viable
pub record IsStated (p : Place) : Type 0 where
  pub stated : AreStatedNumbers p.stated
  pub subfiles : p.lengths ≡ [] → p.ending ≡ NotEnded
  pub duties : 0 < length p.lengths → HasModeAndLargest p.stated

stated_after : (p : Place) (token : ObjectToken) → MayFollow p token → IsStated p → IsStated (place_after p token)
stated_after p token may is = grind arith

stated_head : LayerLemmas → (ds : List Dataset) (h : Head) → AreViableSectionsWithHead ds h → (h.rec ≡ 8 → length (of_record 8 ds) < max_subfiles)
    → IsStated (place_after_datasets ds) → IsStated (place_at ds h)
stated_head laws ds h at room is =
    let rec : at.0.rec ≡ h.rec = ap (λ (k : Head). k.rec) at.1 in
    let after = λ (leads : HeadLeads ds h). subst IsStated leads.1 (stated_after (place_after_datasets ds) (head_token h.rec h.count) leads.0 is) in
    elim (is_one ds at.0 at.2) [
      | inl low ↦ subst IsStated (sym (at_other ds h (omega (arith, low, rec)))) is
      | inr (inl seven) ↦ subst IsStated (sym (at_number ds h (sym rec ∙ seven))) is
      | inr (inr (inl eight)) ↦ after (subfile_reaches laws ds h at (sym rec ∙ eight) (room (sym rec ∙ eight)))
      | inr (inr (inr nine)) ↦ after (end_reaches laws ds h at (sym rec ∙ nine))
    ]

stated_step : LayerLemmas → (xs : List Dataset) (d : Dataset) → AreViableSections (xs ++ d ∷ []) → (d.rec ≡ 8 → length (of_record 8 xs) < max_subfiles)
    → IsStated (place_after_datasets xs) → IsStated (place_after_datasets (xs ++ d ∷ []))
stated_step laws xs d alive few is =
    let head = stated_head laws xs (head_of d) (d, refl, alive) few is in
    elim (has_number_value d.rec) as (λ b. has_number_value d.rec ≡ b → IsStated (place_after_datasets (xs ++ d ∷ []))) [
      | true ↦ λ told.
          let leads = number_reaches laws xs d alive told in
          subst IsStated leads.1 (stated_after (place_at xs (head_of d)) (value_token d.rec d.set (number d.octets)) leads.0 head)
      | false ↦ λ none. subst IsStated (silent_reaches laws xs d alive none few) head
    ] refl

pub stated_after_all : LayerLemmas → (ds : List Dataset) → AreViableSections ds → length (of_record 8 ds) ≤ max_subfiles → IsStated (place_after_datasets ds)
stated_after_all laws =
    by_last (λ (ds : List Dataset). length (of_record 8 ds) ≤ max_subfiles → IsStated (place_after_datasets ds))
    (λ few. record { stated = record { each = tt; once = tt }; subfiles = λ e. refl; duties = λ some. absurd (omega (arith, some)) })
    (λ xs d alive is few.
    let more = one_more xs d in stated_step laws xs d alive (λ eight. grind (arith, few, more, eight)) (is (omega (arith, few, more))))

pub stated_at : LayerLemmas → (ds : List Dataset) (h : Head) → AreViableSectionsWithHead ds h → length (of_record 8 ds) ≤ max_subfiles
    → (h.rec ≡ 8 → length (of_record 8 ds) < max_subfiles) → IsStated (place_at ds h)
stated_at laws ds h at few room = stated_head laws ds h at room (stated_after_all laws ds (head_alive ds h at) few)

-- a number occurs where it is stated
pub occurs_stated : (n : ℕ) (ds : List Dataset) → occurs n ds ≡ is_some (number_at n (numbers_of ds))
occurs_stated n [] = refl
occurs_stated n (d ∷ ds) = grind (arith, occurs_stated n ds)

not_stated : (n : ℕ) (ps : List StatedNumber) → Unstated n → AllByRecursion IsAllowedByRow ps → number_at n ps ≡ None
not_stated n [] other all = refl
not_stated n (p ∷ ps) other all = grind (arith, not_stated n ps other all.1, all.0)

-- the numbers of record 7, one by one
pub record SameNumbers (ps qs : List StatedNumber) : Type 0 where
  pub mode : number_at 10 ps ≡ number_at 10 qs
  pub largest : number_at 20 ps ≡ number_at 20 qs
  pub announced : number_at 90 ps ≡ number_at 90 qs
  pub maximum : number_at 95 ps ≡ number_at 95 qs

pub same_numbers : (ps qs : List StatedNumber) → stated_numbers ps ≡ stated_numbers qs → SameNumbers ps qs
same_numbers ps qs e = record { mode = cc e; largest = cc e; announced = cc e; maximum = cc e }

-- the numbers agree if the stated values do
pub same_stated : (n : ℕ) (xs ys : List Dataset) → SameNumbers (numbers_of xs) (numbers_of ys) → AllByRecursion IsAllowedByRow (numbers_of xs)
    → AllByRecursion IsAllowedByRow (numbers_of ys) → occurs n xs ≡ occurs n ys
same_stated n xs ys same a b = grind (arith, by_number, not_stated, occurs_stated n xs, occurs_stated n ys)

-- ---- records 8 and 9, whose one number is 10

abbrev pub AreTens : List Dataset → Type 0
AreTens ds = AllByRecursion (λ d. d.set ≡ 10) ds

tens_in : (r : ℕ) → HasTen r → (ds : List Dataset) → AllByRecursion IsGoodDataset ds → AreTens (of_record r ds)
tens_in r has [] all = tt
tens_in r has (d ∷ ds) (good, more) =
    let ten : d.rec ≡ r → d.set ≡ 10 = λ is. by_ten r has d.octets (λ n. n ≡ 10) (λ m. refl) d.set (rw is at good.meets) in
    let later = tens_in r has ds more in grind (arith, ten, later)

pub tens_after : (ds : List Dataset) → AreViableSections ds → AreTens (of_record 8 ds) × AreTens (of_record 9 ds)
tens_after ds alive = grind (arith, all_front, each_good, tens_in, eight_has, nine_has)

ten_seen : (n : ℕ) (xs : List Dataset) → AreTens xs → occurs n xs ≡ (nat_eq (zero_or_one (length xs)) 1 && nat_eq 10 n)
ten_seen n [] all = refl
ten_seen n (x ∷ xs) all = grind (arith, ten_seen n xs all.1, all.0)

-- Datasets of the number 10 have the same numbers as others, if both lists are empty or both are
-- not.
pub tens_seen : (n : ℕ) (xs ys : List Dataset) → AreTens xs → AreTens ys → zero_or_one (length xs) ≡ zero_or_one (length ys) → occurs n xs ≡ occurs n ys
tens_seen n xs ys a b e = ten_seen n xs a ∙ ap (λ (k : ℕ). nat_eq k 1 && nat_eq 10 n) e ∙ sym (ten_seen n ys b)

-- ---- there are no other records

pub none_other : (r : ℕ) → AllByRecursion (λ k. nat_eq k r ≡ false) records → (ds : List Dataset) → AreViableSections ds → of_record r ds ≡ []
none_other r apart ds (more, are) =
    let each = all_map (λ k. nat_eq k r ≡ false) (λ k. (d : Dataset) → d.rec ≡ k → IsGoodDataset d → nat_eq d.rec r ≡ false) records
    (λ k no d is good. ap (λ (n : ℕ). nat_eq n r) is ∙ no) apart in
    filter_none (λ (d : Dataset). nat_eq d.rec r) ds (all_front _ ds more (each_in (λ (d : Dataset). nat_eq d.rec r ≡ false) records (ds ++ more) each are))

-- ---- all records

-- what the position determines of the datasets
pub record SameFields (ds es : List Dataset) : Type 0 where
  pub ended : nat_eq (section_after ds) 9 ≡ nat_eq (section_after es) 9
  pub fields : kept ds ≡ kept es
  pub numbers : stated_numbers (numbers_of (of_record 7 ds)) ≡ stated_numbers (numbers_of (of_record 7 es))
  pub heads : length (of_record 8 ds) ≡ length (of_record 8 es)

abbrev SameIn : List Dataset → List Dataset → ℕ → Type 0
SameIn ds es r = (n : ℕ) → occurs n (of_record r ds) ≡ occurs n (of_record r es)

same_kept : (ds es : List Dataset) (r : ℕ) → is_kept r ≡ true → kept ds ≡ kept es → SameIn ds es r
same_kept ds es r is same n = grind (arith, of_kept)

pub same_records : LayerLemmas → (ds es : List Dataset) → AreViableSections ds → AreViableSections es → length (of_record 8 ds) ≤ max_subfiles
    → length (of_record 8 es) ≤ max_subfiles → SameFields ds es
    → SameRecords ds es
same_records laws ds es a b few less same =
    let tens = tens_after ds a in
    let others = tens_after es b in
    let stated = (stated_after_all laws ds a few).stated.each in
    let seven : SameIn ds es 7 =
    λ n. same_stated n (of_record 7 ds) (of_record 7 es) (same_numbers _ _ same.numbers) stated (stated_after_all laws es b less).stated.each in
    let eight : SameIn ds es 8 = λ n. tens_seen n (of_record 8 ds) (of_record 8 es) tens.0 others.0 (ap zero_or_one same.heads) in
    let count = nines laws ds a ∙ ap (λ (b : Bool). cond b 1 0) same.ended ∙ sym (nines laws es b) in
    let nine : SameIn ds es 9 = λ n. tens_seen n (of_record 9 ds) (of_record 9 es) tens.1 others.1 (ap zero_or_one count) in
    record {
      seen = λ r.
          by_record (SameIn ds es) r (same_kept ds es 1 refl same.fields) (same_kept ds es 2 refl same.fields) seven eight nine
          (λ not1 not2 not7 not8 not9 n.
          let apart : AllByRecursion (λ k. nat_eq k r ≡ false) records = grind (arith, ne_eqb) in
          ap (occurs n) (none_other r apart ds a ∙ sym (none_other r apart es b)));
    }
