-- The maximum length of incomplete octets, and of an envelope.
use Rattle.std.proofs.Common.{◌≡◌, ◌∙◌, nat_eq, cond, append-nil, ℕ, ◌+◌, ◌*◌, ◌<◌, ◌≤◌, ◌⊎◌, ◌^◌, ◌-◌, true, List, [], ◌∷◌, ◌++◌, length, map, sum, Option, Some, None, refl, ap, sym, subst, inl, inr, arith, append_assoc, length-append, ◌&&◌}
use Rattle.std.proofs.Math.Nat.{pow-le-pow_right}
use Rattle.iim_places.proofs.Words.{has_number_value, or_cases, eqb-true, front_alive, section_after, last_more, head_of, ne_eqb, filter-append, AllByRecursion, Octets, number, greatest_size, all_append, all_front, all_back, all_map, OctetsMeetRow, Dataset, LayerLemmas, EncodesStream, count_octets, of_record, tag_octets, PartialDataset, InTag, InData, ReadsAsDatasets, Head, sum_cons, sum_append, number-lt, AreRecords, records, IsGoodDataset, AreViableSections, AreViableSectionsWithHead, kept, is_kept, Limits, ObjectToken, NumberRead, SubfileBegun, ObjectEnded, Confirmed, number_tokens, ending_tokens, place_after, place_after_datasets, lengths_of, StatedNumber, HaveNoRepeats, IsAllowedByRow, number_at, CanContinueIn, ObjectIsViable, IncompleteOctetsAreBounded, EnvelopesAreBounded, kept_octets, length-map, within, nat_tests}
use Rattle.iim_places.proofs.{StreamResults.lives_envelope, Following.alive_of, Following.within_of, Following.object_lives_after, TicketLengths.held_length}
use Rattle.iim_places.proofs.Lasts.{not_all, last_sections}
use Rattle.iim_tables.specs.{Format.Kinds.size_octets, Format.Rows.table, Format.Rows.row_of}
use Rattle.iim_dataset.proofs.Spelled.{tag_length}
use Rattle.iim_fields.specs.Format.Causes.{joined}
use Rattle.iim_object.specs.Format.Objects.{Place}

-- What holds of the valid datasets of each record holds of all of them.
pub each_in : (P : Dataset → Type 0) (rs : List ℕ) (ds : List Dataset) → AllByRecursion (λ r. (d : Dataset) → d.rec ≡ r → IsGoodDataset d → P d) rs
    → AreRecords rs ds → AllByRecursion P ds
each_in P [] ds has none = subst (AllByRecursion P) (sym none) tt
each_in P (r ∷ rs) ds has (run, rest, parts, good, more) =
    subst (AllByRecursion P) (sym parts) (all_append P run rest
    (all_map (λ (d : Dataset). (d.rec ≡ r) × IsGoodDataset d) P run (λ d h. has.0 d h.0 h.1) good.each) (each_in P rs rest has.1 more))

-- ---- the tokens of the object

-- how many numbers of record 7 the tokens have, and the octets of the subfiles that they begin with
abbrev tally : List ObjectToken → ℕ × ℕ
tally [] = (0, 0)
tally (NumberRead set n ∷ ts) = (1 + (tally ts).0, (tally ts).1)
tally (SubfileBegun n ∷ ts) = ((tally ts).0, n + (tally ts).1)
tally (t ∷ ts) = tally ts

tally_of : (ps : List StatedNumber) (ls : List ℕ) (ts : List ObjectToken) → ((tally (number_tokens ps ++ (map SubfileBegun ls ++ ts))).0 ≡ length ps +
    (tally ts).0)
    × ((tally (number_tokens ps ++ (map SubfileBegun ls ++ ts))).1 ≡ sum ls + (tally ts).1)
tally_of [] [] ts = (omega arith, omega arith)
tally_of [] (l ∷ ls) ts = grind (arith, tally_of [] ls ts, sum_cons l ls)
tally_of (p ∷ ps) ls ts = grind (arith, tally_of ps ls ts)

-- The object so far is no longer than the complete object.
pub part_of_whole : (p : Place) → (lives : ObjectIsViable p) → (length p.stated ≤ length lives.1.stated) × (sum p.lengths ≤ sum lives.1.lengths)
part_of_whole p (rest, is) =
    let same = ap tally (simp append_assoc at is.tokens_are) in
    let part = tally_of p.stated p.lengths (ending_tokens p.ending ++ rest) in
    grind (arith, same, part, tally_of is.stated is.lengths (ObjectEnded ∷ Confirmed is.confirmed ∷ []))

-- The subfiles together have at most the greatest size.
pub object_fits : (p : Place) → ObjectIsViable p → sum p.lengths ≤ greatest_size
object_fits p (rest, is) = omega (arith, (part_of_whole p (rest, is)).1, is.agree.total_fits)

-- ---- record 9

-- What holds of no datasets, and is preserved by one more, holds of all that can continue.
pub by_last : (P : List Dataset → Type 0) → P [] → ((xs : List Dataset) (d : Dataset) → AreViableSections (xs ++ d ∷ []) → P xs → P (xs ++ d ∷ []))
    → (ds : List Dataset) → AreViableSections ds → P ds
by_last P none step ds alive = on [] ds alive none
  where
    on : (xs ys : List Dataset) → AreViableSections (xs ++ ys) → P xs → P (xs ++ ys)
    on xs [] alive is = rw append-nil is
    on xs (d ∷ ys) alive is =
        let parts = append_assoc xs (d ∷ []) ys in
        let longer = subst AreViableSections (sym parts) alive in
        subst P parts (on (xs ++ d ∷ []) ys longer (step xs d (front_alive (xs ++ d ∷ []) ys longer) is))

-- Datasets that can continue have one of record 9 if that is the last record, and otherwise none.
pub nines : LayerLemmas → (ds : List Dataset) → AreViableSections ds → length (of_record 9 ds) ≡ cond (nat_eq (section_after ds) 9) 1 0
nines laws =
    by_last (λ (ds : List Dataset). length (of_record 9 ds) ≡ cond (nat_eq (section_after ds) 9) 1 0) refl
    (λ xs d alive is.
    let open' = ne_eqb (section_after xs) 9
    (λ nine. not_all laws.sections xs (head_of d) (d, refl, alive) (last_sections laws.last_record xs (front_alive xs (d ∷ []) alive) nine)) in
    rw (filter-append (λ (x : Dataset). nat_eq x.rec 9) xs (d ∷ []), length-append, is, open', last_more 0 xs d) (grind arith))

few_nines : LayerLemmas → (ds : List Dataset) → AreViableSections ds → length (of_record 9 ds) ≤ 1
few_nines laws ds alive = grind (arith, nines laws ds alive)

-- ---- record 7

abbrev slot : Option ℕ → ℕ
slot None = 0
slot (Some n) = 1

slots : (ps : List StatedNumber) → AllByRecursion IsAllowedByRow ps → HaveNoRepeats ps
    → length ps ≤ slot (number_at 10 ps) + slot (number_at 20 ps) + slot (number_at 90 ps) + slot (number_at 95 ps)
slots [] each once = omega arith
slots (p ∷ ps) each once = grind (arith, slots ps each.1 once.1, each.0, once.0)

-- Record 7 has at most four datasets.
few_numbers : (p : Place) → ObjectIsViable p → length p.stated ≤ 4
few_numbers p (rest, is) = grind (arith, slots is.stated is.are_stated.each is.are_stated.once, (part_of_whole p (rest, is)).0)

-- ---- counts

pub low : (n : ℕ) (xs : List ℕ) → Octets xs → length xs ≤ n → number xs < 256 ^ n
low n xs all fits = let most' : 256 ^ length xs ≤ 256 ^ n = pow-le-pow_right (omega arith) fits in omega (arith, number-lt xs all, most')

-- ---- the lengths of data

-- the bounds of the rows of records 7 and 9
abbrev pub IsSized : List ℕ → Type 0
IsSized xs = (length xs ≤ size_octets) × (number xs ≤ greatest_size)

-- records 7 and 9 encode numbers
pub told_in : (r : ℕ) → has_number_value r ≡ true → (r ≡ 7) ⊎ (r ≡ 9)
told_in r is = elim (or_cases (nat_eq r 7) (nat_eq r 9) is) [ inl seven ↦ inl (eqb-true r 7 seven) | inr nine ↦ inr (eqb-true r 9 nine) ]

sized_seven : (set : ℕ) (xs : List ℕ) → Octets xs → OctetsMeetRow 7 set xs → IsSized xs
unfolding row_of table
sized_seven set xs all = grind (arith, nat_tests, low 1 xs)

sized_nine : (set : ℕ) (xs : List ℕ) → OctetsMeetRow 9 set xs → IsSized xs
unfolding row_of table
sized_nine set xs = grind (arith, nat_tests)

pub sized : (r set : ℕ) (xs : List ℕ) → has_number_value r ≡ true → Octets xs → OctetsMeetRow r set xs → IsSized xs
sized r set xs told all = grind (arith, told_in, sized_seven, sized_nine)

-- A dataset is stored, or a subfile, or a short one of record 7 or 9.
abbrev pub Counted : Dataset → Type 0
Counted d = (is_kept d.rec ≡ true) ⊎ ((d.rec ≡ 8) ⊎ ((has_number_value d.rec ≡ true) × (length d.octets ≤ size_octets)))

alive_counted : (ds : List Dataset) → AreViableSections ds → AllByRecursion Counted ds
alive_counted ds (more, are) =
    let fields : (r : ℕ) → is_kept r ≡ true → (d : Dataset) → d.rec ≡ r → IsGoodDataset d → Counted d = λ r keeps d is good. inl (ap is_kept is ∙ keeps) in
    let told : (r : ℕ) → has_number_value r ≡ true → (d : Dataset) → d.rec ≡ r → IsGoodDataset d → Counted d = λ r tells d is good.
    let here = ap has_number_value is ∙ tells in inr (inr (here, (sized d.rec d.set d.octets here good.octets good.meets).0)) in
    all_front Counted ds more
    (each_in Counted records (ds ++ more) (fields 1 refl, (fields 2 refl, (told 7 refl, ((λ d is good. inr (inl is)), (told 9 refl, tt))))) are)

pub last_counted : (xs : List Dataset) (d : Dataset) → AreViableSections (xs ++ d ∷ []) → Counted d
last_counted xs d alive = (all_back Counted xs (d ∷ []) (alive_counted (xs ++ d ∷ []) alive)).0

pub is_one : (ds : List Dataset) (h : Head) → AreViableSectionsWithHead ds h → (is_kept h.rec ≡ true) ⊎ ((h.rec ≡ 8) ⊎ (h.count ≤ size_octets))
is_one ds h (d, is, alive) = grind (arith, is, last_counted ds d alive)

-- The length of encoded datasets: at most thirteen octets for each tag, and the data, of which
-- those of records 7 and 9 are short.
stream_fits : (ds : List Dataset) (xs : List ℕ) → AllByRecursion Counted ds → EncodesStream count_octets ds xs
    → length xs ≤ (tag_octets * length (kept ds) + kept_octets ds) + (tag_octets + size_octets) * (length (of_record 7 ds) + length (of_record 9 ds))
    + (tag_octets * length (of_record 8 ds) + sum (lengths_of (of_record 8 ds)))
stream_fits [] xs all none = omega (arith, ap length none)
stream_fits (d ∷ ds) xs all (first, rest, one, more, parts) =
    let whole : length xs ≤ tag_octets + length d.octets + length rest =
    omega (arith, ap length parts, length-append first rest, ap length one.parts, length-append one.tag d.octets, tag_length _ one.tag one.is_tag) in
    let sums = sum_cons (length d.octets) (lengths_of (of_record 8 ds)) in
    grind (arith, whole, stream_fits ds rest all.1 more, all.0, length-append d.octets (joined (kept ds)), sums)

-- ---- all of it

-- If every layer can continue after datasets: their length, except the subfiles.
whole_fits : LayerLemmas → (limits : Limits) → limits.octets < 2 ^ 32 → limits.fields < 2 ^ 32 → (ds : List Dataset) (c : PartialDataset) (xs : List ℕ)
    → EncodesStream count_octets ds xs → CanContinueIn limits ds c → length xs < 2 ^ 38 + sum (lengths_of (of_record 8 ds))
whole_fits laws limits less few ds c xs spelled goes =
    let alive = alive_of limits ds c goes in
    let within = within_of limits ds c goes in
    let numbers = few_numbers (place_after_datasets ds) (object_lives_after laws limits ds c goes) in
    let count = length-map {B = StatedNumber} (of_record 7 ds) (λ (d : Dataset). record { set = d.set; number = number d.octets }) in
    let stream = stream_fits ds xs (alive_counted ds alive) spelled in
    omega (arith, stream, within.kept.octets_in, within.kept.fields_in, within.subfiles, numbers, count, few_nines laws ds alive)

-- and with a partial one
read_fits : LayerLemmas → (limits : Limits) → limits.octets < 2 ^ 32 → limits.fields < 2 ^ 32 → (octets : List ℕ) (ds : List Dataset) (c : PartialDataset)
    → ReadsAsDatasets count_octets octets ds c → CanContinueIn limits ds c → length octets < 2 ^ 64 - 1
read_fits laws limits less few octets ds (InTag held) r goes =
    let whole = whole_fits laws limits less few ds (InTag held) r.front r.is_front goes in
    let size = object_fits (place_after_datasets ds) goes.object in
    omega (arith, whole, size, ap length r.parts, length-append r.front r.rest, ap length r.is_rest.0, held_length octets ds held r)
read_fits laws limits less few octets ds (InData h taken) r goes =
    let (tag, spelled, fits, given, same) = r.is_rest in
    let whole = whole_fits laws limits less few ds (InData h taken) r.front r.is_front goes in
    let size = object_fits (place_after_datasets ds) (object_lives_after laws limits ds (InData h taken) goes) in
    let most' : length octets ≤ length r.front + tag_octets + h.count =
    omega (arith, ap length r.parts, length-append r.front r.rest, ap length same, length-append tag taken, tag_length h tag spelled, fits) in
    elim (is_one ds h goes.records) [
      | inl keeps ↦ omega (arith, most', whole, size, less, (goes.room.kept keeps).octets_in)
      | inr (inl eight) ↦
          let all = object_fits (place_after (place_after_datasets ds) (SubfileBegun h.count)) (rw eight at goes.object) in
          omega (arith, most', whole, all, sum_append (lengths_of (of_record 8 ds)) (h.count ∷ []), sum_cons h.count [])
      | inr (inr short) ↦ omega (arith, most', whole, size, short)
    ]

pub bounded_octets : LayerLemmas → IncompleteOctetsAreBounded
bounded_octets laws limits octets less few is = read_fits laws limits less few octets is.whole is.begun is.reads is.leads_on.sizes

pub envelope_bounded : LayerLemmas → EnvelopesAreBounded
envelope_bounded laws limits octets v less few is =
    let lives = lives_envelope laws limits octets v is in read_fits laws limits less few octets lives.whole lives.begun lives.reads lives.leads_on.sizes
