-- Positions that were possible by smaller sizes, and by the present sizes.
use Rattle.std.proofs.Common.{◌≡◌, ◌&&◌, nat_lt, ℕ, ◌-◌, ◌≤◌, nat_eq, if◌then◌else◌, Bool, true, false, List, [], ◌∷◌, ◌++◌, length, map, sum, refl, ap, sym, subst, ◌∙◌, inl, inr, arith, ◌^◌, ◌<◌, append-nil, length-append, ◌⊎◌, ◌||◌}
use Rattle.iim_places.proofs.Words.{FitsInField, AllByRecursion, eqb-true, Dataset, EncodesDataset, EncodesStream, count_octets, head_of, of_record, IsViablePrefix, PartialDataset, InTag, InData, EncodesPartial, ReadsAsDatasets, Head, all_front, all_back, section_after, has_number_value, SubfileBegun, ObjectEnded, Confirmed, number_tokens, numbers_of, StatedNumber, TokensAreWithin, LanguageWithin, LayerLemmas, object_of, AreWithinLimits, object_so_far, section, Possible, IsSmall, IsSmallPhase, IsSmallPlace, first_greatest_size, widest, Scale, FitsRow, SectionsAreViableIn, PartialFits, IsIncompleteAtScale, IsPossibleAtScale, object_place_in, first_scale, ReachesPlace, phase_of, CanContinueIn, unwrap_or, lt-ltb, IsOctet, EncodesTag, canonical_tag, canonical_dataset, canonical_stream, all_append, all_map, IsEncodable, AreSections, place_after_datasets, number_dataset, ending_tokens, within_append, begun_within, SmallPlacesWerePossible, Numbers, number_list, witness_numbers, plain, within, greatest_size, within_most_and, OctetsMeetRow, IsGoodDataset, SectionsIn, PresentScaleAddsNothing, cases_Bool, present_scale, AreStored, LayersReach, phase_has_ended, nat_tests, map-append, IsGoodRecord, occurs, occurrences, occurrences_cons, mandatory, AreRecords, records, good_elsewhere, place_at, BeginsTag, IsEnvelopeAtScale, ReachesSavedState, MessagePlace, AllCanContinue}
use Rattle.iim_places.proofs.{StreamResults.reads_envelope, StreamResults.coming, Bounds.told_in, Bounds.part_of_whole, Bounds.object_fits, Bounds.sized, Bounds.low}
use Rattle.iim_places.proofs.Fitting.{each_fits, reads_of, begins_tag, so_far_fits, lives_in, four_at, low_count}
use Rattle.iim_places.proofs.{SamePlace.at_tests, SmallTags.wider_tag, SmallTags.small_tag, Tickets.so_far_by, Tickets.total_of, Tickets.stated_by}
use Rattle.iim_places.proofs.ByLayers.{layers_open, possible_in, reachable_by_layers, Opens, ended_heads, witness_of}
use Rattle.iim_places.proofs.{Following.within_of, Following.alive_of, Plain.numbers_each, Plain.parts_each, Plain.end_each, Plain.present_ended}
use Rattle.iim_places.proofs.{SizeRows.by_ten, SizeRows.eight_has, Taking.each_good, AfterEnd.WholeMessage, AfterEnd.ended_after, AfterEnd.ended_at}
use Rattle.iim_places.proofs.{SameStates.enveloped, SameStates.value_of, ObjectOctets.lives_whole, Lasts.sections_last}
use Rattle.iim_places.specs.Format.Tickets.{Place}
use Rattle.iim_fields.specs.Format.Causes.{joined}
use Rattle.iim_object.specs.Laws.{PlacesAreViableWithin}
use Rattle.iim_tables.specs.Format.Rows.{table, row_of}
use Rattle.iim_object.specs.Format.Objects as objects

-- ---- encodings with shorter counts

wider_stream : (limit : ℕ) → limit ≤ count_octets → (ds : List Dataset) (xs : List ℕ) → EncodesStream limit ds xs → EncodesStream count_octets ds xs
wider_stream limit le [] xs s = s
wider_stream limit le (d ∷ ds) xs (first, rest, one, more, parts) = (first, rest, grind (arith, wider_tag), wider_stream limit le ds rest more, parts)

wider_reads : (limit : ℕ) → limit ≤ count_octets → (xs : List ℕ) (ds : List Dataset) (b : PartialDataset) → ReadsAsDatasets limit xs ds b
    → ReadsAsDatasets count_octets xs ds b
wider_reads limit le xs ds b r = grind (arith, wider_stream)

rows_of : (s : Scale) (ds : List Dataset) (b : PartialDataset) → SectionsAreViableIn s ds b → AllByRecursion (FitsRow s) ds
rows_of s ds b alive = grind (arith, all_front)

-- ---- incomplete octets

may_continue : (s : Scale) (ds : List Dataset) (b : PartialDataset) → SectionsAreViableIn s ds b → AreWithinLimits widest ds → PartialFits widest ds b
    → IsViablePrefix (LanguageWithin s.greatest) (objects.tokens_of (object_place_in ds b)) → CanContinueIn widest ds b
may_continue s ds b alive within room object = grind arith

-- what was possible by a smaller scale is possible
still : (s : Scale) → s.octets ≤ count_octets → (place : Place) → IsPossibleAtScale s place → Possible place
still s le place p = record {
  octets = p.octets;
  leads = p.leads;
  comes = elim p.comes [
    | inl is ↦
        let reads = wider_reads s.octets le p.octets is.whole is.begun is.reads in
        let sizes = may_continue s is.whole is.begun is.records is.within is.room is.object in
        let goes : AllCanContinue widest is.whole is.begun = record { sizes = sizes; message = is.message; story = is.story } in
        let none = λ (sections : AreSections is.whole). is.unfinished (sections, rows_of s is.whole is.begun is.records) in
        inl (record { whole = is.whole; begun = is.begun; reads = reads; leads_on = goes; unfinished = none })
    | inr is ↦ inr (is.value, record { admits = is.admits; within = is.within })
  ];
}

-- ---- sizes of the position

-- the numbers in datasets are at most this one
abbrev AreLow : ℕ → List Dataset → Type 0
AreLow most ds = AllByRecursion (λ (p : StatedNumber). p.number ≤ most) (numbers_of ds)

-- each number of record 7 or of record 9 is at most the greatest size
stated_low : (s : Scale) (r : ℕ) → has_number_value r ≡ true → (ds : List Dataset) → AllByRecursion (FitsRow s) ds → AreLow s.greatest (of_record r ds)
stated_low s r told [] all = tt
stated_low s r told (d ∷ ds) all = grind (arith, stated_low s r told ds all.1, all.0, eqb-true)

-- the confirmed size is the last token
confirmed_low : (most : ℕ) (ps : List StatedNumber) (ls : List ℕ) (n : ℕ)
    → TokensAreWithin most (number_tokens ps ++ (map SubfileBegun ls ++ (ObjectEnded ∷ Confirmed n ∷ []))) → n ≤ most
confirmed_low most [] [] n all = all.0
confirmed_low most [] (l ∷ ls) n all = confirmed_low most [] ls n all
confirmed_low most (p ∷ ps) ls n all = confirmed_low most ps ls n all.1

-- so the subfiles together have no more
total_low : (most : ℕ) (p : objects.Place) → IsViablePrefix (LanguageWithin most) (objects.tokens_of p) → sum p.lengths ≤ most
total_low most p (rest, (lang, within)) =
    let all = confirmed_low most lang.stated lang.lengths lang.confirmed (rw lang.tokens_are at within) in
    omega (arith, all, (part_of_whole p (rest, lang)).1, lang.agree.as_confirmed)

small_phase : (octets : List ℕ) (ds : List Dataset) (b : PartialDataset) → ReadsAsDatasets 4 octets ds b → SectionsAreViableIn first_scale ds b
    → sum (object_place_in ds b).lengths ≤ first_greatest_size
    → IsSmallPhase (section ds b) (length (object_so_far ds b)) (phase_of ds b)
small_phase octets ds (InTag held) reads alive low = grind (arith, begins_tag 4 octets ds held reads)
small_phase octets ds (InData h taken) reads (d, head, alive) low =
    let fits = (all_back (FitsRow first_scale) ds (d ∷ []) (all_front (FitsRow first_scale) (ds ++ d ∷ []) alive.0 alive.1.1)).0 in
    let all = so_far_by (nat_eq h.rec 8) (nat_eq h.rec 9) ds taken h.count (h.count - length taken) (let less = reads.is_rest.2 in omega (arith, less)) in
    grind arith

-- ---- positions

small_of : LayerLemmas → (place : Place) (octets : List ℕ) → ReachesPlace octets place → (ds : List Dataset) (b : PartialDataset)
    → ReadsAsDatasets count_octets octets ds b
    → AllByRecursion (FitsRow first_scale) ds → length (object_so_far ds b) ≤ first_greatest_size
    → IsSmallPhase (section ds b) (length (object_so_far ds b)) (phase_of ds b) → IsSmallPlace place
small_of laws place octets leads ds b reads rows taken phase =
    let c = coming laws place octets leads ds b reads in
    let numbers = four_at IsSmall (numbers_of (of_record 7 ds)) tt (stated_low first_scale 7 refl ds rows) in
    subst IsSmallPlace (sym c.is_place) (record { numbers = numbers; taken = taken; begun = phase })

small_between : (ds : List Dataset) → BeginsTag count_octets [] → IsSmallPhase (section_after ds) (length (object_of ds)) (phase_of ds (InTag []))
small_between ds begins = grind (arith, small_tag [] begins)

-- What was possible is possible, and within the first sizes.
still_possible : LayerLemmas → (place : Place) → IsPossibleAtScale first_scale place → Possible place × IsSmallPlace place
still_possible laws place p = (
  still first_scale (omega arith) place p,
  elim p.comes [
    | inl is ↦
        (let low = total_low first_greatest_size (object_place_in is.whole is.begun) is.object in
        small_of laws place p.octets p.leads is.whole is.begun (wider_reads 4 (omega arith) p.octets is.whole is.begun is.reads)
        (rows_of first_scale is.whole is.begun is.records) (omega (arith, so_far_fits 4 p.octets is.whole is.begun is.reads, low))
        (small_phase p.octets is.whole is.begun is.reads is.records low))
    | inr is ↦
        (let ds = is.admits.datasets in
        let reads = reads_envelope p.octets is.value is.admits in
        small_of laws place p.octets p.leads ds (InTag []) reads is.rows is.total (small_between ds (begins_tag count_octets p.octets ds [] reads)))
  ],
)

-- ---- data that are too long, replaced by short ones

abbrev short_number : List ℕ
short_number = 0 ∷ 0 ∷ 0 ∷ 1 ∷ []

-- The data are no longer than the first scale allows, and four octets encode their length.
abbrev Low : Dataset → Type 0
Low d = (length d.octets < 2 ^ 32) × (has_number_value d.rec ≡ true → length d.octets ≤ 4)

abbrev shrink : Dataset → Dataset
shrink d = record d {
  octets = if has_number_value d.rec && nat_lt 4 (length d.octets) then short_number
      else (if nat_eq d.rec 8 && nat_lt first_greatest_size (length d.octets) then [] else d.octets);
}

-- the row of a number that is too long accepts a short one
number_takes : (r set : ℕ) (xs : List ℕ) → has_number_value r ≡ true → OctetsMeetRow r set xs → 4 < length xs → OctetsMeetRow r set short_number
unfolding row_of table
number_takes r set xs told = grind (arith, told_in)

eight_takes : (set : ℕ) (xs : List ℕ) → OctetsMeetRow 8 set xs → OctetsMeetRow 8 set []
unfolding row_of table
eight_takes set xs = by_ten 8 eight_has xs (λ k. OctetsMeetRow 8 k []) (λ h. refl) set

-- The data of a valid dataset can be replaced so that it fits its row by the first scale.
shrink_fits : (d : Dataset) → IsGoodDataset d → IsGoodDataset (shrink d) × FitsRow first_scale (shrink d)
shrink_fits d good = elim (cases_Bool (has_number_value d.rec && nat_lt 4 (length d.octets))) [
  | inl long ↦ rw long (grind (arith, nat_tests, told_in, number_takes, good_elsewhere))
  | inr short ↦ elim (cases_Bool (nat_eq d.rec 8 && nat_lt first_greatest_size (length d.octets))) [
    | inl great ↦ rw (short, great) (grind (arith, nat_tests, eight_takes, good_elsewhere))
    | inr fits ↦ rw (short, fits) (good, grind (arith, nat_tests, told_in, low))
  ]
]

-- ---- records

-- short data are unchanged
all_same : (ds : List Dataset) → AllByRecursion Low ds → map shrink ds ≡ ds
all_same [] all = refl
all_same (d ∷ ds) all = grind (arith, nat_tests, all_same ds all.1, all.0)

occurs_same : (n : ℕ) (ds : List Dataset) → occurs n (map shrink ds) ≡ occurs n ds
occurs_same n [] = refl
occurs_same n (d ∷ ds) = ap (λ (b : Bool). nat_eq d.set n || b) (occurs_same n ds)

count_same : (n : ℕ) (ds : List Dataset) → occurrences n (map shrink ds) ≡ occurrences n ds
count_same n [] = refl
count_same n (d ∷ ds) = omega (arith, occurrences_cons n (shrink d) (map shrink ds), occurrences_cons n d ds, count_same n ds)

all_mapped : (P Q : Dataset → Type 0) (ds : List Dataset) → ((d : Dataset) → P d → Q (shrink d)) → AllByRecursion P ds → AllByRecursion Q (map shrink ds)
all_mapped P Q [] f all = tt
all_mapped P Q (d ∷ ds) f all = (f d all.0, all_mapped P Q ds f all.1)

good_records : (rs : List ℕ) (ds : List Dataset) → AreRecords rs ds → AreRecords rs (map shrink ds)
good_records [] ds none = ap (map shrink) none
good_records (r ∷ rs) ds (run, rest, parts, good, more) =
    let is : IsGoodRecord r (map shrink run) = record {
      each = all_mapped (λ d. (d.rec ≡ r) × IsGoodDataset d) (λ d. (d.rec ≡ r) × IsGoodDataset d) run (λ d h. (h.0, (shrink_fits d h.1).0)) good.each;
      mandatory = all_map _ _ (mandatory r) (λ n h. occurs_same n run ∙ h) good.mandatory;
      once = λ n no'. let most' = good.once n no' in omega (arith, most', count_same n run);
    } in
    (map shrink run, map shrink rest, ap (map shrink) parts ∙ map-append shrink run rest, is, good_records rs rest more)

good_sections : (ds : List Dataset) → AreSections ds → SectionsIn first_scale (map shrink ds)
good_sections ds are =
    (good_records records ds are, all_mapped IsGoodDataset (FitsRow first_scale) ds (λ d good. (shrink_fits d good).1) (each_good ds are))

-- Datasets that are short, and after which the record layer can continue, fit, and can continue to
-- datasets that fit.
sections_live_small : (ds : List Dataset) → IsViablePrefix AreSections ds → AllByRecursion Low ds → IsViablePrefix (SectionsIn first_scale) ds
sections_live_small ds (more, are) short = (map shrink more, rw (map-append shrink ds more, all_same ds short) at (good_sections (ds ++ more) are))

-- ---- encodings with few count octets

few_tag : (h : Head) → IsOctet h.rec → IsOctet h.set → h.count < 2 ^ 32 → EncodesTag 4 h (canonical_tag h)
few_tag h r s few = grind arith

few_stream : (ds : List Dataset) → AllByRecursion IsEncodable ds → AllByRecursion Low ds → EncodesStream 4 ds (canonical_stream ds)
few_stream [] all few = refl
few_stream (d ∷ ds) all few =
    let tag = few_tag (head_of d) all.0.rec all.0.set few.0.0 in
    let first : EncodesDataset 4 d (canonical_dataset d) = grind
    (arith, tag, all.0) in (canonical_dataset d, canonical_stream ds, first, few_stream ds all.1 few.1, refl)

-- ---- witness datasets are short

low_fields : (ds : List Dataset) → AreStored ds → AllByRecursion FitsInField ds → AllByRecursion Low ds
low_fields [] all few = tt
low_fields (d ∷ ds) all few = ((few.0, λ told. grind arith), low_fields ds all.1 few.1)

low_one : (rec set n : ℕ) → n ≤ first_greatest_size → Low (number_dataset rec set n)
low_one rec set n low = grind (arith, lt-ltb n (2 ^ 32))

low_witness : (fields : List Dataset) (numbers : Numbers) (heads : ℕ) (object : List ℕ) (ended : Bool) → AreStored fields
    → length (joined fields) < 2 ^ 32 → AllByRecursion IsSmall (number_list numbers) → length object ≤ first_greatest_size
    → AllByRecursion Low (plain fields numbers heads object ended)
low_witness fields numbers heads object ended kept few small low =
    all_append Low fields _ (low_fields fields kept (each_fits fields few))
    (all_append Low (witness_numbers numbers) _
    (numbers_each Low numbers (λ n is. (omega arith, λ told. omega arith)) (λ n is. low_one 7 20 n (subst IsSmall is small.1.0))
    (λ n is. low_one 7 90 n (subst IsSmall is small.1.1.0)) (λ n is. low_one 7 95 n (subst IsSmall is small.1.1.1.0)))
    (all_append Low _ _
    (parts_each Low (unwrap_or numbers.largest 0) heads object
    (λ ys short few good.
    let most : unwrap_or numbers.largest 0 ≤ first_greatest_size = grind (arith, small.1.0) in (omega (arith, short, most), λ told. absurd cc)))
    (end_each Low ended object (low_one 9 10 (length object) low))))

-- ---- the object's tokens

numbers_within : (most : ℕ) (ps : List StatedNumber) → AllByRecursion (λ (p : StatedNumber). p.number ≤ most) ps → TokensAreWithin most (number_tokens ps)
numbers_within most [] low = tt
numbers_within most (p ∷ ps) low = (low.0, numbers_within most ps low.1)

tokens_within : (s : Scale) (ds : List Dataset) → AllByRecursion (FitsRow s) ds → (p : objects.Place) → p.stated ≡ numbers_of (of_record 7 ds)
    → TokensAreWithin s.greatest (ending_tokens p.ending) → TokensAreWithin s.greatest (objects.tokens_of p)
tokens_within s ds rows p is end' =
    within_append s.greatest (number_tokens p.stated) _ (rw is (numbers_within s.greatest (numbers_of (of_record 7 ds)) (stated_low s 7 refl ds rows)))
    (within_append s.greatest (map SubfileBegun p.lengths) _ (begun_within s.greatest p.lengths) end')

-- and the confirmed size is so too
end_at : (most : ℕ) (b c : Bool) (ds : List Dataset) (count : ℕ) → AreLow most (of_record 9 ds)
    → TokensAreWithin most (ending_tokens (at_tests b c ds count).ending)
end_at most b c ds count last = grind arith

within_in : (s : Scale) (ds : List Dataset) (b : PartialDataset) → AllByRecursion (FitsRow s) ds → TokensAreWithin s.greatest (objects.tokens_of
    (object_place_in ds b))
within_in s ds (InTag held) rows =
    tokens_within s ds rows (place_after_datasets ds) refl (end_at s.greatest false false ds 0 (stated_low s 9 refl ds rows))
within_in s ds (InData h taken) rows =
    tokens_within s ds rows (place_at ds h) (stated_by (nat_eq h.rec 8) (nat_eq h.rec 9) ds h.count)
    (end_at s.greatest (nat_eq h.rec 8) (nat_eq h.rec 9) ds h.count (stated_low s 9 refl ds rows))

-- What the scale requires of witness datasets and the partial one after them: octets that encode
-- them by it, rows, and the size of the object.
record KeepTo (s : Scale) (place : Place) (l : LayersReach place) (p : Opens place l) : Type 0 where
  few : s.octets ≤ count_octets
  one : 1 ≤ s.greatest
  rest : List ℕ
  is_begun : EncodesPartial s.octets p.begun rest
  spelled : EncodesStream s.octets (witness_of place l p.object) (canonical_stream (witness_of place l p.object))
  records : SectionsAreViableIn s (witness_of place l p.object) p.begun
  low : sum (object_place_in (witness_of place l p.object) p.begun).lengths ≤ s.greatest

-- A position that each layer can reach is possible by each scale that its witness datasets satisfy.
possible_by : LayerLemmas → PlacesAreViableWithin → (s : Scale) (place : Place) (l : LayersReach place) (p : Opens place l) → KeepTo s place l p
    → IsPossibleAtScale s place
possible_by laws law s place l p k =
    let ds = witness_of place l p.object in
    let b = p.begun in
    let o = object_so_far ds b in
    let octets = canonical_stream ds ++ k.rest in
    let reads = reads_of s.octets ds b k.rest k.spelled k.is_begun in
    let spells = wider_reads s.octets k.few octets ds b reads in
    let there = subst (λ (o : List ℕ). ReachesSavedState o l.message.1 place.message) (sym p.octets) l.message.2 in
    let lives = laws.living o l.message.1 there.0 there.1 in
    let message : section ds b ≡ 9 → WholeMessage o = λ nine.
    let last = l.message.4 (ap (λ (q : Place). q.section) p.is_place ∙ nine) in
    ended_at o l.message.1 there.0 there.1 (ended_after there.0 (ap (λ (m : MessagePlace). m.part) there.2 ∙ last)) in
    let present = present_ended place.fields l.numbers (ended_heads place) p.object (phase_has_ended place.phase) l.kept in
    record {
      octets = octets;
      leads = record { whole = ds; begun = b; reads = spells; text = l.message.1; message = place.message; leads = there; is_place = p.is_place };
      comes = elim (phase_has_ended place.phase) as (λ e. phase_has_ended place.phase ≡ e → IsIncompleteAtScale s widest octets
          ⊎ IsEnvelopeAtScale s widest octets) [
            | true ↦ λ ended.
                let none = p.last ended in
                let rest : k.rest ≡ [] = (subst (λ (c : PartialDataset). EncodesPartial s.octets c k.rest) none k.is_begun).0 in
                let nine = eqb-true (section_after ds) 9 (present ∙ ended) in
                let m = subst (λ (c : PartialDataset). section ds c ≡ 9 → WholeMessage (object_so_far ds c)) none message nine in
                let low = subst (λ (c : PartialDataset). sum (object_place_in ds c).lengths ≤ s.greatest) none k.low in
                let spelled : EncodesStream s.octets ds octets = rw (rest, append-nil) k.spelled in
                let e = enveloped laws widest octets ds m.head m.text m.trailer m.lined.0 (wider_stream s.octets k.few ds octets spelled)
                (subst (CanContinueIn widest ds) none p.goes) nine m.message m.lined.1 in
                inr (record {
                  value = value_of ds m.head m.lined.0 m.trailer e.sizes;
                  admits = e.within.admits;
                  spelled = rw e.datasets_are spelled;
                  rows = rw e.datasets_are (rows_of s ds b k.records);
                  total = rw e.datasets_are (omega (arith, total_of (of_record 8 ds), low));
                  within = e.within.within;
                })
            | false ↦ λ open'. inl (record {
              whole = ds;
              begun = b;
              reads = reads;
              records = k.records;
              within = within_of widest ds b p.goes;
              room =
                  elim b as (λ c. CanContinueIn widest ds c → PartialFits widest ds c)
                  [ InTag held ↦ λ goes. tt | InData h taken ↦ λ goes. goes.room ] p.goes;
              object = law s.greatest (object_place_in ds b) k.one (possible_in laws ds b p.goes) (within_in s ds b (rows_of s ds b k.records)) k.low;
              message = lives_whole o (nat_eq (section ds b) 9) lives.0 (λ nine.
                  let m = message (eqb-true (section ds b) 9 nine) in
                  record { object = o; head = m.head; text = m.text; trailer = m.trailer; message = m.message; tokens_are = refl });
              story = lives.1;
              unfinished = λ sections.
                  let nine = sections_last laws.last_record ds (alive_of widest ds b p.goes) sections.0 in
                  let bad : true ≡ false = sym (ap (λ (n : ℕ). nat_eq n 9) nine) ∙ present ∙ open' in absurd cc;
            })
          ] refl;
    }

-- the size of the subfiles with a partial one
sum_in : (ds : List Dataset) (b : PartialDataset) (rest : List ℕ) → EncodesPartial count_octets b rest → length (object_so_far ds b) ≤ first_greatest_size
    → IsSmallPhase (section ds b) (length (object_so_far ds b)) (phase_of ds b) → sum (object_place_in ds b).lengths ≤ first_greatest_size
sum_in ds (InTag held) rest is low small = omega (arith, total_of (of_record 8 ds), low)
sum_in ds (InData h got) rest is low small =
    grind (arith, so_far_by (nat_eq h.rec 8) (nat_eq h.rec 9) ds got h.count (h.count - length got) (omega (arith, is.2)))

-- ---- the partial dataset

-- some octets that encode it with few count octets, and data that fit its row
small_partial : (octets : List ℕ) (ds : List Dataset) (b : PartialDataset) → ReadsAsDatasets count_octets octets ds b → CanContinueIn widest ds b
    → (nat_eq (section_after ds) 9 ≡ true → b ≡ InTag []) → AllByRecursion Low ds → IsSmallPhase (section ds b) (length (object_so_far ds b)) (phase_of ds b)
    → ((r : List ℕ) × EncodesPartial 4 b r) × SectionsAreViableIn first_scale ds b
small_partial octets ds (InTag held) reads goes last short small =
    let begins = small_tag held (begins_tag count_octets octets ds held reads) in
    let tag : BeginsTag 4 held = grind (arith, small, last, begins) in
    ((held, (refl, tag.head, held ++ tag.more, tag.whole, (tag.more, tag.some_more, refl))), sections_live_small ds goes.records short)
small_partial octets ds (InData h got) reads goes last short small =
    let (tag, spelled, less, given, parts) = reads.is_rest in
    let (d, head, alive) = goes.records in
    let few = low_count ds h goes (λ eight. (small.1 eight).0) in
    let fits : Low d = grind (arith, few, head, small.0) in (
      (canonical_tag h ++ got, (canonical_tag h, few_tag h spelled.rec spelled.set few, less, given, refl)),
      (d, head, sections_live_small (ds ++ d ∷ []) alive (all_append Low ds (d ∷ []) short (fits, tt))),
    )

-- ---- both

-- the object with the partial dataset is no shorter
so_far_more : (ds : List Dataset) (b : PartialDataset) → length (object_of ds) ≤ length (object_so_far ds b)
so_far_more ds b = grind (arith, length-append)

small_keeps : LayerLemmas → (place : Place) (l : LayersReach place) → IsSmallPlace place → (p : Opens place l) → KeepTo first_scale place l p
small_keeps laws place l small p =
    let ds = witness_of place l p.object in
    let there = subst IsSmallPlace p.is_place small in
    let more = so_far_more ds p.begun in
    let low = low_witness place.fields l.numbers (ended_heads place) p.object (phase_has_ended place.phase) l.kept (omega (arith, l.within.octets_in))
    (rw l.numbers_are at small.numbers) (omega (arith, more, ap length p.tell.object_is, there.taken)) in
    let present = present_ended place.fields l.numbers (ended_heads place) p.object (phase_has_ended place.phase) l.kept in
    let reads = reads_of count_octets ds p.begun p.rest (laws.spelled ds p.spelled) p.is_begun in
    let begun = small_partial (canonical_stream ds ++ p.rest) ds p.begun reads p.goes (λ nine. p.last (sym present ∙ nine)) low there.begun in
    record {
      few = omega arith;
      one = omega arith;
      rest = begun.0.0;
      is_begun = begun.0.1;
      spelled = few_stream ds p.spelled low;
      records = begun.1;
      low = sum_in ds p.begun p.rest p.is_begun there.taken there.begun;
    }

pub small_places : LayerLemmas → PlacesAreViableWithin → SmallPlacesWerePossible
small_places laws law place = (
  still_possible laws place,
  (λ both.
      let l = reachable_by_layers laws place both.0 in
      let p = layers_open laws place l in possible_by laws law first_scale place l p (small_keeps laws place l both.1 p)),
)

-- ---- rows

eight_fits : (set : ℕ) (xs : List ℕ) → OctetsMeetRow 8 set xs → length xs ≤ greatest_size
unfolding row_of table
eight_fits set xs = by_ten 8 eight_has xs (λ _. length xs ≤ greatest_size) (λ h. within_most_and 0 greatest_size (length xs) true h) set

all_fit : (ds : List Dataset) → AreSections ds → AllByRecursion (FitsRow present_scale) ds
all_fit ds are = all_map _ _ ds (λ d good. grind (arith, sized, eight_fits)) (each_good ds are)

-- ---- the present scale

records_at : (ds : List Dataset) (b : PartialDataset) → CanContinueIn widest ds b → SectionsAreViableIn present_scale ds b
records_at ds b goes = grind (arith, all_fit)

present_possible : LayerLemmas → PlacesAreViableWithin → (place : Place) → LayersReach place → IsPossibleAtScale present_scale place
present_possible laws law place l =
    let p = layers_open laws place l in
    let ds = witness_of place l p.object in
    possible_by laws law present_scale place l p (record {
      few = omega arith;
      one = omega arith;
      rest = p.rest;
      is_begun = p.is_begun;
      spelled = laws.spelled ds p.spelled;
      records = records_at ds p.begun p.goes;
      low = object_fits (object_place_in ds p.begun) (lives_in ds p.begun p.goes);
    })

-- A position that each layer can reach is possible.
pub layers_reach : LayerLemmas → PlacesAreViableWithin → (place : Place) → LayersReach place → Possible place
layers_reach laws law place l = still present_scale (omega arith) place (present_possible laws law place l)

pub present_scale_adds : LayerLemmas → PlacesAreViableWithin → PresentScaleAddsNothing
present_scale_adds laws law place = (still present_scale (omega arith) place, λ p. present_possible laws law place (reachable_by_layers laws place p))
