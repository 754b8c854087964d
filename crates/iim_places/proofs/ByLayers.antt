-- A position is possible if and only if each layer by itself can reach it.
use Rattle.std.proofs.Common.{◌≡◌, ℕ, zero, suc, ◌+◌, ◌-◌, ◌<◌, ◌≤◌, nat_eq, cond, if◌then◌else◌, Bool, true, false, List, [], ◌∷◌, ◌++◌, length, Some, None, refl, ap, sym, subst, ◌∙◌, inl, inr, arith, append-nil, length-append, ◌*◌, sum, take, drop, length-drop, IfSome}
use Rattle.iim_places.proofs.Words.{FitsInField, eqb-true, eqb_tells, Octets, Dataset, count_octets, of_record, PartialDataset, InTag, InData, ReadsAsDatasets, Head, sum_append, AreViableSections, AreViableSectionsWithHead, kept, section_after, Limits, place_after_datasets, place_ended, ending_of, ObjectEnded, SubfileBegun, NotEnded, ConfirmedAs, place_after, max_subfiles, lengths_of, numbers_of, IsPossible, stated_numbers, MessagePlace, object_of, LayersReach, TagsReachPhase, RecordsAreViable, ObjectReachesPlace, record_datasets, partial_subfiles, zero_or_one, phase_has_ended, object_so_far, section, plain, Possible, widest, Phase, PartialTag, AllEnded, phase_of, place_of, ObjectIsViable, CanContinueAt, CanContinueIn, LayerLemmas, AllByRecursion, unwrap_or, length-take, take-append-drop, nil_from_length, greatest_size, IsEncodable, EncodesPartial, all_append, all_front, all_back, front_are, sum_fits, IsGoodDataset, head_alive, Confirmed, Ending, IsAbsentOrSize, head_of_numbers, AreWithinLimits, Numbers, number_list, witness_end, PartialData, place_at, eq-eqb, CanContinue, object_place_in, IsWithin, AreHeadsWithin, PlacesDetermineLimits, subfile_datasets, filled, AreStored, IsOctet, heads_of, ne_eqb, numbers_of_list, number_back}
use Rattle.iim_places.proofs.{Following.within_of, AfterEnd.after_end, Lasts.last_sections, Lasts.not_all, SameStates.Continues, SameStates.witness_equivalent, SameStates.alive_at_as}
use Rattle.iim_places.proofs.{Fitting.fit_in_rows, Fitting.each_fits, Fitting.goes_at, Fitting.begins_tag, Fitting.stored_fits, ObjectOctets.living_octets}
use Rattle.iim_places.proofs.PlainSizes.{numbers_in, all_kept, mode_octet, end_length, possible_like, AreBounded, bounded_at, ending_after, possible_after, possible_at}
use Rattle.iim_places.proofs.{SameRecords.nines, SameRecords.stated_after_all, SameRecords.same_numbers, Bounds.object_fits, Taking.each_good}
use Rattle.iim_places.proofs.{Tickets.total_of, Tickets.count_of, Tickets.sum_one, Tickets.heads_by, Tickets.so_far_by, SamePlace.SameObject}
use Rattle.iim_places.proofs.StreamResults.{open_at, one_reading, nothing_partial, reads_envelope}
use Rattle.iim_places.proofs.Plain.{Tell, back_octets, witness_contents, present_ended, witness_encoded}
use Rattle.iim_object.specs.States.Reading.{PlaceHasNumbers}
use Rattle.iim_places.specs.Format.Tickets.{Place}
use Rattle.iim_fields.specs.Format.Causes.{joined}
use Rattle.iim_object.specs.Format.Objects as objects
use Rattle.wire_message.specs.declared.saved.MessagePart.TheVariants as part

tags_reach : (octets : List ℕ) (ds : List Dataset) (b : PartialDataset) → ReadsAsDatasets count_octets octets ds b → TagsReachPhase (section ds b)
    (phase_of ds b)
tags_reach octets ds (InTag held) reads = grind (arith, begins_tag count_octets octets ds held reads)
tags_reach octets ds (InData h taken) reads =
    let (tag, spelled, less, all, parts) = reads.is_rest in
    ((omega (arith, less), omega arith, tag, spelled), stored_fits (nat_eq h.rec 8) h.count taken less, grind arith)

-- ---- the record layer

few_subfiles : (n : ℕ) → zero_or_one n ≤ max_subfiles
few_subfiles n = grind arith

one_same : (n : ℕ) → zero_or_one n ≡ zero_or_one (zero_or_one n)
one_same n = grind arith

-- The state of the layer after datasets is its state after the few that determine it.
pub fewer : LayerLemmas → (ds : List Dataset) → AreViableSections ds → length (of_record 8 ds) ≤ max_subfiles → (some : ℕ) (ended : Bool)
    → length (of_record 8 ds) ≡ some → nat_eq (section_after ds) 9 ≡ ended
    → Continues ds (plain (kept ds) (numbers_in (numbers_of (of_record 7 ds))) (zero_or_one some) [] ended)
fewer laws ds alive few some ended some_is ended_is =
    let ends = nines laws ds alive in
    witness_equivalent laws ds (kept ds) (numbers_in (numbers_of (of_record 7 ds))) (zero_or_one some) [] ended (grind (arith, one_same))

pub partial_same : (n : ℕ) (b : Bool) → (n + (if b then 1 else 0)) - (if b then 1 else 0) ≡ n
partial_same n b = grind arith

-- datasets after which a head is allowed have not ended
still_open : LayerLemmas → (ds : List Dataset) (h : Head) → AreViableSectionsWithHead ds h → nat_eq (section_after ds) 9 ≡ false
still_open laws ds h at = ne_eqb (section_after ds) 9 (λ nine. not_all laws.sections ds h at (last_sections laws.last_record ds (head_alive ds h at) nine))

records_are_reached : LayerLemmas → (ds : List Dataset) (b : PartialDataset) (m : MessagePlace) → CanContinueIn widest ds b
    → RecordsAreViable (section ds b) (phase_of ds b) (record_datasets (place_of ds b m) (numbers_in (numbers_of (of_record 7 ds))))
records_are_reached laws ds (InTag held) m goes = by (nat_eq (section_after ds) 9) refl
  where
    by : (b : Bool) → nat_eq (section_after ds) 9 ≡ b → RecordsAreViable (section_after ds) (if b then AllEnded else PartialTag held)
        (record_datasets (record (place_of ds (InTag held) m) { phase = if b then AllEnded else PartialTag held }) (numbers_in (numbers_of (of_record 7 ds))))
    by true nine =
        (eqb-true (section_after ds) 9 nine, (fewer laws ds goes.records goes.within.subfiles (length (of_record 8 ds) - 0) true (omega arith) nine).alive)
    by false other =
        let few = fewer laws ds goes.records goes.within.subfiles (length (of_record 8 ds) - 0) false (omega arith) other in (sym few.present, few.alive)
records_are_reached laws ds (InData h taken) m goes =
    let one = nat_eq h.rec 8 in
    let heads : ℕ = (length (of_record 8 ds) + (if one then 1 else 0)) - (if one then 1 else 0) in
    let few = fewer laws ds (head_alive ds h goes.records) goes.within.subfiles heads false
    (sym (partial_same (length (of_record 8 ds)) one)) (still_open laws ds h goes.records) in
    alive_at_as ds (plain (kept ds) (numbers_in (numbers_of (of_record 7 ds))) (zero_or_one heads) [] false) h few.alive few.present few.seen goes.records

-- ---- the object layer

-- the position after the subfiles, before the end
abbrev pub opened : List Dataset → objects.Place
opened ds = record (place_after_datasets ds) { ending = NotEnded }

pub nine_ended : LayerLemmas → (ds : List Dataset) → AreViableSections ds → nat_eq (section_after ds) 9 ≡ false → ending_of (of_record 9 ds) ≡ NotEnded
nine_ended laws ds alive open' = ap ending_of (nil_from_length (of_record 9 ds) (nines laws ds alive ∙ ap (λ (b : Bool). cond b 1 0) open'))

-- the position of the object after its end, whose size is confirmed
pub ended_place : LayerLemmas → (ds : List Dataset) (b : Bool) → nat_eq (section_after ds) 9 ≡ b → AreViableSections ds → length (of_record 8 ds) ≤ max_subfiles
    → ObjectIsViable (place_after_datasets ds)
    → record (place_after_datasets ds) { ending = if b then ConfirmedAs (length (object_of ds)) else NotEnded } ≡ place_after_datasets ds
ended_place laws ds b is alive few lives = grind (arith, ending_after)

-- If no subfile is partial, all octets of the object were received.
pub whole_at : (ds : List Dataset) (taken heads : ℕ) → taken ≡ length (object_of ds) → heads ≡ length (of_record 8 ds)
    → PlaceHasNumbers (stated_numbers (numbers_of (of_record 7 ds))) taken None heads (opened ds)
whole_at ds taken heads octets many = grind (arith, total_of, count_of)

pub possible_in : LayerLemmas → (ds : List Dataset) (b : PartialDataset) → CanContinueIn widest ds b → IsPossible (object_place_in ds b)
possible_in laws ds (InTag held) goes = possible_after laws ds goes.records goes.within.subfiles goes.object
possible_in laws ds (InData h taken) goes = possible_at laws ds h goes.records goes.within.subfiles goes.room.subfiles goes.object

-- In data there is a position with these numbers, and with the last token it is that of the
-- datasets and the head.
pub reached_at : LayerLemmas → (limits : Limits) (ds : List Dataset) (h : Head) (taken : List ℕ) → CanContinueAt limits ds h
    → ending_of (of_record 9 ds) ≡ NotEnded → length taken < h.count
    → (p : objects.Place)
    × PlaceHasNumbers (stated_numbers (numbers_of (of_record 7 ds))) (length (object_of ds ++ (if nat_eq h.rec 8 then taken else [])))
    (if nat_eq h.rec 8 then Some (h.count, h.count - length taken) else None) (length (of_record 8 ds) + (if nat_eq h.rec 8 then 1 else 0)) p
    × ((if nat_eq h.rec 9 then place_after p ObjectEnded else p) ≡ place_at ds h)
reached_at laws limits ds h taken goes open' less = elim (eqb_tells h.rec 8) [
  | inl eight ↦ rw (eight.0, ap (λ (r : ℕ). nat_eq r 9) eight.1)
      (place_after (opened ds) (SubfileBegun h.count), subfile, ap (λ (p : objects.Place). place_after p (SubfileBegun h.count)) same)
  | inr other ↦ rw other.0 (
    opened ds,
    whole_at ds _ _ (ap length (append-nil (object_of ds))) (omega arith),
    ap (λ (p : objects.Place). if nat_eq h.rec 9 then place_after p ObjectEnded else p) same,
  )
]
  where
    same : opened ds ≡ place_after_datasets ds
    same = λ i. record (place_after_datasets ds) { ending = sym open' i }

    subfile : PlaceHasNumbers (stated_numbers (numbers_of (of_record 7 ds))) (length (object_of ds ++ taken)) (Some (h.count, h.count - length taken))
        (length (of_record 8 ds) + 1) (place_after (opened ds) (SubfileBegun h.count))
    subfile = record {
      numbers_are = refl;
      octets = record {
        finished = lengths_of (of_record 8 ds);
        lengths_are = refl;
        some = omega (arith, less);
        fits = omega arith;
        octets = sym (so_far_by true false ds taken h.count (h.count - length taken) (omega (arith, less)));
      };
      subfiles = sym (heads_by true false ds h.count);
      not_ended = refl;
    }

object_reaches : LayerLemmas → (ds : List Dataset) (b : PartialDataset) (m : MessagePlace) (rest : List ℕ) → EncodesPartial count_octets b rest
    → CanContinueIn widest ds b
    → ObjectReachesPlace (place_of ds b m)
object_reaches laws ds (InTag held) m rest is goes =
    let ended = ended_place laws ds (nat_eq (section_after ds) 9) refl goes.records goes.within.subfiles goes.object in
    by (nat_eq (section_after ds) 9) (subst IsPossible (sym ended) (possible_in laws ds (InTag held) goes))
  where
    by : (b : Bool) → IsPossible (record (place_after_datasets ds) { ending = if b then ConfirmedAs (length (object_of ds)) else NotEnded })
        → ObjectReachesPlace (record (place_of ds (InTag held) m) { phase = if b then AllEnded else PartialTag held })
    by true is = (opened ds, whole_at ds _ _ refl refl, is)
    by false is = (opened ds, whole_at ds _ _ refl refl, is)
object_reaches laws ds (InData h taken) m rest is goes =
    let none = nine_ended laws ds (head_alive ds h goes.records) (still_open laws ds h goes.records) in
    let (p, at, same) = reached_at laws widest ds h taken goes none is.2 in
    (p, at, subst IsPossible (sym same) (possible_in laws ds (InData h taken) goes))

-- ---- the limits

told_by : (limits : Limits) (ds : List Dataset) (b : PartialDataset) (m : MessagePlace) → CanContinueIn limits ds b → AreHeadsWithin limits (place_of ds b m)
told_by limits ds b m goes = grind arith

within_by : (limits : Limits) (ds : List Dataset) (b : PartialDataset) (m : MessagePlace) → CanContinueIn widest ds b → AreHeadsWithin limits (place_of ds b m)
    → CanContinueIn limits ds b
within_by limits ds b m goes within = grind arith

-- Octets that are incomplete or an envelope under the widest limits are so under others if and only
-- if the heads of their position are within these.
pub limits_determined : LayerLemmas → PlacesDetermineLimits
limits_determined laws limits octets place is comes = (
  (λ at. subst (AreHeadsWithin limits) (sym is.is_place) (told_by limits is.whole is.begun is.message (goes_at laws limits octets place is at).sizes)),
  (λ within.
      let goes = goes_at laws widest octets place is comes in
      let sizes = within_by limits is.whole is.begun is.message goes.sizes (subst (AreHeadsWithin limits) is.is_place within) in
      elim comes [
        | inl o ↦ inl (record {
          whole = is.whole;
          begun = is.begun;
          reads = is.reads;
          leads_on = record { sizes = sizes; message = goes.message; story = goes.story };
          unfinished = (open_at laws widest octets is.whole is.begun is.reads o).1;
        })
        | inr (value, e) ↦
            let same = one_reading laws octets is.whole e.admits.datasets is.begun (InTag []) is.reads (reads_envelope octets value e.admits) in
            inr (value, record { admits = e.admits; within = rw same.whole_is at (within_of limits is.whole is.begun sizes) })
      ]),
)

-- Each layer can reach a possible position.
pub reachable_by_layers : LayerLemmas → (place : Place) → Possible place → LayersReach place
reachable_by_layers laws place p =
    let l = p.leads in
    let goes = goes_at laws widest p.octets place l p.comes in
    let ds = l.whole in
    let o = object_so_far ds l.begun in
    let same = ap (λ (m : MessagePlace). m.part) l.leads.2 in
    let last : section ds l.begun ≡ 9 → l.message.part ≡ part.AfterEnd =
    λ nine. sym same ∙ after_end l.leads.0 ((laws.message_ends o l.text l.leads.0 l.leads.1).0 (rw nine at goes.message)) in
    subst LayersReach (sym l.is_place) (record {
      numbers = numbers_in (numbers_of (of_record 7 ds));
      numbers_are = refl;
      kept = all_kept ds;
      tags = tags_reach p.octets ds l.begun l.reads;
      records = records_are_reached laws ds l.begun l.message goes.sizes;
      object = object_reaches laws ds l.begun l.message l.reads.rest l.reads.is_rest goes.sizes;
      message = (o, l.text, l.leads, refl, last);
      within = told_by widest ds l.begun l.message goes.sizes;
    })

-- ---- witness datasets for a position

part_small : (size count : ℕ) (xs : List ℕ) → AllByRecursion (λ n. n ≤ size) (lengths_of (subfile_datasets (filled size count xs)))
part_small size zero xs = tt
part_small size (suc count) xs = (omega (arith, length-take size xs), part_small size count (drop size xs))

-- The fields of sections can be encoded if they have few octets.
have_encodings : (ds : List Dataset) → AreStored ds → AllByRecursion IsGoodDataset ds → AllByRecursion FitsInField ds → AllByRecursion IsEncodable ds
have_encodings [] keeps good few = tt
have_encodings (d ∷ ds) keeps good few = grind (arith, have_encodings ds keeps.1 good.1 few.1, keeps.0, good.0, few.0)

-- the number of complete subfiles
abbrev pub ended_heads : Place → ℕ
ended_heads place = place.heads - partial_subfiles place.section place.phase

-- The witness datasets for the position, with these octets in the complete subfiles.
abbrev pub witness_of : (place : Place) → LayersReach place → List ℕ → List Dataset
witness_of place l object = plain place.fields l.numbers (ended_heads place) object (phase_has_ended place.phase)

-- Witness datasets and the partial one after them reach the position, and every layer can continue
-- from there.
pub record Opens (place : Place) (l : LayersReach place) : Type 0 where
  pub object : List ℕ
  pub begun : PartialDataset
  pub rest : List ℕ
  pub tell : Tell (witness_of place l object) place.fields l.numbers (ended_heads place) object (phase_has_ended place.phase)
  pub spelled : AllByRecursion IsEncodable (witness_of place l object)
  pub is_begun : EncodesPartial count_octets begun rest
  pub octets : object_so_far (witness_of place l object) begun ≡ l.message.0
  pub is_place : place ≡ place_of (witness_of place l object) begun place.message
  pub goes : CanContinueIn widest (witness_of place l object) begun
  pub last : phase_has_ended place.phase ≡ true → begun ≡ InTag []

-- A position that each layer can reach, and octets of its object: the data of all complete
-- subfiles.
module _ (laws : LayerLemmas) (place : Place) (l : LayersReach place) (object : List ℕ) where
  abbrev heads : ℕ
  heads = ended_heads place

  abbrev ended : Bool
  ended = phase_has_ended place.phase

  abbrev made : List Dataset
  made = witness_of place l object

  -- The witness datasets have the first subfiles of a possible position of the object, and it is
  -- viable with the others after them.
  record Filling (p : objects.Place) (ks : List ℕ) : Type 0 where
    tell : Tell made place.fields l.numbers heads object ended
    few : length object ≤ greatest_size
    spelled : AllByRecursion IsEncodable made
    inside : AreWithinLimits widest made
    on : Continues (record_datasets place l.numbers) made
    lives : (e : Ending) → p.ending ≡ e
        → ObjectIsViable (record { stated = numbers_of (of_record 7 made); lengths = lengths_of (of_record 8 made) ++ ks; ending = e })

  filling : (p : objects.Place) (ls ks : List ℕ) → number_list l.numbers ≡ stated_numbers p.stated → IsPossible p → p.lengths ≡ ls ++ ks → length ls ≡ heads
      → sum ls ≡ length object → Octets object → AreViableSections (record_datasets place l.numbers) → Filling p ks
  filling p ls ks same is parts many total octets alive =
      let are : l.numbers ≡ numbers_in p.stated = ap numbers_of_list same in
      let size = unwrap_or l.numbers.largest 0 in
      let each : AllByRecursion (λ n. n ≤ size) (ls ++ ks) = rw (are, ← parts) (bounded_at laws p is) in
      let sums : sum p.lengths ≡ sum ls + sum ks = ap sum parts ∙ sum_append ls ks in
      let counts : length p.lengths ≡ length ls + length ks = ap length parts ∙ length-append ls ks in
      let few : length object ≤ greatest_size = omega (arith, object_fits p is.alive, sums, total) in
      let room : length object ≤ heads * size = rw (← total, ← many) (sum_fits size ls (all_front (λ n. n ≤ size) ls ks each)) in
      let fit = subst (λ (n : Numbers). AllByRecursion IsAbsentOrSize (number_list n)) (sym are) (fit_in_rows p.stated is.stated.each) in
      let base = record_datasets place l.numbers in
      let tell = witness_contents place.fields l.numbers heads object ended l.kept fit room in
      let less = witness_contents place.fields l.numbers (zero_or_one heads) [] ended l.kept fit (omega arith) in
      let low : zero_or_one heads ≤ max_subfiles = few_subfiles heads in
      let ends = ap length less.nines_are ∙ end_length ended [] in
      let on = witness_equivalent laws base place.fields l.numbers heads object ended (grind (arith, one_same)) in
      let subfiles : length (of_record 8 made) ≤ max_subfiles = omega (arith, tell.heads_are, many, counts, is.few) in
      let within : IsWithin widest (length (joined place.fields)) (length place.fields) =
      record { octets_in = omega (arith, l.within.octets_in); fields_in = omega (arith, l.within.fields_in) } in
      let good = all_front IsGoodDataset place.fields _ (all_front IsGoodDataset base alive.0 (each_good (base ++ alive.0) alive.1)) in
      let ns = numbers_of (of_record 7 made) in
      let ms = lengths_of (of_record 8 made) in
      let told = same_numbers p.stated ns (sym same ∙ sym tell.numbers_are) in
      let bounded : AreBounded ns (ms ++ ks) =
      rw (← told.largest, ← ap (λ (n : Numbers). n.largest) are)
      (all_append (λ n. n ≤ size) ms ks (rw tell.eights_are (part_small size heads object)) (all_back (λ n. n ≤ size) ls ks each)) in
      let alike : (e : Ending) → SameObject p (record { stated = ns; lengths = ms ++ ks; ending = e }) = λ e. record {
        numbers = told;
        heads = omega (arith, counts, many, tell.heads_are, count_of (of_record 8 made), length-append ms ks);
        octets = omega (arith, sums, total, ap length tell.object_is, total_of (of_record 8 made), sum_append ms ks);
      } in
      record {
        tell = tell;
        few = few;
        spelled = witness_encoded place.fields l.numbers heads object ended
            (have_encodings place.fields l.kept good (each_fits place.fields (omega (arith, l.within.octets_in))))
            (subst (λ (n : Numbers). IfSome n.mode IsOctet) (sym are) (mode_octet p.stated is.stated.each)) octets few;
        inside = record { kept = rw tell.kept_are within; subfiles = subfiles };
        on = on;
        lives = λ e end'.
            let stated = (stated_after_all laws made on.alive subfiles).stated in
            (possible_like laws p (record { stated = ns; lengths = ms ++ ks; ending = e }) is stated (alike e) bounded end').alive;
      }

  -- every layer can continue after them
  goes_on : (p : objects.Place) → Filling p [] → p.ending ≡ ending_of (witness_end ended object) → CanContinue widest made
  goes_on p f end' =
      let object = rw append-nil at (f.lives (ending_of (of_record 9 made)) (end' ∙ sym (ap ending_of f.tell.nines_are))) in
      record { records = f.on.alive; within = f.inside; object = object }

  led : (p : objects.Place) (ks : List ℕ) → Filling p ks → (begun : PartialDataset) (rest : List ℕ) → EncodesPartial count_octets begun rest
      → object_so_far made begun ≡ l.message.0 → place.section ≡ section made begun → place.phase ≡ phase_of made begun → place.heads ≡ heads_of made begun
      → CanContinueIn widest made begun → (ended ≡ true → begun ≡ InTag []) → Opens place l
  led p ks f begun rest is octets section_is phase_is heads_are goes last = record {
    object = object;
    begun = begun;
    rest = rest;
    tell = f.tell;
    spelled = f.spelled;
    is_begun = is;
    octets = octets;
    is_place = λ i. record place {
      section = section_is i;
      phase = phase_is i;
      fields = sym f.tell.kept_are i;
      numbers = (l.numbers_are ∙ sym f.tell.numbers_are) i;
      taken = (sym l.message.3 ∙ sym (ap length octets)) i;
      heads = heads_are i;
    };
    goes = goes;
    last = last;
  }

-- The octets of the object are octets.
object_in : LayerLemmas → (place : Place) (l : LayersReach place) → Octets l.message.0
object_in laws place l = living_octets l.message.0 (laws.living l.message.0 l.message.1 l.message.2.0 l.message.2.1).0

-- the witness datasets if no subfile is partial
between : (laws : LayerLemmas) (place : Place) (l : LayersReach place) (p : objects.Place) → number_list l.numbers ≡ stated_numbers p.stated → IsPossible p
    → place.heads ≡ length p.lengths
    → sum p.lengths ≡ place.taken → partial_subfiles place.section place.phase ≡ 0 → AreViableSections (record_datasets place l.numbers)
    → Filling laws place l l.message.0 p []
between laws place l p same is many total none alive =
    filling laws place l l.message.0 p p.lengths [] same is (sym (append-nil p.lengths)) (omega (arith, many, none)) (total ∙ sym l.message.3)
    (object_in laws place l) alive

-- ---- every phase

abbrev with_phase : Place → Phase → Place
with_phase place phase = record place { phase = phase }

reach_by : (laws : LayerLemmas) (place : Place) (phase : Phase) (l : LayersReach (with_phase place phase)) → Opens (with_phase place phase) l
reach_by laws place (PartialTag held) l =
    let here = with_phase place (PartialTag held) in
    let o = l.message.0 in
    let at = l.object.1 in
    let f = between laws here l l.object.0 (sym l.numbers_are ∙ at.numbers_are) l.object.2 at.subfiles at.octets refl l.records.1 in
    led laws here l o l.object.0 [] f (InTag held) held (refl, l.tags.head, held ++ l.tags.more, l.tags.whole, (l.tags.more, l.tags.some_more, refl))
    f.tell.object_is (sym l.records.0 ∙ f.on.present) (rw (present_ended place.fields l.numbers (ended_heads here) o false l.kept) refl)
    (omega (arith, f.tell.heads_are)) (goes_on laws here l o l.object.0 f at.not_ended) (λ e. absurd (let bad : false ≡ true = e in cc))
reach_by laws place (PartialData set count left given) l = by (nat_eq place.section 8) (nat_eq place.section 9) refl refl l.tags.1 l.object.1 l.object.2
  where
    here : Place
    here = with_phase place (PartialData set count left given)

    h : Head
    h = head_of_numbers place.section set count

    alive : AreViableSections (record_datasets here l.numbers)
    alive = head_alive (record_datasets here l.numbers) h l.records

    -- the object's position after these datasets and the head
    StandsAt : objects.Place → List ℕ → Type 0
    StandsAt q ks = (ds : List Dataset) → ending_of (of_record 9 ds) ≡ NotEnded
        → place_at ds h ≡ record { stated = numbers_of (of_record 7 ds); lengths = lengths_of (of_record 8 ds) ++ ks; ending = q.ending }

    -- with the data of the complete subfiles, and of the partial one
    lead : (object data' : List ℕ) (q : objects.Place) (ks : List ℕ) → Filling laws here l object q ks
        → object ++ (if nat_eq place.section 8 then data' else []) ≡ l.message.0 → place.heads ≡ ended_heads here + (if nat_eq place.section 8 then 1 else 0)
        → given ≡ (if nat_eq place.section 8 then [] else data') → length data' + left ≡ count
        → Octets data' → (place.section ≡ 8 → ended_heads here < max_subfiles) → StandsAt q ks → Opens here l
    lead object data' q ks f octets heads_are given_is long all few at =
        let ds = witness_of here l object in
        let left_is : left ≡ count - length data' = omega (arith, long) in
        led laws here l object q ks f (InData h data') (l.tags.0.2 ++ data') (l.tags.0.2, l.tags.0.3, omega (arith, long, l.tags.0.0), all, refl)
        (rw f.tell.object_is octets) refl (λ i. PartialData set count (left_is i) (given_is i)) (rw f.tell.heads_are heads_are)
        (record {
          records = alive_at_as (record_datasets here l.numbers) ds h f.on.alive f.on.present f.on.seen l.records;
          within = f.inside;
          room = record { kept = λ keeps. rw f.tell.kept_are (rw keeps at l.within); subfiles = λ eight. omega (arith, f.tell.heads_are, few eight) };
          object = subst ObjectIsViable (sym (at ds (ap ending_of f.tell.nines_are))) (f.lives q.ending refl);
        })
        (λ e. absurd (let bad : false ≡ true = e in cc))

    -- in another record than that of the subfiles
    other : (q : objects.Place) → nat_eq place.section 8 ≡ false → length given ≡ count - left → number_list l.numbers ≡ stated_numbers q.stated → IsPossible q
        → place.heads ≡ length q.lengths → sum q.lengths ≡ place.taken → StandsAt q [] → Opens here l
    other q not8 come same is many total at =
        lead l.message.0 given q [] (between laws here l q same is many total (rw not8 refl) alive) (rw not8 (append-nil l.message.0)) (rw not8 (omega arith))
        (rw not8 refl) (omega (arith, come, l.tags.0.1)) l.tags.2
        (λ eight. absurd (let bad : true ≡ false = sym (eq-eqb place.section 8 eight) ∙ not8 in cc)) at

    by : (b c : Bool) → nat_eq place.section 8 ≡ b → nat_eq place.section 9 ≡ c → length given ≡ (if b then 0 else count - left)
        → PlaceHasNumbers place.numbers place.taken (if b then Some (count, left) else None) place.heads l.object.0
        → IsPossible (if c then place_after l.object.0 ObjectEnded else l.object.0)
        → Opens here l
    by true true eight nine come at is = absurd (let e = eqb-true place.section 8 eight in let f = eqb-true place.section 9 nine in omega (arith, e, f))
    by true false eight nine come at is =
        let last = at.octets in
        let cut = sum last.finished in
        let o = l.message.0 in
        let sums : cut + count ≡ place.taken + left =
        ap (λ (n : ℕ). cut + n) (sym (sum_one count)) ∙ sym (sum_append last.finished (count ∷ [])) ∙ sym (ap sum last.lengths_are) ∙ last.octets in
        let many : place.heads ≡ length last.finished + 1 = at.subfiles ∙ ap length last.lengths_are ∙ length-append last.finished (count ∷ []) in
        let all = object_in laws here l in
        let f = filling laws here l (take cut o) l.object.0 last.finished (count ∷ []) (sym l.numbers_are ∙ at.numbers_are) is last.lengths_are
        (rw eight (omega (arith, many))) (omega (arith, length-take cut o, sums, last.fits, l.message.3)) (front_are cut o all) alive in
        lead (take cut o) (drop cut o) l.object.0 (count ∷ []) f (rw eight (take-append-drop cut o)) (rw eight (omega (arith, many)))
        (rw eight (nil_from_length given come)) (omega (arith, length-drop cut o, sums, last.fits, l.message.3)) (back_octets cut o all)
        (λ e. rw eight (omega (arith, at.subfiles, many, is.few)))
        (λ ds none. rw eight (λ i. record (place_after (place_after_datasets ds) (SubfileBegun count)) { ending = (none ∙ sym at.not_ended) i }))
    by false true not8 nine come at is =
        other (place_after l.object.0 ObjectEnded) not8 come (sym l.numbers_are ∙ at.numbers_are) is at.subfiles at.octets
        (λ ds none. rw (not8, nine) (λ i. record (place_ended ds) { lengths = sym (append-nil (lengths_of (of_record 8 ds))) i }))
    by false false not8 not9 come at is =
        other l.object.0 not8 come (sym l.numbers_are ∙ at.numbers_are) is at.subfiles at.octets
        (λ ds none. rw (not8, not9, append-nil) (λ i. record (place_after_datasets ds) { ending = (none ∙ sym at.not_ended) i }))
reach_by laws place AllEnded l =
    let here = with_phase place AllEnded in
    let o = l.message.0 in
    let at = l.object.1 in
    let p = place_after (place_after l.object.0 ObjectEnded) (Confirmed place.taken) in
    let f = between laws here l p (sym l.numbers_are ∙ at.numbers_are) l.object.2 at.subfiles at.octets refl l.records.1 in
    let ended = present_ended place.fields l.numbers (ended_heads here) o true l.kept in
    let few = f.few in
    let confirmed = ap ConfirmedAs (sym l.message.3 ∙ sym (number_back (length o) (omega (arith, few)))) in
    led laws here l o p [] f (InTag []) [] nothing_partial f.tell.object_is (l.records.0 ∙ sym (eqb-true (section_after (witness_of here l o)) 9 ended))
    (rw ended refl) (omega (arith, f.tell.heads_are)) (goes_on laws here l o p f confirmed) (λ e. refl)

-- Witness datasets reach a position that each layer can reach.
pub layers_open : LayerLemmas → (place : Place) (l : LayersReach place) → Opens place l
layers_open laws place l = reach_by laws place place.phase l
