-- Octets that reach one position have the same continuations, and the same octet is rejected with
-- the same error.
use Rattle.std.proofs.Common.{◌≡◌, ℕ, nat_eq, if◌then◌else◌, Bool, true, false, List, [], ◌∷◌, ◌++◌, length, Some, refl, ap, sym, subst, ◌∙◌, inl, inr, arith, append-nil, ◌&&◌, ◌||◌, not, nat_lt, None, map, append_assoc, ◌<◌, length-append}
use Rattle.iim_places.proofs.Words.{append_cancel_left, Dataset, count_octets, of_record, PartialDataset, InTag, InData, EncodesPartial, ReadsAsDatasets, Head, section_after, AreSections, Limits, HaveSizes, Sizes, text_so_far, Value, object_of, EqualExceptLines, PlacesDetermineContinuations, AllCanContinue, object_so_far, IsTextOf, IsEnvelopeWithin, ReachesPlace, heads_of, place_of, LayerLemmas, ne_eqb, option_or, option_map, number, head_of, head_fault, room_fault, occurs, data_of, place_after_datasets, cause_at, number_cause, NumberRead, ObjectToken, head_token, value_token, max_subfiles, End, PlacesDetermineRefusals, fault_of_record, size_fault_on, count_fault_on, RejectsHead, RejectsValue, CanContinueAt, IsFaultOfValue, fault_at_head, fault_at_value, place_at, TokenFault, Layer, Octet, with_end, MessageLanguage, IsViableMessage, EndsViableMessage, message_tokens, ViableOctetsAreIncomplete, section, AreViable, same_Some, NotEnded, ConfirmedAs, IsViablePrefix, CanContinueIn, compare, eqb_tells, IsOctet, Octets, EncodesStream, all_back, octets_append, last_more, OctetsMeetRow, IsGoodDataset, good_elsewhere}
use Rattle.iim_places.proofs.StreamResults.{goes_envelope, reaches_end, one_reading, reads_envelope, IsRefusedAt, IsRefusedWith, refuses_by, tests_of, lives_as}
use Rattle.iim_places.proofs.Following.{alive_of, message_of, story_of, within_of, with_data, object_lives_after, follows, longer_prefix, same_data, prefix_viable, so_far_both, brought, more_object, closed_object}
use Rattle.iim_places.proofs.{PlainSizes.ending_after, Lasts.last_sections, Lasts.sections_last, Lasts.not_all, ObjectOctets.few_more, ObjectOctets.no_object}
use Rattle.iim_places.proofs.SamePlace.{SameObject, SameWhole, object_lives_after_as, SameBegun, SameData, SameMessage, opened, same_begun, same_message, value_as, object_at}
use Rattle.iim_places.proofs.{SameRecords.SameFields, SameRecords.same_records, SameRecords.same_more, Taking.good_at, AfterEnd.ended_at, Living.viable_prefix}
use Rattle.iim_places.proofs.SameStates.{HaveSameState, enveloped, value_of, at_as, after_as, numbers_on, room_as, same_tail, same_state_append, may_as, alive_at_as, flip, bounded_after, heads_same, AreBounded, SameTail, alive_on, eights, present_on, sevens}
use Rattle.iim_places.proofs.{Fronts.begun_none, SizeRows.by_ten, SizeRows.eight_has, Fitting.each_octets}
use Rattle.wire_message.specs.States.Reading.{ReachesMessageState}
use Rattle.iim_places.specs.{Format.Tickets.Place, Laws.RefusalsReportTheLowestCause}
use Rattle.iim_dataset.specs.Format.Datasets.{of_record as of_fields}
use Rattle.iim_fields.specs.Format.Causes.{joined}
use Rattle.wire_message.specs.declared.place.Place.{Place as Message}
use Rattle.wire_story.specs.Format.Texts as story
use Rattle.wire_message.specs.declared.place.Place.TheVariants as at_message
use Rattle.iim_object.specs.Format.Objects as objects
use Rattle.iim_places.specs.declared.refusal.Layer.TheVariants as layers
use Rattle.iim_tables.specs.Format.Rows.{table, row_of}
use Rattle.iim_fields.proofs.Dies.{good_value}
use Rattle.iim_dataset.proofs.Spelled.{with_data as spelled_data, stream_more, whole_read}

-- ---- what was read

-- Two inputs are read so, and reach one position.
pub record Pair (limits : Limits) (ds es : List Dataset) (c d : PartialDataset) : Type 0 where
  pub section_is : section ds c ≡ section es d
  pub begun : SameBegun c d
  pub same_state : HaveSameState ds es
  pub message : SameMessage (object_so_far ds c) (object_so_far es d)
  pub here : AllCanContinue limits ds c
  pub there : AllCanContinue limits es d

-- Both continue to one position, and add the same text.
pub record Onto (limits : Limits) (o r : List ℕ) (W V : List Dataset) (c d : PartialDataset) : Type 0 where
  pub pair : Pair limits W V c d
  pub added : List ℕ
  pub here : text_so_far (object_so_far W c) ≡ text_so_far o ++ added
  pub there : text_so_far (object_so_far V d) ≡ text_so_far r ++ added

-- Other octets continue so.
pub record ReadAlike (limits : Limits) (q o r : List ℕ) (W : List Dataset) (c : PartialDataset) : Type 0 where
  pub whole : List Dataset
  pub begun : PartialDataset
  pub reads : ReadsAsDatasets count_octets q whole begun
  pub on : Onto limits o r W whole c begun

-- what was read so far, and then the rest
further : {limits : Limits} {o r : List ℕ} {W V X Y : List Dataset} {c d b e : PartialDataset} → Onto limits o r W V c d
    → Onto limits (object_so_far W c) (object_so_far V d) X Y b e → Onto limits o r X Y b e
further first later =
    let added = first.added ++ later.added in
    record { pair = later.pair; added = added; here = rw (later.here, first.here, append_assoc) refl; there = rw (later.there, first.there, append_assoc) refl }

-- the partial dataset after the one, given that after the other
partial_tag : {x : List ℕ} (d : PartialDataset) → SameBegun (InTag x) d → d ≡ InTag x
partial_tag d same = grind (arith, same)

begun_data : {h : Head} {t : List ℕ} (d : PartialDataset) → SameBegun (InData h t) d → (v : List ℕ) × (d ≡ InData h v) × SameData h t h v
begun_data d same = grind (arith, same)

message_as : LayerLemmas → {o r : List ℕ} → SameMessage o r → (b : Bool) → IsViablePrefix MessageLanguage (map Octet o ++ (if b then End ∷ [] else []))
    → IsViablePrefix MessageLanguage (map Octet r ++ (if b then End ∷ [] else []))
message_as laws {o} {r} m true alive = (laws.message_ends r m.other m.at m.there).1 ((laws.message_ends o m.text m.at m.here).0 alive)
message_as laws {o} {r} m false alive = rw append-nil (laws.living r m.other m.at m.there).0

-- Every layer can continue after the one, if all but message and story can after the other and
-- these are in one position.
pub all_as : LayerLemmas → {limits : Limits} {ds es : List Dataset} {c d : PartialDataset} → AllCanContinue limits ds c → CanContinueIn limits es d
    → section ds c ≡ section es d → SameMessage (object_so_far ds c) (object_so_far es d) → AllCanContinue limits es d
all_as laws {limits} {ds} {es} {c} {d} goes sizes same m =
    let message : IsViablePrefix MessageLanguage (message_tokens es d) = rw (← same) (message_as laws m (nat_eq (section ds c) 9) goes.message) in
    record { sizes = sizes; message = message; story = (laws.living (object_so_far es d) m.other m.at m.there).1 }

-- Equivalent datasets continue equally, if the same octets of the object follow.
onto : LayerLemmas → {limits : Limits} {o r : List ℕ} {W V : List Dataset} {c d : PartialDataset} (e : List ℕ) → SameMessage o r → HaveSameState W V
    → SameBegun c d
    → section W c ≡ section V d → object_so_far W c ≡ o ++ e → object_so_far V d ≡ r ++ e → CanContinueIn limits V d → AllCanContinue limits W c
    → Onto limits o r W V c d
onto laws {limits} {o} {r} {W} {V} {c} {d} e m same_state begun same here there sizes goes =
    let is : object_so_far W c ≡ (o ++ e) ++ [] = here ∙ sym (append-nil (o ++ e)) in
    let (added, at, led) = laws.on o e m.text m.at m.here (message_of limits W c goes (o ++ e) [] is) (story_of limits W c goes (o ++ e) [] is) in
    let led' = laws.alike o r e m.text m.other added m.at at m.here m.there led in
    let left = subst (λ (l : List ℕ). ReachesMessageState l (m.text ++ added) at) (sym here) led in
    let right = subst (λ (l : List ℕ). ReachesMessageState l (m.other ++ added) at) (sym there) led' in
    let message : SameMessage (object_so_far W c) (object_so_far V d) =
    record { text = m.text ++ added; other = m.other ++ added; at = at; here = left; there = right } in
    record {
      pair = record { section_is = same; begun = begun; same_state = same_state; message = message; here = goes; there = all_as laws goes sizes same message };
      added = added;
      here = sym (laws.texts (object_so_far W c) (m.text ++ added) at left) ∙ ap (λ (t : List ℕ). t ++ added) (laws.texts o m.text m.at m.here);
      there = sym (laws.texts (object_so_far V d) (m.other ++ added) at right) ∙ ap (λ (t : List ℕ). t ++ added) (laws.texts r m.other m.at m.there);
    }

pub bounded_of : LayerLemmas → (limits : Limits) (ds : List Dataset) (c : PartialDataset) → CanContinueIn limits ds c → AreBounded (sevens ds) (eights ds)
bounded_of laws limits ds c goes =
    bounded_after laws ds (alive_of limits ds c goes) (within_of limits ds c goes).subfiles (object_lives_after laws limits ds c goes)

-- ---- in a tag after complete datasets

same_itself : (c : PartialDataset) → SameBegun c c
same_itself c = grind arith

section_on : (ds es xs : List Dataset) (c : PartialDataset) → section_after ds ≡ section_after es → section (ds ++ xs) c ≡ section (es ++ xs) c
section_on ds es xs c same = grind (arith, present_on ds es xs same)

stream_both : (ds es : List Dataset) (x y : List ℕ) → EncodesStream count_octets ds x → EncodesStream count_octets es y
    → EncodesStream count_octets (ds ++ es) (x ++ y)
stream_both [] es x y s t = rw s t
stream_both (d ∷ ds) es x y (first, rest, spelled, later, parts) t =
    (first, rest ++ y, spelled, stream_both ds es rest y later t, ap (λ (l : List ℕ). l ++ y) parts ∙ append_assoc first rest y)

-- What follows octets of a tag is read equally after others.
tag_on : LayerLemmas → {limits : Limits} {p q held : List ℕ} {ds es : List Dataset} (more : List ℕ) → ReadsAsDatasets count_octets p ds (InTag held)
    → ReadsAsDatasets count_octets q es (InTag held) → Pair limits ds es (InTag held) (InTag held) → {W : List Dataset} {c : PartialDataset}
    → ReadsAsDatasets count_octets (p ++ more) W c
    → AllCanContinue limits W c → ReadAlike limits (q ++ more) (object_of ds) (object_of es) W c
tag_on laws {limits} {p} {q} {held} {ds} {es} more here there pair {W} {c} w goes =
    let agree : w.front ++ w.rest ≡ here.front ++ (held ++ more) =
    sym w.parts ∙ (ap (λ (l : List ℕ). l ++ more) here.parts ∙ simp (append_assoc, here.is_rest.0)) in
    elim (compare laws.dataset_if W ds w.front here.front w.rest (held ++ more) w.is_front here.is_front agree) [
      | inl (xs, f, is, stream, tail) ↦
          (let all : AllCanContinue limits (ds ++ xs) c = rw is goes in
          let parts : q ++ more ≡ (there.front ++ f) ++ w.rest =
          rw (append_assoc there.front f w.rest, tail) (ap (λ (l : List ℕ). l ++ more) there.parts ∙ simp (append_assoc, there.is_rest.0)) in
          let both = stream_both es xs there.front f there.is_front stream in
          let reads : ReadsAsDatasets count_octets (q ++ more) (es ++ xs) c =
          record { front = there.front ++ f; rest = w.rest; is_front = both; is_rest = w.is_rest; parts = parts } in
          let alive = alive_on ds es xs pair.there.sizes.records pair.section_is pair.same_state.seen (alive_of limits (ds ++ xs) c all.sizes) in
          let same_state = same_state_append pair.same_state (same_tail xs) (bounded_of laws limits (ds ++ xs) c all.sizes) in
          let sizes = may_as laws limits (ds ++ xs) (es ++ xs) c alive (present_on ds es xs pair.section_is) same_state all.sizes in
          let same = section_on ds es xs c pair.section_is in
          let on = onto laws (object_so_far xs c) pair.message same_state (same_itself c) same (so_far_both ds xs c) (so_far_both es xs c) sizes all in
          rw (← is) (record { whole = es ++ xs; begun = c; reads = reads; on = on }))
      | inr n ↦ absurd (begun_none laws.one_tag c w.rest w.is_rest n.dataset n.p (n.q ++ (held ++ more)) n.spelled n.agree)
    ]

-- ---- inside data

-- whether a subfile is within its row depends only on its length
good_as : (h : Head) (xs ys : List ℕ) → SameData h xs h ys → IsGoodDataset (data_of h xs) → Octets ys → IsGoodDataset (data_of h ys)
unfolding row_of table
good_as h xs ys same good octets = elim (eqb_tells h.rec 8) [
  | inl eight ↦
      let meets = by_ten 8 eight_has xs (λ k. OctetsMeetRow 8 k ys) (λ m. rw same.many at m) h.set (rw eight.1 at good.meets) in
      good_elsewhere (rw eight.1 refl) good.numbered octets (rw eight.1 meets)
  | inr other ↦ (let is : xs ≡ ys = rw other.0 at same.given in rw is at good)
]

head_is : (h : Head) (xs : List ℕ) → length xs ≡ h.count → head_of (data_of h xs) ≡ h
head_is h xs many = grind (arith, many)

tail_as : (h : Head) (a b : List ℕ) → SameData h a h b → SameTail (data_of h a ∷ []) (data_of h b ∷ [])
tail_as h a b same =
    let seen = same_more [] [] (data_of h a) (data_of h b) (λ i. record { rec = h.rec; set = h.set; count = same.many i }) (same_tail []).seen in
    grind (arith, same, seen)

data_more : {h : Head} {t v : List ℕ} (z : List ℕ) → SameData h t h v → SameData h (t ++ z) h (v ++ z)
data_more {h} {t} {v} z same = grind (arith, same, length-append t z, length-append v z)

-- where more octets of a dataset follow, the last of them or not
closes : {p : List ℕ} {ds : List Dataset} {h : Head} {t : List ℕ} (z : List ℕ) → ReadsAsDatasets count_octets p ds (InData h t) → length (t ++ z) ≡ h.count
    → Octets z
    → ReadsAsDatasets count_octets (p ++ z) (ds ++ data_of h (t ++ z) ∷ []) (InTag [])
closes {p} {ds} {h} {t} z r many octets =
    let (tag, spelled, less, given, parts) = r.is_rest in
    let is : p ++ z ≡ r.front ++ (tag ++ (t ++ z)) = ap (λ (l : List ℕ). l ++ z) r.parts ∙ simp (append_assoc, parts) in
    let one = spelled_data h tag (t ++ z) spelled (octets_append t z given octets) many in
    whole_read (p ++ z) (ds ++ data_of h (t ++ z) ∷ []) (rw is (stream_more ds r.front (data_of h (t ++ z)) (tag ++ (t ++ z)) r.is_front one))

stays_in : {p : List ℕ} {ds : List Dataset} {h : Head} {t : List ℕ} (z : List ℕ) → ReadsAsDatasets count_octets p ds (InData h t) → length (t ++ z) < h.count
    → Octets z
    → ReadsAsDatasets count_octets (p ++ z) ds (InData h (t ++ z))
stays_in {p} {ds} {h} {t} z r short octets =
    let (tag, spelled, less, given, parts) = r.is_rest in
    let is : p ++ z ≡ r.front ++ (tag ++ (t ++ z)) = ap (λ (l : List ℕ). l ++ z) r.parts ∙ simp (append_assoc, parts) in
    let rest : EncodesPartial count_octets (InData h (t ++ z)) (tag ++ (t ++ z)) = (tag, spelled, short, octets_append t z given octets, refl) in
    record { front = r.front; rest = tag ++ (t ++ z); is_front = r.is_front; is_rest = rest; parts = is }

-- at the end of a dataset
closed_on : LayerLemmas → {limits : Limits} {ds es : List Dataset} {h : Head} {t v : List ℕ} (z : List ℕ) → Pair limits ds es (InData h t) (InData h v)
    → length (t ++ z) ≡ h.count → Octets (v ++ z) → AllCanContinue limits (ds ++ data_of h (t ++ z) ∷ []) (InTag [])
    → Onto limits (object_so_far ds (InData h t)) (object_so_far es (InData h v)) (ds ++ data_of h (t ++ z) ∷ []) (es ++ data_of h (v ++ z) ∷ [])
    (InTag []) (InTag [])
closed_on laws {limits} {ds} {es} {h} {t} {v} z pair many octets goes =
    let d = data_of h (t ++ z) in
    let x = data_of h (v ++ z) in
    let same : SameData h (t ++ z) h (v ++ z) = data_more z pair.begun in
    let present : section_after (ds ++ d ∷ []) ≡ section_after (es ++ x ∷ []) = last_more 0 ds d ∙ sym (last_more 0 es x) in
    let good = good_value x (good_as h (t ++ z) (v ++ z) same (good_at ds d goes.sizes.records) octets) in
    let alive = (laws.values_die es x (rw (head_is h (v ++ z) (sym same.many ∙ many)) pair.there.sizes.records) octets).0 good in
    let same_state = same_state_append pair.same_state (tail_as h (t ++ z) (v ++ z) same) (bounded_of laws limits (ds ++ d ∷ []) (InTag []) goes.sizes) in
    let sizes = may_as laws limits (ds ++ d ∷ []) (es ++ x ∷ []) (InTag []) alive present same_state goes.sizes in
    onto laws (brought h z) pair.message same_state refl present (closed_object ds h t z) (closed_object es h v z) sizes goes

-- What follows octets inside data is read equally after others.
data_on : LayerLemmas → {limits : Limits} {p q : List ℕ} {ds es : List Dataset} {h : Head} {t v : List ℕ} (more : List ℕ) → ReadsAsDatasets count_octets p ds
    (InData h t)
    → ReadsAsDatasets count_octets q es (InData h v) → Pair limits ds es (InData h t) (InData h v) → {W : List Dataset} {c : PartialDataset}
    → ReadsAsDatasets count_octets (p ++ more) W c
    → AllCanContinue limits W c → ReadAlike limits (q ++ more) (object_so_far ds (InData h t)) (object_so_far es (InData h v)) W c
data_on laws {limits} {p} {q} {ds} {es} {h} {t} {v} more r s pair {W} {c} w goes =
    let (tag, spelled, less, given, parts) = r.is_rest in
    let whole : p ++ more ≡ r.front ++ (tag ++ (t ++ more)) = ap (λ (l : List ℕ). l ++ more) r.parts ∙ simp (append_assoc, parts) in
    elim (follows laws (p ++ more) W c w ds r.front tag (t ++ more) h r.is_front spelled whole) [
      | inl (d, ws, tail, is, head, rest) ↦
          (let count : length d.octets ≡ h.count = ap (λ (k : Head). k.count) head in
          let (z, octets_are) = longer_prefix t more d.octets tail rest (omega (arith, less, count)) in
          let later : more ≡ z ++ tail = append_cancel_left t more (z ++ tail) (rest ∙ ap (λ (l : List ℕ). l ++ tail) octets_are ∙ append_assoc t z tail) in
          let many : length (t ++ z) ≡ h.count = sym (ap length octets_are) ∙ count in
          let each = all_back (λ (x : Dataset). Octets x.octets) ds (d ∷ ws) (rw is at (each_octets W w.front w.is_front)) in
          let octets = all_back IsOctet t z (rw octets_are at each.0) in
          let front = rw (same_data d h (t ++ z) head octets_are) at (prefix_viable laws limits W c goes ds ws d is) in
          let closed = closed_on laws z pair many (octets_append v z s.is_rest.3 octets) front in
          let same : SameData h t h v = pair.begun in
          let as_many : length (v ++ z) ≡ h.count = omega (arith, many, length-append t z, length-append v z, same.many) in
          let on = tag_on laws tail (closes z r many octets) (closes z s as_many octets) closed.pair (rw (later, ← append_assoc p z tail) at w) goes in
          let both = further {Y = on.whole} {e = on.begun} closed on.on in
          rw (later, ← append_assoc q z tail) (record { whole = on.whole; begun = on.begun; reads = on.reads; on = both }))
      | inr (same, begun, short) ↦
          (let both : SameData h (t ++ more) h (v ++ more) = data_more more pair.begun in
          let octets = all_back IsOctet t more (rw (same, begun) at w).is_rest.3 in
          let here : AllCanContinue limits ds (InData h (t ++ more)) = rw (same, begun) at goes in
          let reads = stays_in more s (omega (arith, both.many, short)) octets in
          let on = onto laws (brought h more) pair.message pair.same_state both refl (more_object ds h t more)
          (more_object es h v more) pair.there.sizes here in
          rw (same, begun) (record { whole = es; begun = InData h (v ++ more); reads = reads; on = on }))
    ]

-- ---- the states of both

-- the number of complete subfiles, and their octets
counts_as : (ds es : List Dataset) (c d : PartialDataset) → SameBegun c d → heads_of ds c ≡ heads_of es d → length (object_so_far ds c) ≡ length
    (object_so_far es d)
    → (length (of_record 8 ds) ≡ length (of_record 8 es)) × (length (object_of ds) ≡ length (object_of es))
counts_as ds es c d same heads octets = grind (arith, same, heads, octets, length-append)

-- Every layer can continue after what was read, and if the last dataset has ended, none is partial.
ends_of : LayerLemmas → (limits : Limits) (p : List ℕ) (ds : List Dataset) (c : PartialDataset) → ReadsAsDatasets count_octets p ds c → AreViable limits p
    → AllCanContinue limits ds c × (nat_eq (section_after ds) 9 ≡ true → c ≡ InTag [])
ends_of laws limits p ds c reads (inl opens) =
    let was = opened laws limits p ds c reads opens in
    (was.goes, λ nine. absurd (let bad : true ≡ false = sym nine ∙ was.ended in cc))
ends_of laws limits p ds c reads (inr (v, whole)) =
    let same = one_reading laws p whole.admits.datasets ds (InTag []) c (reads_envelope p v whole.admits) reads in
    (rw (same.whole_is, same.partial_is) at (goes_envelope laws limits p v whole), λ nine. sym same.partial_is)

-- Octets of one position, each incomplete or an envelope, are read as equivalent datasets.
pair_of : LayerLemmas → (limits : Limits) (p q : List ℕ) (place : Place) (is : ReachesPlace p place) (are : ReachesPlace q place) → AreViable limits p
    → AreViable limits q → Pair limits is.whole are.whole is.begun are.begun
pair_of laws limits p q place is are opens goes =
    let ds = is.whole in
    let es = are.whole in
    let e : place_of ds is.begun is.message ≡ place_of es are.begun are.message = sym is.is_place ∙ are.is_place in
    let was = ends_of laws limits p ds is.begun is.reads opens in
    let now = ends_of laws limits q es are.begun are.reads goes in
    let section_is = ap (λ (x : Place). x.section) e in
    let phase = ap (λ (x : Place). x.phase) e in
    let begun = same_begun p q ds es is.begun are.begun is.reads are.reads section_is phase (grind (arith, section_is, was.1, now.1)) in
    let left = alive_of limits ds is.begun was.0.sizes in
    let right = alive_of limits es are.begun now.0.sizes in
    let few = (within_of limits ds is.begun was.0.sizes).subfiles in
    let less = (within_of limits es are.begun now.0.sizes).subfiles in
    let (heads, octets) = counts_as ds es is.begun are.begun begun (ap (λ (x : Place). x.heads) e) (ap (λ (x : Place). x.taken) e) in
    let ended : nat_eq (section_after ds) 9 ≡ nat_eq (section_after es) 9 = grind (arith, section_is, begun, was.1, now.1) in
    let fields : SameFields ds es =
    record { ended = ended; fields = ap (λ (x : Place). x.fields) e; numbers = ap (λ (x : Place). x.numbers) e; heads = heads } in
    let whole : SameWhole ds es = record { fields = fields; octets = octets } in
    record {
      section_is = section_is;
      begun = begun;
      same_state = record {
        fields = fields.fields;
        object = object_lives_after_as ds es whole;
        ending = ending_after laws ds left few (object_lives_after laws limits ds is.begun was.0.sizes)
            ∙ (λ i. if ended i then ConfirmedAs (octets i) else NotEnded)
            ∙ sym (ending_after laws es right less (object_lives_after laws limits es are.begun now.0.sizes));
        seen = same_records laws ds es left right few less fields;
        here = bounded_of laws limits ds is.begun was.0.sizes;
        bounded = bounded_of laws limits es are.begun now.0.sizes;
      };
      message = same_message laws _ _ is.text are.text is.message are.message (ap (λ (x : Place). x.message) e) is.leads are.leads;
      here = was.0;
      there = now.0;
    }

-- ---- what follows is read equally

on_pair : LayerLemmas → {limits : Limits} {p q : List ℕ} {ds es : List Dataset} (c d : PartialDataset) → ReadsAsDatasets count_octets p ds c
    → ReadsAsDatasets count_octets q es d
    → Pair limits ds es c d → (more : List ℕ) {W : List Dataset} {b : PartialDataset} → ReadsAsDatasets count_octets (p ++ more) W b → AllCanContinue limits W b
    → ReadAlike limits (q ++ more) (object_so_far ds c) (object_so_far es d) W b
on_pair laws (InTag x) d r s pair more w goes = let is = partial_tag d pair.begun in rw is (tag_on laws more r (rw is at s) (rw is at pair) w goes)
on_pair laws (InData h t) d r s pair more w goes =
    let (v, is, same) = begun_data d pair.begun in rw is (data_on laws more r (rw is at s) (rw is at pair) w goes)

-- ---- incomplete octets

unfinished_as : LayerLemmas → {limits : Limits} {ds es : List Dataset} (c d : PartialDataset) → Pair limits ds es c d → (AreSections ds → ⊥) → AreSections es
    → ⊥
unfinished_as laws {ds = ds} {es = es} (InTag x) (InTag y) pair none sections =
    let nine = sections_last laws.last_record es pair.there.sizes.records sections in
    none (last_sections laws.last_record ds pair.here.sizes.records (pair.section_is ∙ nine))
unfinished_as laws {es = es} (InData h t) (InData k v) pair none sections = not_all laws.sections es k pair.there.sizes.records sections
unfinished_as laws c d pair none sections = absurd pair.begun

-- ---- envelopes

sizes_as : {ds es : List Dataset} {s t : Sizes} → HaveSameState ds es → HaveSizes (of_record 7 ds) (of_record 8 ds) (of_record 9 ds) s
    → HaveSizes (of_record 7 es) (of_record 8 es) (of_record 9 es) t → s ≡ t
sizes_as {s = s} {t = t} same_state here there =
    let same = same_state.object.numbers in
    let known : s.known ≡ t.known = grind (arith, same_Some _ _ (sym here.mode ∙ same.mode ∙ there.mode)) in
    let subfile = same_Some _ _ (sym here.largest ∙ same.largest ∙ there.largest) in
    grind (arith, here, there, known, subfile, same.announced, same.maximum, heads_same same_state, same_state.object.octets)

-- what completes the one to an envelope completes the other to one
envelope_as : LayerLemmas → {limits : Limits} {p q o r : List ℕ} {v : Value} (is : IsEnvelopeWithin limits p v)
    → ReadAlike limits q o r is.admits.datasets (InTag []) → (w : Value) × IsEnvelopeWithin limits q w × EqualExceptLines v w
envelope_as laws {limits} {p} {q} {v = v} is read =
    let a = is.admits in
    let es = read.whole in
    let tag = partial_tag read.begun read.on.pair.begun in
    let reads : ReadsAsDatasets count_octets q es (InTag []) = rw tag at read.reads in
    let pair : Pair limits a.datasets es (InTag []) (InTag []) = rw tag at read.on.pair in
    let m = pair.message in
    let end = at_message.AfterEnd v.head (record { items = v.trailer }) (length a.message.after) in
    let led : ReachesMessageState (object_of es) m.other end = rw (laws.one_place (object_of a.datasets) m.text a.text m.at _ m.here
    (reaches_end p v a)).1 at m.there in
    let nine = sym pair.section_is ∙ sections_last laws.last_record a.datasets pair.here.sizes.records a.sections in
    let parts : q ≡ reads.front = reads.parts ∙ ap (λ (l : List ℕ). reads.front ++ l) reads.is_rest.0 ∙ append-nil reads.front in
    let all = enveloped laws limits q es v.head m.other v.trailer led.story.0 (rw parts reads.is_front) pair.there.sizes nine led.spelled.0 led.story.1 in (
      value_of es v.head led.story.0 v.trailer all.sizes,
      all.within,
      record { fields = sym a.fields ∙ pair.same_state.fields; head = refl; trailer = refl; sizes = sizes_as {t = all.sizes} pair.same_state a.sizes all.have },
    )

-- ---- the text

text_of : LayerLemmas → (p : List ℕ) (ds : List Dataset) (c : PartialDataset) → ReadsAsDatasets count_octets p ds c → (text : List ℕ) → IsTextOf p text
    → text ≡ text_so_far (object_so_far ds c)
text_of laws p ds c reads text (whole, begun, other, is) =
    let same = one_reading laws p whole ds begun c other reads in
    is ∙ (λ i. text_so_far (object_so_far (same.whole_is i) (same.partial_is i)))

-- ---- both

pub same_continuations : LayerLemmas → PlacesDetermineContinuations
same_continuations laws limits p q place is are opens goes more =
    let pair = pair_of laws limits p q place is are opens goes in
    let on = λ (W : List Dataset) (b : PartialDataset). on_pair laws is.begun are.begun is.reads are.reads pair more {W = W} {b = b} in
    record {
      are_open = λ open'.
          let read = on open'.whole open'.begun open'.reads open'.leads_on in
          let none = unfinished_as laws open'.begun read.begun read.on.pair open'.unfinished in
          record { whole = read.whole; begun = read.begun; reads = read.reads; leads_on = read.on.pair.there; unfinished = none };
      are_whole = λ v whole.
          let reads = reads_envelope (p ++ more) v whole.admits in
          envelope_as laws whole (on whole.admits.datasets (InTag []) reads (goes_envelope laws limits (p ++ more) v whole));
      add = λ events comes adds text told.
          let lives = lives_as laws limits (p ++ more) comes in
          let read = on lives.whole lives.begun lives.reads lives.leads_on in
          let before = text_so_far (object_so_far is.whole is.begun) in
          let (more_text, is_text, spoken) = adds before (is.whole, is.begun, is.reads, refl) in
          let same : more_text ≡ read.on.added =
          append_cancel_left before more_text read.on.added (text_of laws (p ++ more) lives.whole lives.begun lives.reads (before ++ more_text) is_text
          ∙ read.on.here) in
          let parts = text_of laws q are.whole are.begun are.reads text told in
          (more_text, (read.whole, read.begun, read.reads, (λ i. parts i ++ same i) ∙ sym read.on.there), spoken);
    }

-- ---- the first error of a head

cause_as : (p q : objects.Place) → SameObject p q → (token : ObjectToken) → cause_at p token ≡ cause_at q token
cause_as p q same (NumberRead set n) =
    let more = numbers_on (record { set = set; number = n } ∷ []) same.numbers in λ i. number_cause (more.mode i) (more.announced i) (more.maximum i)
cause_as p q same token = grind (arith, same.numbers, same.octets)

head_fault_as : (limits : Limits) (ds es : List Dataset) (h : Head) → section_after ds ≡ section_after es → HaveSameState ds es
    → fault_at_head limits ds h ≡ fault_at_head limits es h
head_fault_as limits ds es h present same_state =
    let seen : (n : ℕ) → occurs n (of_fields (section_after ds) ds) ≡ occurs n (of_fields (section_after es) es) =
    λ n. same_state.seen.seen (section_after ds) n ∙ ap (λ (r : ℕ). occurs n (of_fields r es)) present in
    let cause = cause_as (place_after_datasets ds) (place_after_datasets es) same_state.object (head_token h.rec h.count) in
    let heads = heads_same same_state in
    λ i. option_or
    (option_map fault_of_record (option_or (head_fault (present i) (λ n. seen n i) h)
    (room_fault limits (length (joined (same_state.fields i))) (length (same_state.fields i)) h)))
    (option_or (if (nat_eq h.rec 8) && not (nat_lt (heads i) max_subfiles) then Some (count_fault_on h) else None)
    (if (nat_eq h.rec 8) || (nat_eq h.rec 9) then option_map (size_fault_on h) (cause i) else None))

-- ---- a head that is rejected

module _ (laws : LayerLemmas) {limits : Limits} {ds es : List Dataset} {x : List ℕ} (pair : Pair limits ds es (InTag x) (InTag x)) where
  head_rejects_as : (h : Head) (layer : Layer) → RejectsHead layer limits ds h → RejectsHead layer limits es h
  head_rejects_as h layers.Record dies =
      λ alive. dies (alive_at_as es ds h pair.here.sizes.records (sym pair.section_is) (flip pair.same_state).seen alive)
  head_rejects_as h layers.Limits dies =
      (alive_at_as ds es h pair.there.sizes.records pair.section_is pair.same_state.seen dies.0, (λ room. dies.1 (room_as (flip pair.same_state) room)))
  head_rejects_as h layers.Object dies =
      let alive = alive_at_as ds es h pair.there.sizes.records pair.section_is pair.same_state.seen dies.0 in
      let room = room_as pair.same_state dies.1 in
      (alive, room, (λ lives. dies.2 (at_as laws es ds h alive dies.0 pair.there.sizes.within.subfiles room.subfiles (flip pair.same_state) lives)))
  head_rejects_as h rest dies = absurd dies

  -- every layer that is examined before the message can continue after a head
  goes_as : (h : Head) → CanContinueAt limits ds h → CanContinueAt limits es h
  goes_as h goes = may_as laws limits ds es (InData h []) pair.there.sizes.records pair.section_is pair.same_state goes

-- ---- a value that is rejected

value_fault_as : (ds es : List Dataset) (d : Dataset) → HaveSameState ds es → fault_at_value ds d ≡ fault_at_value es d
value_fault_as ds es d same_state =
    let at = object_at ds es (head_of d) same_state.object in
    grind (arith, cause_as (place_at ds (head_of d)) (place_at es (head_of d)) at (value_token d.rec d.set (number d.octets)))

module _ (laws : LayerLemmas) {limits : Limits} (ds es : List Dataset) (same_state : HaveSameState ds es) where
  value_dies_as : (d : Dataset) → (d.rec ≡ 8 → ⊥) → CanContinueAt limits ds (head_of d) → CanContinueAt limits es (head_of d) → (layer : Layer)
      → RejectsValue layer ds d → RejectsValue layer es d
  value_dies_as d other here there layers.Record dies = λ alive. dies (value_as laws.values_die es ds d (good_at es d alive).octets alive here.records)
  value_dies_as d other here there layers.Object dies =
      let alive = value_as laws.values_die ds es d (good_at ds d dies.0).octets dies.0 there.records in
      let few = few_more es d there.within.subfiles (λ eight. absurd (other eight)) in
      let bounded = bounded_after laws (es ++ d ∷ []) alive few in
      let back = same_state_append (flip same_state) (same_tail (d ∷ [])) in
      (alive, λ lives. dies.1 (after_as laws (es ++ d ∷ []) (ds ++ d ∷ []) alive dies.0 few (back (bounded lives)) lives))
  value_dies_as d other here there rest dies = absurd dies

  -- a value, if every layer can continue after its data
  value_at : (fault : TokenFault) (h : Head) (given : List ℕ) → (h.rec ≡ 8 → ⊥) → length given ≡ h.count → CanContinueAt limits ds h
      → CanContinueAt limits es h → IsFaultOfValue ds (data_of h given) fault → IsFaultOfValue es (data_of h given) fault
  value_at fault h given other many here there bad =
      let head = head_is h given many in
      let dead = value_dies_as (data_of h given) other (rw head here) (rw head there) fault.layer bad.dead in
      record { first = sym (value_fault_as ds es (data_of h given) same_state) ∙ bad.first; dead = dead }

-- ---- an octet that is rejected

with_as : LayerLemmas → {limits : Limits} {ds es : List Dataset} {x : List ℕ} (h : Head) (fault : TokenFault) → Pair limits ds es (InTag x) (InTag x)
    → IsRefusedWith limits ds h fault → IsRefusedWith limits es h fault
with_as laws {limits} {ds} {es} h fault pair (inl (inl bad)) =
    let first = sym (head_fault_as limits ds es h pair.section_is pair.same_state) ∙ bad.first in
    inl (inl (record { first = first; dead = head_rejects_as laws pair h fault.layer bad.dead }))
with_as laws {limits} {ds} {es} h fault pair (inl (inr bad)) =
    let m = pair.message in
    let ends = λ (alive : IsViablePrefix MessageLanguage (with_end (object_of es))).
    (laws.message_ends (object_of ds) m.text m.at m.here).1 ((laws.message_ends (object_of es) m.other m.at m.there).0 alive) in
    let dies : EndsViableMessage (object_of es) End = ((laws.living (object_of es) m.other m.at m.there).0, λ alive. bad.dies.1 (ends alive)) in
    inl (inr (record { last = bad.last; leads_on = goes_as laws pair h bad.leads_on; dies = dies; is_fault = bad.is_fault }))
with_as laws {limits} {ds} {es} h fault pair (inr (other, none, all, bad)) =
    let sizes : CanContinueAt limits es h = goes_as laws pair h all.sizes in
    let message : SameMessage (object_so_far ds (InData h [])) (object_so_far es (InData h [])) =
    rw (no_object ds h [] other, no_object es h [] other) pair.message in
    inr (other, none, all_as laws all sizes refl message, value_at laws ds es pair.same_state fault h [] other (sym none) all.sizes sizes bad)

step_as : LayerLemmas → {limits : Limits} {ds es : List Dataset} (c d : PartialDataset) (next : ℕ) (fault : TokenFault) → Pair limits ds es c d
    → IsRefusedAt limits ds c next fault → IsRefusedAt limits es d next fault
step_as laws (InTag x) d next fault pair (inl dead) = rw (partial_tag d pair.begun) (inl dead)
step_as laws (InTag x) d next fault pair (inr (h, tag, bad)) =
    let is = partial_tag d pair.begun in rw is (inr (h, tag, with_as laws h fault (rw is at pair) bad))
step_as laws {limits} {ds} {es} (InData h t) d next fault pair bad =
    let (v, is, same) = begun_data d pair.begun in rw is (by v same (rw is at pair) bad)
  where
    by : (v : List ℕ) → SameData h t h v → Pair limits ds es (InData h t) (InData h v) → IsRefusedAt limits ds (InData h t) next fault
        → IsRefusedAt limits es (InData h v) next fault
    by v same pair (inl (eight, cause, has, is)) =
        let m = pair.message in
        let there = laws.refused _ _ m.text m.other m.at cause next m.here m.there (rw (with_data ds h t eight) has) in
        inl (eight, cause, rw (with_data es h v eight) at there, is)
    by v same pair (inr (other, many, bad)) =
        let value = value_at laws ds es pair.same_state fault h (t ++ next ∷ []) other many pair.here.sizes pair.there.sizes bad in
        let is : t ≡ v = rw (ne_eqb h.rec 8 other) at same.given in
        inr (other, rw is at many, rw is at value)

pub same_refusals : LayerLemmas → RefusalsReportTheLowestCause → PlacesDetermineRefusals
same_refusals laws tests limits p q place is are opens goes more next fault bad =
    let (low, found) = (tests limits (p ++ more) next fault).0 bad in
    let (ds, c, reads, all, open', dead) = refuses_by laws limits (p ++ more) next fault found in
    let pair = pair_of laws limits p q place is are opens goes in
    let read = on_pair laws is.begun are.begun is.reads are.reads pair more reads all in
    let none = unfinished_as laws c read.begun read.on.pair open' in
    let step = step_as laws c read.begun next fault read.on.pair dead in
    (tests limits (q ++ more) next fault).1 (low, tests_of limits (q ++ more) next fault (read.whole, read.begun, read.reads, read.on.pair.there, none, step))

-- ---- viable octets are incomplete if no prefix is an envelope

pub incomplete_if_no_prefix : LayerLemmas → (start : Message) → ReachesMessageState [] [] start → ViableOctetsAreIncomplete
incomplete_if_no_prefix laws start begins limits octets whole begun reads all none =
    record { whole = whole; begun = begun; reads = reads; leads_on = all; unfinished = by begun reads all }
  where
    by : (b : PartialDataset) → ReadsAsDatasets count_octets octets whole b → AllCanContinue limits whole b → AreSections whole → ⊥
    by (InData h taken) reads all sections = not_all laws.sections whole h all.sizes.records sections
    by (InTag held) reads all sections =
        let nine = sections_last laws.last_record whole all.sizes.records sections in
        let ends : IsViablePrefix MessageLanguage (with_end (object_of whole)) = rw nine at all.message in
        let lives : IsViableMessage (object_of whole) = viable_prefix MessageLanguage (map Octet (object_of whole)) (End ∷ []) ends in
        let (text, place, leads) = laws.on [] (object_of whole) [] start begins lives all.story in
        let e = ended_at (object_of whole) text place leads ((laws.message_ends (object_of whole) text place leads).0 ends) in
        let is = enveloped laws limits reads.front whole e.head e.text e.trailer e.lined.0 reads.is_front all.sizes nine e.message e.lined.1 in
        none reads.front reads.rest (value_of whole e.head e.lined.0 e.trailer is.sizes) reads.parts is.within.admits
