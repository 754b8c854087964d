-- A stream has one result: rejected octets, incomplete octets and envelopes exclude one another.
use Rattle.std.proofs.Common.{◌≡◌, ◌≢◌, ℕ, zero, suc, ◌<◌, ◌≤◌, ◌⊎◌, false, nat_eq, List, [], ◌∷◌, ◌++◌, length, take, slice_index, refl, ap, sym, subst, ◌∙◌, inl, inr, arith, append-nil, append_assoc, length-append}
use Rattle.iim_places.proofs.Words.{cases_lt, ne_eqb, same_Some, map-append, take-length, Dataset, EncodesTag, count_octets, PartialDataset, InTag, InData, EncodesPartial, ReadsAsDatasets, BeginsNoTag, Head, AreSections, data_of, AreViableSections, section_after, Limits, AreSized, EndsInReturns, Octet, MessageLanguage, IsViableMessage, EndsViableMessage, HasViableStory, text_so_far, HasMessageCause, MessageCause, Value, Admits, object_of, partial_record, partial_number, tag_cause, refusal_at, IsTextOf, message_fault_on, RefusesOctet, EncodingIsUnambiguous, NoTagIsAPrefixOfAnother, NoDatasetIsAPrefixOfAnother, NoSectionsAreAPrefixOfOthers, compare, object_so_far, AllCanContinue, IsBadEndAt, Answer, RefusesByTests, RefusesNext, truncation_refusal, IsFaultOfHead, IsFaultOfValue, IncompleteBeginsWithNoEnvelope, IsEnvelopeWithin, CanContinue, RefusedOctetsHaveNoContinuation, RefusalsAreUnique, StreamsHaveOneResult, Answers, Finished, Refused, Truncated, IsFinished, TokenFault, LayerLemmas, ReachesPlace, place_of, ReachesSavedState, IsIncomplete, MessagePlace, AreViable, RejectsValue, Layer}
use Rattle.iim_places.proofs.{ObjectOctets.lives_whole, Fronts.begun_none, Lasts.last_sections, Lasts.all_of, Places.lives_after, Places.no_rejected_head}
use Rattle.iim_places.proofs.Following.{Follows, follows, alive_of, object_lives_after, message_of, story_of, ends_tokens, with_data, reached_in, value_goes}
use Rattle.iim_places.proofs.Frames.{sized_by, no_others}
use Rattle.iim_dataset.specs.Format.Octets as languages
use Rattle.iim_dataset.proofs.{Fronts.begun_none as nothing_begun, Spelled.held_of, Spelled.whole_read}
use Rattle.wire_message.specs.States.Reading.{ReachesMessageState}
use Rattle.wire_message.specs.declared.place.Place.TheVariants.{AfterEnd}
use Rattle.wire_message.specs.declared.fault.MessageCause.TheVariants as messages
use Rattle.iim_places.specs.{Format.Open.IsBadOctetAt, Laws.RefusalsReportTheLowestCause, Format.Tickets.Place}
use Rattle.iim_places.specs.declared.refusal.Refusal.{Refusal}
use Rattle.iim_places.specs.declared.refusal.Layer.TheVariants as layers
use Rattle.iim_places.specs.declared.refusal.Cause.TheVariants.{Message}
use Rattle.wire_message.specs.declared.fault.MessageCause.TheVariants.{Sink}

-- Every layer can continue after the octets, within the limits.
pub record Lives (limits : Limits) (octets : List ℕ) : Type 0 where
  pub whole : List Dataset
  pub begun : PartialDataset
  pub reads : ReadsAsDatasets count_octets octets whole begun
  pub leads_on : AllCanContinue limits whole begun

-- ---- in incomplete octets and envelopes every layer can continue

pub lives_open : (limits : Limits) (octets : List ℕ) → IsIncomplete limits octets → Lives limits octets
lives_open limits octets is = record { whole = is.whole; begun = is.begun; reads = is.reads; leads_on = is.leads_on }

-- The object of an envelope reaches the end of its message.
pub reaches_end : (octets : List ℕ) (v : Value) → (a : Admits octets v)
    → ReachesMessageState (object_of a.datasets) a.text (AfterEnd v.head (record { items = v.trailer }) (length a.message.after))
reaches_end octets v a =
    let m = a.message in record { is_place = (m.is_header, m.is_trailer, m.is_after.2); spelled = (m, refl); story = (v.lines, a.lines) }

pub nothing_partial : EncodesPartial count_octets (InTag []) []
nothing_partial = held_of nothing_begun refl

-- Every layer can continue after complete datasets of an envelope.
pub goes_envelope : LayerLemmas → (limits : Limits) (octets : List ℕ) (v : Value) → (is : IsEnvelopeWithin limits octets v)
    → AllCanContinue limits is.admits.datasets (InTag [])
goes_envelope laws limits octets v is =
    let a = is.admits in
    let ds = a.datasets in
    let m = a.message in
    let alive : AreViableSections ds = ([], rw append-nil a.sections) in
    let sized : languages.IsViablePrefix AreSized ds = ([], rw append-nil (sized_by laws.by_number octets v a)) in
    let both = laws.living (object_of ds) a.text (AfterEnd v.head (record { items = v.trailer }) (length m.after)) (reaches_end octets v a) in
    record {
      sizes = record { records = alive; within = is.within; object = lives_after laws.live ds alive sized };
      message = lives_whole (object_of ds) (nat_eq (section_after ds) 9) both.0
          (λ is'. record { object = object_of ds; head = v.head; text = a.text; trailer = v.trailer; message = m; tokens_are = refl });
      story = both.1;
    }

-- the empty input has no text
pub no_text : IsTextOf [] []
no_text = ([], InTag [], whole_read [] [] refl, refl)

-- how the octets of an envelope are read
pub reads_envelope : (octets : List ℕ) (v : Value) → (a : Admits octets v) → ReadsAsDatasets count_octets octets a.datasets (InTag [])
reads_envelope octets v a = whole_read octets a.datasets a.spelled

pub lives_envelope : LayerLemmas → (limits : Limits) (octets : List ℕ) (v : Value) → IsEnvelopeWithin limits octets v → Lives limits octets
lives_envelope laws limits octets v is =
    record { whole = is.admits.datasets; begun = InTag []; reads = reads_envelope octets v is.admits; leads_on = goes_envelope laws limits octets v is }

pub lives_as : LayerLemmas → (limits : Limits) (octets : List ℕ) → AreViable limits octets → Lives limits octets
lives_as laws limits octets (inl opens) = lives_open limits octets opens
lives_as laws limits octets (inr (v, whole)) = lives_envelope laws limits octets v whole

-- ---- a next octet

pub message_rejects : (o : List ℕ) (next : ℕ) → IsViableMessage (o ++ next ∷ []) → EndsViableMessage o (Octet next) → ⊥
message_rejects o next lives dies = dies.1 (subst (languages.IsViablePrefix MessageLanguage) (map-append Octet o (next ∷ [])) lives)

octet_rejected : (cause : MessageCause) (o : List ℕ) (next : ℕ) → cause ≢ messages.Sink → HasMessageCause cause o next → IsViableMessage (o ++ next ∷ [])
    → HasViableStory (o ++ next ∷ []) → ⊥
octet_rejected cause o next other has message story = grind (arith, message_rejects o next message)

-- ---- before a head or a value that is rejected

-- Data of other datasets than subfiles change no layer.
pub fewer_data : (limits : Limits) (ds : List Dataset) (h : Head) (x y : List ℕ) → (h.rec ≡ 8 → ⊥) → AllCanContinue limits ds (InData h x)
    → AllCanContinue limits ds (InData h y)
fewer_data limits ds h x y other all =
    let same : object_so_far ds (InData h x) ≡ object_so_far ds (InData h y) = rw (ne_eqb h.rec 8 other) refl in
    record { sizes = all.sizes; message = rw same at all.message; story = rw same at all.story }

-- before a head
pub before_it : LayerLemmas → (limits : Limits) (ds : List Dataset) (h : Head) (held : List ℕ) → (h.rec ≡ 8 → ⊥) → (AreSections ds → ⊥)
    → AllCanContinue limits ds (InData h []) → AllCanContinue limits ds (InTag held)
before_it laws limits ds h held other unfinished all =
    let alive = alive_of limits ds (InData h []) all.sizes in
    let object : object_so_far ds (InData h []) ≡ object_of ds ++ [] = rw (ne_eqb h.rec 8 other) refl in
    let not_nine : nat_eq (section_after ds) 9 ≡ false = ne_eqb (section_after ds) 9 (λ nine. unfinished (last_sections laws.last_record ds alive nine)) in
    record {
      sizes = record { records = alive; within = all.sizes.within; object = object_lives_after laws limits ds (InData h []) all.sizes };
      message = rw (not_nine, append-nil) (message_of limits ds (InData h []) all (object_of ds) [] object);
      story = story_of limits ds (InData h []) all (object_of ds) [] object;
    }

-- ---- the refusal is determined

-- Octets are split in one way into complete datasets and a partial one.
pub record SameReading (whole other : List Dataset) (b c : PartialDataset) : Type 0 where
  pub whole_is : whole ≡ other
  pub partial_is : b ≡ c

pub one_reading : LayerLemmas → (octets : List ℕ) (whole other : List Dataset) (b c : PartialDataset) → ReadsAsDatasets count_octets octets whole b
    → ReadsAsDatasets count_octets octets other c → SameReading whole other b c
one_reading laws octets whole other b c r s =
    let way = laws.one_way octets _ _ b c (record { whole = whole; reads = r; handed = refl }) (record { whole = other; reads = s; handed = refl }) in
    record { whole_is = (laws.events_tell whole other b c way.0).0; partial_is = way.1 }

-- the octets of the position are read so
pub record Coming (place : Place) (whole : List Dataset) (begun : PartialDataset) : Type 0 where
  pub text : List ℕ
  pub message : MessagePlace
  pub leads : ReachesSavedState (object_so_far whole begun) text message
  pub is_place : place ≡ place_of whole begun message

pub coming : LayerLemmas → (place : Place) (octets : List ℕ) → ReachesPlace octets place → (whole : List Dataset) (begun : PartialDataset)
    → ReadsAsDatasets count_octets octets whole begun → Coming place whole begun
coming laws place octets is whole begun reads =
    let same = one_reading laws octets is.whole whole is.begun begun is.reads reads in
    let told = is.is_place ∙ (λ i. place_of (same.whole_is i) (same.partial_is i) is.message) in
    record { text = is.text; message = is.message; leads = rw (same.whole_is, same.partial_is) at is.leads; is_place = told }

-- After what incomplete octets read, every layer can continue, and they are not an envelope.
pub open_at : LayerLemmas → (limits : Limits) (octets : List ℕ) (ds : List Dataset) (b : PartialDataset) → ReadsAsDatasets count_octets octets ds b
    → IsIncomplete limits octets
    → AllCanContinue limits ds b × (AreSections ds → ⊥)
open_at laws limits octets ds b reads is =
    let same = one_reading laws octets is.whole ds is.begun b is.reads reads in
    (rw (same.whole_is, same.partial_is) at is.leads_on, λ sections. is.unfinished (rw (← same.whole_is) at sections))

-- a head that is rejected, and one with which every layer continues
not_both : LayerLemmas → {A : Type 0} → (limits : Limits) (whole : List Dataset) (h : Head) (given : List ℕ) (fault : TokenFault)
    → AllCanContinue limits whole (InData h given) → IsFaultOfHead limits whole h fault ⊎ IsBadEndAt limits whole h fault → A
not_both laws limits whole h given fault all (inl refused) = absurd (no_rejected_head fault.layer limits whole h all.sizes refused.dead)
not_both laws limits whole h given fault all (inr unfinished) =
    absurd (unfinished.dies.1 (rw (ends_tokens whole h given unfinished.last) at all.message))

-- ---- one cause of an octet

pub not_partial : LayerLemmas → {A : Type 0} → (text : List ℕ) (held : ℕ) → 0 < held → EndsInReturns text held → EndsInReturns text 0 → A
not_partial laws text held some (lines, line, so_far) (others, other, none) =
    absurd (let same = (laws.one_text text lines others line other held 0 so_far none).2 in omega (arith, some, same))

one_cause : LayerLemmas → (a b : MessageCause) (o : List ℕ) (next : ℕ) → HasMessageCause a o next → HasMessageCause b o next → a ≡ b
one_cause laws a b o next h k = grind (arith, h, k, message_rejects o next, laws.one_text (text_so_far o))

-- ---- one step

-- the error of a tag that no octet continues
abbrev pub tag_fault : List ℕ → TokenFault
tag_fault held = record { layer = layers.Dataset; rec = partial_record (InTag held); set = partial_number (InTag held); cause = tag_cause held }

-- The head here is rejected, or its empty value is.
abbrev pub IsRefusedWith : Limits → List Dataset → Head → TokenFault → Type 0
IsRefusedWith limits ds h fault =
    (IsFaultOfHead limits ds h fault ⊎ IsBadEndAt limits ds h fault)
    ⊎ ((h.rec ≡ 8 → ⊥) × (h.count ≡ 0) × AllCanContinue limits ds (InData h []) × IsFaultOfValue ds (data_of h []) fault)

-- The octet is rejected after these complete datasets and the partial one.
abbrev pub IsRefusedAt : Limits → List Dataset → PartialDataset → ℕ → TokenFault → Type 0
IsRefusedAt limits ds (InTag held) next fault =
    (BeginsNoTag count_octets (held ++ next ∷ []) × (fault ≡ tag_fault held))
    ⊎ ((h : Head) × EncodesTag count_octets h (held ++ next ∷ []) × IsRefusedWith limits ds h fault)
IsRefusedAt limits ds (InData h taken) next fault =
    ((h.rec ≡ 8) × (cause : MessageCause) × HasMessageCause cause (object_of ds ++ taken) next × (fault ≡ message_fault_on h cause))
    ⊎ ((h.rec ≡ 8 → ⊥) × (length (taken ++ next ∷ []) ≡ h.count) × IsFaultOfValue ds (data_of h (taken ++ next ∷ [])) fault)

-- how incomplete octets are read, and the step with which the next one is rejected
abbrev pub Refuses : Limits → List ℕ → ℕ → TokenFault → Type 0
Refuses limits octets next fault =
    (ds : List Dataset) × (b : PartialDataset) × ReadsAsDatasets count_octets octets ds b × AllCanContinue limits ds b × (AreSections ds → ⊥)
    × IsRefusedAt limits ds b next fault

pub refuses_by : LayerLemmas → (limits : Limits) (octets : List ℕ) (next : ℕ) (fault : TokenFault) → RefusesByTests limits octets next fault
    → Refuses limits octets next fault
refuses_by laws limits octets next fault (inl bad) = (bad.whole, InTag bad.held, bad.reads, bad.leads_on, bad.unfinished, inl (bad.dead, bad.is_fault))
refuses_by laws limits octets next fault (inr (inl bad)) =
    (bad.whole, InTag bad.held, bad.reads, bad.leads_on, bad.unfinished, inr (bad.head, bad.tag, inl bad.refuses))
refuses_by laws limits octets next fault (inr (inr (inl bad))) =
    (bad.whole, InData bad.head bad.taken, bad.reads, bad.leads_on, bad.unfinished, inl (bad.subfile, bad.cause, bad.has_cause, bad.is_fault))
refuses_by laws limits octets next fault (inr (inr (inr bad))) = elim bad.completes [
  | inl (taken, reads, parts, many) ↦
      let all = fewer_data limits bad.whole bad.head bad.given taken bad.is_value bad.leads_on in
      (bad.whole, InData bad.head taken, reads, all, bad.unfinished, inr (bad.is_value, sym (ap length parts) ∙ many, rw parts at bad.refuses))
  | inr (held, reads, tag, none, is) ↦
      let all = fewer_data limits bad.whole bad.head bad.given [] bad.is_value bad.leads_on in
      let before = before_it laws limits bad.whole bad.head held bad.is_value bad.unfinished all in
      (bad.whole, InTag held, reads, before, bad.unfinished, inr (bad.head, tag, inr (bad.is_value, none, all, rw is at bad.refuses)))
]

pub tests_of : (limits : Limits) (octets : List ℕ) (next : ℕ) (fault : TokenFault) → Refuses limits octets next fault → RefusesByTests limits octets next fault
tests_of limits octets next fault (ds, InTag held, reads, all, open', inl (dead, is)) =
    inl (record { whole = ds; held = held; reads = reads; leads_on = all; unfinished = open'; dead = dead; is_fault = is })
tests_of limits octets next fault (ds, InTag held, reads, all, open', inr (h, tag, inl bad)) =
    inr (inl (record { whole = ds; held = held; head = h; reads = reads; leads_on = all; unfinished = open'; tag = tag; refuses = bad }))
tests_of limits octets next fault (ds, InTag held, reads, all, open', inr (h, tag, inr (other, none, more, bad))) =
    let done = inr (held, reads, tag, none, refl) in
    inr (inr (inr (record { whole = ds; head = h; given = []; is_value = other; completes = done; leads_on = more; unfinished = open'; refuses = bad })))
tests_of limits octets next fault (ds, InData h xs, reads, all, open', inl (eight, c, has, is)) =
    let found : IsBadOctetAt limits octets next fault =
    record { whole = ds; head = h; taken = xs; reads = reads; leads_on = all; unfinished = open'; subfile = eight; cause = c; has_cause = has; is_fault = is }
    in inr (inr (inl found))
tests_of limits octets next fault (ds, InData h xs, reads, all, open', inr (other, many, bad)) =
    let ys = xs ++ next ∷ [] in
    let more = fewer_data limits ds h xs ys other all in
    let done = inl (xs, reads, refl, many) in
    inr (inr (inr (record { whole = ds; head = h; given = ys; is_value = other; completes = done; leads_on = more; unfinished = open'; refuses = bad })))

one_with : LayerLemmas → (limits : Limits) (ds : List Dataset) (h : Head) (f g : TokenFault) → IsRefusedWith limits ds h f → IsRefusedWith limits ds h g → f ≡ g
one_with laws limits ds h f g a b =
    grind (arith, a, b, no_rejected_head f.layer limits ds h, no_rejected_head g.layer limits ds h, not_both laws {A = f ≡ g} limits ds h [])

one_step : LayerLemmas → (limits : Limits) (ds : List Dataset) (b : PartialDataset) (next : ℕ) (f g : TokenFault) → IsRefusedAt limits ds b next f
    → IsRefusedAt limits ds b next g → f ≡ g
one_step laws limits ds (InTag held) next f g (inl a) (inl b) = a.1 ∙ sym b.1
one_step laws limits ds (InTag held) next f g (inl a) (inr (h, tag, b)) = absurd (a.0 h [] (rw append-nil tag))
one_step laws limits ds (InTag held) next f g (inr (h, tag, a)) (inl b) = absurd (b.0 h [] (rw append-nil tag))
one_step laws limits ds (InTag held) next f g (inr (h, tag, a)) (inr (k, spelled, b)) =
    let same = (laws.one_tag count_octets h k (held ++ next ∷ []) (held ++ next ∷ []) [] [] tag spelled refl).0 in
    one_with laws limits ds k f g (rw same at a) b
one_step laws limits ds (InData h taken) next f g (inl a) (inl b) =
    a.3 ∙ ap (message_fault_on h) (one_cause laws a.1 b.1 (object_of ds ++ taken) next a.2 b.2) ∙ sym b.3
one_step laws limits ds (InData h taken) next f g (inr a) (inr b) = same_Some _ _ (sym a.2.first ∙ b.2.first)
one_step laws limits ds (InData h taken) next f g (inl a) (inr b) = absurd (b.0 a.0)
one_step laws limits ds (InData h taken) next f g (inr a) (inl b) = absurd (a.0 b.0)

pub one_refusal : LayerLemmas → RefusalsReportTheLowestCause → RefusalsAreUnique
one_refusal laws tests limits octets next f g a b =
    let (ds, c, reads, all, open', bad) = refuses_by laws limits octets next f ((tests limits octets next f).0 a).1 in
    let (es, d, are, goes, more, dead) = refuses_by laws limits octets next g ((tests limits octets next g).0 b).1 in
    let same = one_reading laws octets ds es c d reads are in
    one_step laws limits es d next f g (rw (same.whole_is, same.partial_is) at bad) dead

-- ---- after a rejected octet no layer accepts a continuation

-- a value that is rejected, and one with which every layer continues
no_rejected_value : (layer : Layer) (limits : Limits) (ds : List Dataset) (d : Dataset) → CanContinue limits (ds ++ d ∷ []) → RejectsValue layer ds d → ⊥
no_rejected_value layer limits ds d goes dead = grind (arith, goes.records, goes.object, dead)

module _ (laws : LayerLemmas) (limits : Limits) (octets more : List ℕ) (next : ℕ) (lives : Lives limits (octets ++ next ∷ more)) where
  -- what follows the octet, in a tag or in data
  tag_follows : (ds : List Dataset) (held : List ℕ) (h : Head) → ReadsAsDatasets count_octets octets ds (InTag held) → EncodesTag count_octets h
      (held ++ next ∷ [])
      → Follows ds h more lives.whole lives.begun
  tag_follows ds held h reads tag =
      follows laws _ lives.whole lives.begun lives.reads ds reads.front (held ++ next ∷ []) more h reads.is_front tag
      (ap (λ (l : List ℕ). l ++ next ∷ more) reads.parts ∙ simp (append_assoc, reads.is_rest.0))

  data_follows : (ds : List Dataset) (h : Head) (taken : List ℕ) → ReadsAsDatasets count_octets octets ds (InData h taken)
      → Follows ds h ((taken ++ next ∷ []) ++ more) lives.whole lives.begun
  data_follows ds h taken reads =
      follows laws _ lives.whole lives.begun lives.reads ds reads.front reads.is_rest.0 ((taken ++ next ∷ []) ++ more) h reads.is_front reads.is_rest.1
      (ap (λ (l : List ℕ). l ++ next ∷ more) reads.parts ∙ simp (append_assoc, reads.is_rest.4))

  no_value : (ds : List Dataset) (h : Head) (given : List ℕ) (fault : TokenFault) → Follows ds h (given ++ more) lives.whole lives.begun
      → length given ≡ h.count → IsFaultOfValue ds (data_of h given) fault → ⊥
  no_value ds h given fault f many refused =
      no_rejected_value fault.layer limits ds (data_of h given) (value_goes laws limits lives.whole lives.begun lives.leads_on ds h given more many f)
      refused.dead

  none_lives : (fault : TokenFault) (ds : List Dataset) (b : PartialDataset) → ReadsAsDatasets count_octets octets ds b → IsRefusedAt limits ds b next fault
      → fault.cause ≢ Message Sink → ⊥
  none_lives fault ds (InTag held) reads (inl (dead, is)) other = laws.stuck octets more next ds held lives.whole lives.begun reads dead lives.reads
  none_lives fault ds (InTag held) reads (inr (h, tag, inl bad)) other =
      let goes = reached_in laws limits lives.whole lives.begun lives.leads_on ds h [] more (omega arith) (tag_follows ds held h reads tag) in
      not_both laws limits ds h [] fault goes bad
  none_lives fault ds (InTag held) reads (inr (h, tag, inr (value, none, all, bad))) other =
      no_value ds h [] fault (tag_follows ds held h reads tag) (sym none) bad
  none_lives fault ds (InData h taken) reads (inl (eight, cause, has, is)) other =
      let o : List ℕ = object_of ds ++ taken in
      let given = taken ++ next ∷ [] in
      let fits : length given ≤ h.count = omega (arith, reads.is_rest.2, length-append taken (next ∷ [])) in
      let goes = reached_in laws limits lives.whole lives.begun lives.leads_on ds h given more fits (data_follows ds h taken reads) in
      let same : object_so_far ds (InData h given) ≡ (o ++ next ∷ []) ++ [] = with_data ds h given eight ∙ simp (append_assoc, append-nil) in
      octet_rejected cause o next (λ sink. other (ap (λ (x : TokenFault). x.cause) is ∙ ap Message sink)) has
      (message_of limits ds (InData h given) goes (o ++ next ∷ []) [] same) (story_of limits ds (InData h given) goes (o ++ next ∷ []) [] same)
  none_lives fault ds (InData h taken) reads (inr (value, many, bad)) other =
      no_value ds h (taken ++ next ∷ []) fault (data_follows ds h taken reads) many bad

-- Octets with a rejected prefix are not viable.
no_life : LayerLemmas → RefusalsReportTheLowestCause → {limits : Limits} {octets : List ℕ} (more : List ℕ) {next : ℕ} {fault : TokenFault}
    → RefusesOctet limits octets next fault → Lives limits (octets ++ next ∷ more) → ⊥
no_life laws tests {limits} {octets} more {next} {fault} kills lives =
    let (ds, b, reads, all, open', bad) = refuses_by laws limits octets next fault ((tests limits octets next fault).0 kills.refuses).1 in
    none_lives laws limits octets more next lives fault ds b reads bad kills.by_octets

pub nothing_continues : LayerLemmas → RefusalsReportTheLowestCause → RefusedOctetsHaveNoContinuation
nothing_continues laws tests limits octets more next fault kills = (
  (λ is. no_life laws tests more kills (lives_open limits (octets ++ next ∷ more) is)),
  (λ v is. no_life laws tests more kills (lives_envelope laws limits (octets ++ next ∷ more) v is)),
)

-- ---- one result

-- a prefix of a stream that has the octet at an index
prefix_at : (stream : List ℕ) (k n : ℕ) → k < n → n ≤ length stream → (more : List ℕ) × (take n stream ≡ take k stream ++ slice_index stream k ∷ more)
prefix_at [] k n less fits = absurd (omega (arith, less, fits))
prefix_at (b ∷ stream) k zero less fits = absurd (omega (arith, less))
prefix_at (b ∷ stream) zero (suc n) less fits = (take n stream, refl)
prefix_at (b ∷ stream) (suc k) (suc n) less fits = let (more, is) = prefix_at stream k n (omega (arith, less)) (omega (arith, fits)) in (more, λ i. b ∷ is i)

-- No prefix of incomplete octets is an envelope.
pub no_prefix : NoTagIsAPrefixOfAnother → NoDatasetIsAPrefixOfAnother → NoSectionsAreAPrefixOfOthers → IncompleteBeginsWithNoEnvelope
no_prefix tags one law limits octets front rest v open' parts admits =
    let r = open'.reads in
    let ds = admits.datasets in
    elim (compare one open'.whole ds r.front front r.rest rest r.is_front admits.spelled (sym r.parts ∙ parts)) [
      | inl (more, q, is, stream, tail) ↦
          (let none = all_of law ds more admits.sections (subst AreViableSections (sym is) (alive_of limits open'.whole open'.begun open'.leads_on.sizes)) in
          open'.unfinished (subst AreSections (sym (append-nil ds) ∙ ap (λ (xs : List Dataset). ds ++ xs) (sym none) ∙ is) admits.sections))
      | inr n ↦ begun_none tags open'.begun r.rest r.is_rest n.dataset n.p (n.q ++ rest) n.spelled n.agree
    ]

-- the number of octets of the stream after which the result is determined
abbrev reach : List ℕ → Answer → ℕ
reach stream (Finished n v) = n
reach stream (Refused e) = e.octet
reach stream (Truncated e) = length stream

module _ (laws : LayerLemmas) (tests : RefusalsReportTheLowestCause) (value : EncodingIsUnambiguous) (limits : Limits) (stream : List ℕ) where
  -- Before that number the octets are incomplete or an envelope.
  led : (x : Answer) → Answers limits stream x → (reach stream x ≤ length stream) × AreViable limits (take (reach stream x) stream)
  led (Finished n v) a = (a.fits, inr (v, a.envelope))
  led (Refused e) a = (omega (arith, a.0.fits), inl a.0.refuses.before)
  led (Truncated e) a = (omega arith, inl (rw take-length a.is_open))

  -- With one more octet they are neither.
  past : (x : Answer) → Answers limits stream x → reach stream x < length stream → (more : List ℕ)
      → AreViable limits (take (reach stream x) stream ++ slice_index stream (reach stream x) ∷ more) → ⊥
  past (Finished n v) a less more (inl open') = no_prefix laws.one_tag laws.dataset_if laws.sections limits _ (take n stream) _ v open' refl a.envelope.admits
  past (Finished n v) a less more (inr (w, is)) =
      let bad : slice_index stream n ∷ more ≡ [] = no_others laws.dataset_if laws.sections (take n stream) _ v w a.envelope.admits is.admits in cc
  past (Refused e) (is, no_failure) less more comes =
      let by_octets = λ (sink : is.fault.cause ≡ Message Sink). no_failure (ap (λ (x : Refusal). x.cause) is.refusal ∙ sink) in
      no_life laws tests more (record { refuses = is.refuses; by_octets = by_octets }) (lives_as laws limits _ comes)
  past (Truncated e) a less more comes = omega (arith, less)

  no_later : (x y : Answer) → Answers limits stream x → Answers limits stream y → reach stream y ≤ reach stream x
  no_later x y a b = elim (cases_lt (reach stream x) (reach stream y)) [
    | inr le ↦ le
    | inl less ↦
        let (fits, comes) = led y b in
        let (more, parts) = prefix_at stream (reach stream x) (reach stream y) less fits in
        absurd (past x a (omega (arith, less, fits)) more (rw parts at comes))
  ]

  not_open : (n : ℕ) (v : Value) → IsFinished limits stream n v → IsIncomplete limits (take n stream) → ⊥
  not_open n v a open' =
      no_prefix laws.one_tag laws.dataset_if laws.sections limits _ (take n stream) [] v open' (sym (append-nil (take n stream))) a.envelope.admits

  answer_at : (x y : Answer) → Answers limits stream x → Answers limits stream y → reach stream x ≡ reach stream y → x ≡ y
  answer_at (Finished n v) (Finished m w) a b same =
      let same_value = value (take m stream) v w (rw same at a.envelope.admits) b.envelope.admits in λ i. Finished (same i) (same_value i)
  answer_at (Finished n v) (Refused e) a b same = absurd (not_open n v a (rw (← same) at b.0.refuses.before))
  answer_at (Finished n v) (Truncated e) a b same = absurd (not_open n v a (rw (same, take-length) b.is_open))
  answer_at (Refused e) (Refused f) a b same =
      let refuses = subst (λ (k : ℕ). RefusesNext limits (take k stream) (slice_index stream k) a.0.fault) same a.0.refuses in
      let fault = one_refusal laws tests limits (take f.octet stream) (slice_index stream f.octet) a.0.fault b.0.fault refuses b.0.refuses in
      ap Refused (a.0.refusal ∙ (λ i. refusal_at (same i) (fault i)) ∙ sym b.0.refusal)
  answer_at (Truncated e) (Truncated f) a b same =
      let s = a.refusal in
      let t = b.refusal in
      let one = (one_reading laws stream s.whole t.whole s.begun t.begun s.reads t.reads).partial_is in
      ap Truncated (s.refusal ∙ (λ i. truncation_refusal (length stream) (partial_record (one i), partial_number (one i))) ∙ sym t.refusal)
  answer_at (Refused e) (Truncated f) a b same = absurd (omega (arith, same, a.0.fits))
  answer_at (Refused e) (Finished n v) a b same = absurd (not_open n v b (rw same at a.0.refuses.before))
  answer_at (Truncated e) (Finished n v) a b same = absurd (not_open n v b (rw (← same, take-length) a.is_open))
  answer_at (Truncated e) (Refused f) a b same = absurd (omega (arith, same, b.0.fits))

pub one_answer : LayerLemmas → RefusalsReportTheLowestCause → EncodingIsUnambiguous → StreamsHaveOneResult
one_answer laws tests value limits stream x y a b =
    let later = no_later laws tests value limits stream in answer_at laws tests value limits stream x y a b (omega (arith, later x y a b, later y x b a))
