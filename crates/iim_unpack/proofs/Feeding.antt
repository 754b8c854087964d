-- The reader of tags and the parts. The state of an unpacker after a chunk.
use Rattle.iim_unpack.proofs.Words.{AllCanContinue, PartsAreAfter, PartsAreBetween, EventsAreInOrder, AreReachedBy, PartialDataset, Bool, Cause, DataOctet, Dataset, DatasetEnd, DatasetEvent, Delivers, Err, EmitsEvents, Head, HeadRead, InData, InTag, IsDone, IsDoneWith, StoresPartial, IsReachedBy, IsOctet, IsIncomplete, IsRefusedIn, IsSome, IsTextOf, IsTruncatedAt, IsConsistent, ReachesDatasetState, Limits, List, LayerLemmas, None, Ok, Option, Parts, ReadsAsDatasets, Refusal, Sizes, Some, HasRead, HasReadDatasets, PartsAreAt, IsReachable, Tag, Takes, DatasetReaderAccepts, PartsEmit, TokenFault, Unpacking, Value, [], ap, append-nil, append_assoc, is_non_empty, arith, partial_number, partial_record, between, count_octets, eqb-true, false, get_or, emitted_events, has_ended, inl, inr, length, limits_in, limits_of, current_name, nat_eq, not_all, object_of, object_so_far, of_record, place_after_datasets, sum_capped, refl, refusal_at, same_Some, section_after, sections_last, slice_index, subst, sym, take, take_all, text_so_far, to_come, true, true≢false, truncation_refusal, ℕ, ◌++◌, ◌<◌, ◌||◌, ◌∙◌, ◌∷◌, ◌≡◌, ◌≤◌}
use Rattle.iim_dataset.specs.declared.head.HeadCause.{HeadCause}
use Rattle.std.specs.Prelude.{IfErr, IfOk, Result}
use Rattle.iim_dataset.specs.States.Reading.{CompletesDatasetEvent, RejectsDatasetsFor, DatasetReaderRejects, TagIsRejected, DatasetReaderConsumes, tag_cause_of, PassesToSink}
use Rattle.iim_dataset.specs.{Format.Datasets.EncodesStream, Format.Datasets.CompletesTheData, Format.Datasets.CauseOccursAt, Laws.CompletesNow}
use Rattle.iim_dataset.specs.declared.fault.Fault.{Fault}
use Rattle.iim_dataset.specs.declared.place.DatasetPlace.{DatasetPlace as Place}
use Rattle.iim_fields.specs.{States.Standing.reader_capacity, Format.Records.AreSections, Format.Causes.kept as kept_of}
use Rattle.wire_story.specs.Format.Texts as story
use Rattle.iim_unpack.specs.RouterSteps.{RouterRejects, RouterSteps, Refused, IsFaultOfEvent, in_order_prefix}
use Rattle.iim_unpack.specs.Steps.{IsRejectedWith, HasAdvanced, cause_of_tag, tag_fault}
use Rattle.iim_unpack.specs.declared.parts.router.Router.{Router}
use Rattle.iim_object.specs.States.Reading as objects
use Rattle.iim_object.specs.Format.Objects.{AreObjectRecords, HaveSizes}
use Rattle.wire_message.specs.States.Reading as wire
use Rattle.wire_story.specs.Format.Texts.{IsText}
use Rattle.wire_message.specs.Format.Messages.{Header, IsMessage}
use Rattle.iim_places.specs.{Laws.EncodingIsUnambiguous, Laws.RefusalsReportTheLowestCause, Format.Admitted.Admits, Format.Causes.tag_cause}
use Rattle.iim_places.specs.Format.Open.{IsBadTagAt, RefusesByTests}
use Rattle.iim_places.specs.declared.refusal.Layer.TheVariants as layers
use Rattle.iim_places.proofs.{Objects.are_records, Lasts.last_sections, ObjectOctets.no_object}
use Rattle.iim_unpack.proofs.Carrying.{all_for}
use Rattle.iim_unpack.proofs.Sequences.{Reached, by_data, ended_by_record, handed_in_order, reached, text_of, unended_inside}

module _ {S : Type 0} (goes : S → List story.StoryEvent → S → Type 0) (failures : S → ℕ) where
  -- The capacity of the header is unchanged, whatever the reader of tags returns.
  pub same_room : (r : Result ℕ Fault) (old : Place) (octets : List ℕ) (new : Place) (a b : Router S)
      → IfOk r (λ used. DatasetReaderConsumes (RouterSteps goes failures) (λ (r : Router S). Takes r.parts.now) (λ
      (r : Router S). PartsAreBetween true r.parts.now)
      (old, a) octets (new, b) used)
      → IfErr r (λ fault. DatasetReaderRejects (RouterSteps goes failures) (RouterRejects goes failures) (λ (r : Router S). Takes r.parts.now)
      (old, a) octets fault (new, b))
      → reader_capacity b.parts.now.fields ≡ reader_capacity a.parts.now.fields
  same_room (Ok used) old octets new a b taken bad = taken.told.told.3
  same_room (Err fault) old octets new a b taken bad = by (tag_cause_of fault.cause) bad.refused
    where
      by : (cause : Option HeadCause) → RejectsDatasetsFor (RouterSteps goes failures) (RouterRejects goes failures) cause old octets fault.used new a b
          → reader_capacity b.parts.now.fields ≡ reader_capacity a.parts.now.fields
      by None h = h.0.stopped.3
      by (Some cause) h = h.0.told.3

-- ---- the states that octets reach

-- not yet an envelope
unfinished : LayerLemmas → (parts : Parts) (ds : List Dataset) (b : PartialDataset) → PartsAreAt parts ds b → has_ended parts ≡ false → AreSections ds → ⊥
unfinished laws parts ds (InTag held) at more sections =
    let nine = sections_last laws.last_record ds at.fields.alive sections in
    true≢false (sym (ap (λ n. nat_eq n 9) nine) ∙ sym (ended_by_record parts ds at.fields) ∙ more)
unfinished laws parts ds (InData h taken) at more sections = not_all laws.sections ds h at.fields.alive sections

-- octets have exactly one text
pub one_text : LayerLemmas → (p x y : List ℕ) → IsTextOf p x → IsTextOf p y → x ≡ y
one_text laws p x y (ds, b, reads, is) (es, c, other, that) =
    let hands : EmitsEvents count_octets p (emitted_events ds b) b = record { whole = ds; reads = reads; handed = refl } in
    let gives : EmitsEvents count_octets p (emitted_events es c) c = record { whole = es; reads = other; handed = refl } in
    let way = laws.one_way p (emitted_events ds b) (emitted_events es c) b c hands gives in
    let told = laws.events_tell ds es b c way.0 in
    is ∙ ap text_so_far (ap (λ (xs : List Dataset). object_so_far xs b) told.0 ∙ ap (object_so_far es) way.1) ∙ sym that

pub open_by : LayerLemmas → {place : Place} {parts : Parts} {p text : List ℕ} → Reached place parts p text → has_ended parts ≡ false
    → IsIncomplete (limits_of parts.fields) p
open_by laws {parts = parts} r more = record {
  whole = r.whole;
  begun = r.begun;
  reads = r.reads;
  leads_on = all_for laws.living parts r.whole r.begun r.stands;
  unfinished = unfinished laws parts r.whole r.begun r.stands more;
}

open_parts : (parts : Parts) (left : Option ℕ) → Takes parts left → has_ended parts ≡ false
open_parts parts None takes = takes.is_over
open_parts parts (Some left) takes = unended_inside parts takes.head left takes.fields

partial_on : (u v : Bool) (p piece : List ℕ) → u ≡ is_non_empty p → v ≡ (u || is_non_empty piece) → v ≡ is_non_empty (p ++ piece)
partial_on u v [] piece was is = rw was at is
partial_on u v (x ∷ p) piece was is = rw was at is

-- ---- a chunk

-- The octets continue the parts from the state after the events.
module _ {S : Type 0} {goes : S → List story.StoryEvent → S → Type 0} {failures : S → ℕ} (laws : LayerLemmas) {u : Unpacking} {p : List ℕ}
    (led : IsReachedBy u p)
    (octets : List ℕ) {place : Place} {q : Parts} {a b : S} (t : PassesToSink (PartsEmit goes failures) u.reader.place octets place (u.parts, a) (q, b)) where
  leads_on : ReachesDatasetState count_octets (p ++ octets) (led.events ++ t.more) place
  leads_on = t.brings p led.events led.leads

  reached_on : AreReachedBy q (led.events ++ t.more) (led.text ++ t.told.more)
  reached_on = t.told.leads.leads led.events led.text (handed_in_order (p ++ octets) (led.events ++ t.more) leads_on.begun leads_on.hands) led.led

  text_on : IsTextOf (p ++ octets) (led.text ++ t.told.more)
  text_on = text_of (reached laws.events_tell leads_on reached_on)

  -- for every text before
  adds_by : Delivers p octets (story.delivered t.told.more)
  adds_by text is =
      let same = one_text laws p text led.text is (text_of (reached laws.events_tell led.leads led.led)) in
      (t.told.more, rw same text_on, refl)

-- between datasets, the octets are complete datasets
stream_of : (p : List ℕ) (whole : List Dataset) (held : List ℕ) → ReadsAsDatasets count_octets p whole (InTag held) → [] ≡ held
    → EncodesStream count_octets whole p
stream_of p whole held reads keeps =
    let none : reads.rest ≡ [] = reads.is_rest.0 ∙ sym keeps in
    let is : reads.front ≡ p = sym (append-nil reads.front) ∙ ap (λ (xs : List ℕ). reads.front ++ xs) (sym none) ∙ sym reads.parts in
    subst (EncodesStream count_octets whole) is reads.is_front

-- The state after the octets of a complete envelope.
pub record WholeParts (v : Unpacking) (p : List ℕ) : Type 0 where
  pub ds : List Dataset
  pub after : PartsAreAfter v.parts ds
  pub stream : EncodesStream count_octets ds p
  pub sections : AreSections ds
  pub head : Header
  pub head_is : wire.head_read v.parts.message ≡ Some head
  pub message : IsMessage (object_of ds) head (text_so_far (object_of ds)) (wire.trailer_read v.parts.message)
  pub lines : List (List ℕ)
  pub lined : IsText (text_so_far (object_of ds)) lines

pub whole_parts : LayerLemmas → (v : Unpacking) (p : List ℕ) → has_ended v.parts ≡ true → v.reader.place ≡ between → IsReachedBy v p → WholeParts v p
whole_parts laws v p last place led =
    let r = reached laws.events_tell led.leads led.led in by r.whole r.begun r.reads (subst (λ (x : Place). StoresPartial x r.begun) place r.keeps) r.stands
  where
    by : (ds : List Dataset) (b : PartialDataset) → ReadsAsDatasets count_octets p ds b → StoresPartial between b → PartsAreAt v.parts ds b → WholeParts v p
    by ds (InTag held) reads keeps after =
        let nine : section_after ds ≡ 9 = eqb-true (section_after ds) 9 (sym (ended_by_record v.parts ds after.fields) ∙ last) in
        let (head, is, message, (lines, lined)) = after.ended nine (object_of ds) (text_so_far (object_of ds)) after.message in
        record {
          ds = ds;
          after = after;
          stream = stream_of p ds held reads keeps;
          sections = last_sections laws.last_record ds after.fields.alive nine;
          head = head;
          head_is = is;
          message = message;
          lines = lines;
          lined = lined;
        }
    by ds (InData h taken) reads keeps after = absurd keeps

-- the sizes of the object
abbrev pub TellsSizes : Unpacking → Sizes → Type 0
TellsSizes v s = (ds : List Dataset) (r : AreObjectRecords ds) → objects.ObjectReaderStandsAt v.parts.object (place_after_datasets ds)
    → HaveSizes r.r7 r.r8 r.r9 s

abbrev admits_by : LayerLemmas → (v : Unpacking) (p : List ℕ) (s : Sizes) → (w : WholeParts v p) → TellsSizes v s
    → Admits p (record { fields = kept_of w.ds; head = w.head; lines = w.lines; trailer = wire.trailer_read v.parts.message; sizes = s })
admits_by laws v p s w sizes =
    let r = are_records w.ds w.sections in
    let by = laws.by_number w.ds r in
    let have = sizes w.ds r w.after.object in
    let have' : HaveSizes (of_record 7 w.ds) (of_record 8 w.ds) (of_record 9 w.ds) s = rw (by.sevens, by.eights, by.nines) have in
    record {
      datasets = w.ds;
      spelled = w.stream;
      sections = w.sections;
      fields = refl;
      text = text_so_far (object_of w.ds);
      message = w.message;
      lines = w.lined;
      sizes = have';
    }

pub done_by : LayerLemmas → (v : Unpacking) (p : List ℕ) (n : ℕ) (s : Sizes) → v.refused ≡ None → PartsAreBetween true v.parts → v.reader.place ≡ between
    → v.octets ≡ n → IsReachedBy v p → TellsSizes v s → IsDoneWith v p n
done_by laws v p n s taking ended place counts led sizes =
    let w = whole_parts laws v p ended.is_over place led in
    record {
      taking = taking;
      ended = ended.is_over;
      place = place;
      counts = counts;
      is_led = led;
      value = record { fields = kept_of w.ds; head = w.head; lines = w.lines; trailer = wire.trailer_read v.parts.message; sizes = s };
      admits = admits_by laws v p s w sizes;
      within = record { kept = w.after.fields.within; subfiles = w.after.few };
    }

-- the value is returned
pub tells_value : LayerLemmas → EncodingIsUnambiguous
    → (u : Unpacking) (p : List ℕ) (n : ℕ) (fields : List Dataset) (head : Header) (trailer : List ℕ) (sizes : Sizes) → IsDoneWith u p n
    → wire.head_read u.parts.message ≡ Some head → trailer ≡ wire.trailer_read u.parts.message → TellsSizes u sizes
    → ((ds : List Dataset) → HasReadDatasets u.parts.fields ds → fields ≡ kept_of ds)
    → (v : Value) → Admits p v → (fields ≡ v.fields) × (head ≡ v.head) × (trailer ≡ v.trailer) × (sizes ≡ v.sizes)
tells_value laws one u p n fields head trailer sizes at head_is trailer_is sizes_are envelope v admits =
    let w = whole_parts laws u p at.ended at.place at.is_led in
    let mine : Value = record { fields = kept_of w.ds; head = w.head; lines = w.lines; trailer = wire.trailer_read u.parts.message; sizes = sizes } in
    let same : mine ≡ v = one p mine v (admits_by laws u p sizes w sizes_are) admits in (
      envelope w.ds w.after.fields ∙ ap (λ (x : Value). x.fields) same,
      same_Some _ _ (sym head_is ∙ w.head_is) ∙ ap (λ (x : Value). x.head) same,
      trailer_is ∙ ap (λ (x : Value). x.trailer) same,
      ap (λ (x : Value). x.sizes) same,
    )

-- an unpacker has consumed some incomplete input, or an envelope
pub reachable_has_consumed : (u : Unpacking) → has_ended u.parts ≡ false → IsReachable u → (p : List ℕ) × (a : ℕ) × HasRead u p a
reachable_has_consumed u more (p, a, inl at) = (p, a, at)
reachable_has_consumed u more (p, a, inr at) = absurd (true≢false (sym at.ended ∙ more))

pub reachable_done : (u : Unpacking) → has_ended u.parts ≡ true → IsReachable u → (p : List ℕ) × (a : ℕ) × IsDoneWith u p a
reachable_done u last (p, a, inl at) = absurd (true≢false (sym last ∙ at.unended))
reachable_done u last (p, a, inr at) = (p, a, at)

-- the state of the parts then
pub whole_of : LayerLemmas → (u now : Unpacking) → u ≡ now → IsDone now → (u.refused ≡ None → IsConsistent u) → (p : List ℕ) × WholeParts u p
whole_of laws u now is done sound =
    let (none, last) = subst IsDone (sym is) done in
    let (p, a, at) = reachable_done u last (sound none).stood in (p, whole_parts laws u p at.ended at.place at.is_led)

-- ---- the result of a chunk

module _ {S : Type 0} {goes : S → List story.StoryEvent → S → Type 0} {failures : S → ℕ} (laws : LayerLemmas) (u v : Unpacking) {piece : List ℕ} {used : ℕ}
    {a b : S}
    (h : HasAdvanced goes failures (u.reader.place, u.parts, a) piece (v.reader, v.parts, b) used) (same : v.refused ≡ u.refused)
    (counts : v.octets ≡ sum_capped u.octets used) (begun : v.begun ≡ (u.begun || is_non_empty piece)) where
  pub goes_more : has_ended v.parts ≡ false → (p : List ℕ) (n : ℕ) → HasRead u p n
      → HasRead v (p ++ piece) (sum_capped n (length piece)) × Delivers p piece (story.delivered h.told.told.more)
  goes_more more p n at =
      let all : used ≡ length piece = elim h.onward [ inl on ↦ on.0 | inr over ↦ absurd (true≢false (sym over.0.is_over ∙ more)) ] in
      let whole : take used piece ≡ piece = take_all used piece (omega (arith, all)) in
      let leads = leads_on laws at.is_led (take used piece) h.told in
      let led = reached_on laws at.is_led (take used piece) h.told in
      let there : HasRead v (p ++ take used piece) (sum_capped n used) = record {
        taking = same ∙ at.taking;
        unended = more;
        counts = rw at.counts at counts;
        begun = rw (sym whole) at (partial_on u.begun v.begun p piece at.begun begun);
        is_led = record { events = at.is_led.events ++ h.told.more; text = at.is_led.text ++ h.told.told.more; leads = leads; led = led };
        is_open = open_by laws (reached laws.events_tell leads led) more;
      } in (
        rw (whole, all) at there,
        subst (λ (xs : List ℕ). Delivers p xs (story.delivered h.told.told.more)) whole (adds_by laws at.is_led (take used piece) h.told),
      )

  pub goes_done : (s : Sizes) → has_ended v.parts ≡ true → TellsSizes v s → (p : List ℕ) (n : ℕ) → HasRead u p n
      → (used ≤ length piece) × IsDoneWith v (p ++ take used piece) (sum_capped n used) × Delivers p (take used piece) (story.delivered h.told.told.more)
  goes_done s last sizes p n at =
      let ended : PartsAreBetween true v.parts × (v.reader.place ≡ between) =
      elim h.onward [ inl on ↦ absurd (true≢false (sym last ∙ open_parts v.parts (to_come v.reader.place) on.1)) | inr over ↦ over ] in
      let led : IsReachedBy v (p ++ take used piece) = record {
        events = at.is_led.events ++ h.told.more;
        text = at.is_led.text ++ h.told.told.more;
        leads = leads_on laws at.is_led (take used piece) h.told;
        led = reached_on laws at.is_led (take used piece) h.told;
      } in (
        h.within,
        done_by laws v (p ++ take used piece) (sum_capped n used) s (same ∙ at.taking) ended.0 ended.1 (rw at.counts at counts) led sizes,
        adds_by laws at.is_led (take used piece) h.told,
      )

  pub sound_more : has_ended v.parts ≡ false → IsConsistent u → has_ended u.parts ≡ false → IsConsistent v
  sound_more more sound unended =
      let (p, n, at) = reachable_has_consumed u unended sound.stood in
      record {
        calls = h.takes_calls;
        takes = elim h.onward [ inl on ↦ inl (more, on.1) | inr over ↦ inr over.0 ];
        stood = (p ++ piece, sum_capped n (length piece), inl (goes_more more p n at).0);
      }

  pub sound_done : (s : Sizes) → has_ended v.parts ≡ true → TellsSizes v s → IsConsistent u → has_ended u.parts ≡ false → IsConsistent v
  sound_done s last sizes sound unended =
      let (p, n, at) = reachable_has_consumed u unended sound.stood in
      record {
        calls = h.takes_calls;
        takes = elim h.onward [ inl on ↦ absurd (true≢false (sym last ∙ open_parts v.parts (to_come v.reader.place) on.1)) | inr over ↦ inr over.0 ];
        stood = (p ++ take used piece, sum_capped n used, inr (goes_done s last sizes p n at).1);
      }

-- ---- refusals

tag_causes : (held : List ℕ) (cause : HeadCause) → CauseOccursAt cause (length held) → cause_of_tag cause ≡ tag_cause held
tag_causes held cause is = grind arith

kept_tag : (held : List ℕ) (begun : PartialDataset) → StoresPartial (Tag (record { items = held })) begun → begun ≡ InTag held
kept_tag held begun keeps = grind arith

bad_tag : LayerLemmas → {limits : Limits} {parts : Parts} {p text : List ℕ} {place : Place} {next : ℕ} {cause : HeadCause} {fault : TokenFault}
    → limits_of parts.fields ≡ limits
    → Reached place parts p text → has_ended parts ≡ false → TagIsRejected place next cause → fault ≡ tag_fault (current_name place) cause
    → IsBadTagAt limits p next fault
bad_tag laws {limits} {parts} {p} {text} {place} {next} {cause} same r more dies is =
    let begun : r.begun ≡ InTag dies.held = kept_tag dies.held r.begun (subst (λ (x : Place). StoresPartial x r.begun) dies.tag r.keeps) in
    let goes_on : AllCanContinue limits r.whole r.begun = rw same at (all_for laws.living parts r.whole r.begun r.stands) in
    record {
      whole = r.whole;
      held = dies.held;
      reads = subst (ReadsAsDatasets count_octets p r.whole) begun r.reads;
      leads_on = subst (AllCanContinue limits r.whole) begun goes_on;
      unfinished = unfinished laws parts r.whole r.begun r.stands more;
      dead = dies.dead;
      is_fault = is ∙ ap (λ (x : Place). tag_fault (current_name x) cause) dies.tag
          ∙ ap (λ (c : Cause). record { layer = layers.Dataset; rec = get_or dies.held 1 0; set = get_or dies.held 2 0; cause = c })
          (tag_causes dies.held cause dies.concerns);
    }

-- why an event is rejected after these datasets
abbrev Why : Limits → List ℕ → DatasetEvent → TokenFault → List Dataset → PartialDataset → Type 0
Why limits text event fault ds b =
    (text ≡ text_so_far (object_so_far ds b)) × AllCanContinue limits ds b × (AreSections ds → ⊥) × IsFaultOfEvent limits ds b event fault

-- The event is rejected for the same cause after datasets with the same events.
refused_as : LayerLemmas → {limits : Limits} {events : List DatasetEvent} {text : List ℕ} {event : DatasetEvent} {fault : TokenFault}
    → Refused limits events text event fault → (ds : List Dataset) (b : PartialDataset) → events ≡ emitted_events ds b → Why limits text event fault ds b
refused_as laws {limits} {events} {text} {event} {fault} r ds b told =
    let same = laws.events_tell r.whole ds r.begun b (sym r.told ∙ told) in
    by_data (Why limits text event fault ds) (in_tag event) r.begun b same.1
    (subst (λ (xs : List Dataset). Why limits text event fault xs r.begun) same.0 (r.is_text, r.leads_on, r.unfinished, r.refuses))
  where
    in_tag : (e : DatasetEvent) (x y : List ℕ) → Why limits text e fault ds (InTag x) → Why limits text e fault ds (InTag y)
    in_tag (HeadRead h) x y (is, on, open', why) = (is, record { sizes = on.sizes; message = on.message; story = on.story }, open', why)
    in_tag other x y (is, on, open', why) = absurd why

end_text : (octets : List ℕ) (next : ℕ) (ds : List Dataset) (h : Head) (given text : List ℕ) → (h.rec ≡ 8 → ⊥) → text ≡ text_so_far (object_of ds)
    → CompletesTheData octets next ds h given → IsTextOf octets text
end_text octets next ds h given text other is (inl (taken, reads, parts, count)) = (
  ds,
  InData h taken,
  reads,
  is ∙ ap text_so_far (sym (no_object ds h taken other)),
)
end_text octets next ds h given text other is (inr (held, reads, tag, count, none)) = (ds, InTag held, reads, is)

-- the events up to the one that an octet completes
completed_in_order : (octets : List ℕ) (next : ℕ) (events : List DatasetEvent) (event : DatasetEvent) → CompletesDatasetEvent octets next events event
    → EventsAreInOrder (events ++ event ∷ [])
completed_in_order octets next events event c =
    in_order_prefix (events ++ event ∷ []) c.later
    (subst EventsAreInOrder (sym (append_assoc events (event ∷ []) c.later))
    (handed_in_order (octets ++ next ∷ []) (events ++ event ∷ c.later) c.next_begun c.with_next))

-- The event that an octet completes is rejected, and so is the octet after those before it.
token_refused : LayerLemmas → (limits : Limits) (octets : List ℕ) (next : ℕ) (events : List DatasetEvent) (text : List ℕ) (event : DatasetEvent)
    (fault : TokenFault) → CompletesNow octets next events event
    → Refused limits events text event fault → IsTextOf octets text × RefusesByTests limits octets next fault
token_refused laws limits octets next events text (HeadRead h) fault c r =
    let (is_text, on, unended, why) = refused_as laws r c.whole (InTag c.held) c.told in (
      (c.whole, InTag c.held, c.reads, is_text),
      inr (inl (record { whole = c.whole; held = c.held; head = h; reads = c.reads; leads_on = on; unfinished = unended; tag = c.tag; refuses = why })),
    )
token_refused laws limits octets next events text (DataOctet b) fault (same, c) r =
    let r' : Refused limits events text (DataOctet next) fault = rw same at r in
    let (is_text, on, unended, (eight, (cause, has, is_fault))) = refused_as laws r' c.whole (InData c.head c.taken) c.told in (
      (c.whole, InData c.head c.taken, c.reads, is_text),
      inr (inr (inl (record {
        whole = c.whole;
        head = c.head;
        taken = c.taken;
        reads = c.reads;
        leads_on = on;
        unfinished = unended;
        subfile = eight;
        cause = cause;
        has_cause = has;
        is_fault = is_fault;
      }))),
    )
token_refused laws limits octets next events text DatasetEnd fault c r =
    let (is_text, on, unended, (other, why)) = refused_as laws r c.whole (InData c.head c.given) c.told in (
      end_text octets next c.whole c.head c.given text other (is_text ∙ ap text_so_far (no_object c.whole c.head c.given other)) c.completes,
      inr (inr (inr (record {
        whole = c.whole;
        head = c.head;
        given = c.given;
        is_value = other;
        completes = c.completes;
        leads_on = on;
        unfinished = unended;
        refuses = why;
      }))),
    )

-- Octet k of a chunk is rejected, after the octets that the unpacker has consumed.
refused_by : LayerLemmas → RefusalsReportTheLowestCause → (u : Unpacking) (piece : List ℕ) (k : ℕ) (fault : TokenFault) (e : Refusal) (added : List ℕ)
    → k < length piece → IsOctet (slice_index piece k) → e ≡ refusal_at (sum_capped u.octets k) fault → (p : List ℕ) (n : ℕ) (at : HasRead u p n)
    → IsTextOf (p ++ take k piece) (at.is_led.text ++ added) × RefusesByTests (limits_in u) (p ++ take k piece) (slice_index piece k) fault
    → IsRefusedIn (limits_in u) p n piece (story.delivered added) e
refused_by laws tests u piece k fault e added within low is p n at told = record {
  k = k;
  within = within;
  fault = fault;
  refusal = is ∙ ap (λ (m : ℕ). refusal_at (sum_capped m k) fault) at.counts;
  added = added;
  delivers = refl;
  adds = λ text is_text.
      let led = at.is_led in
      let same = one_text laws p text led.text is_text (text_of (reached laws.events_tell led.leads led.led)) in
      rw same told.0;
  refuses = (tests (limits_in u) (p ++ take k piece) (slice_index piece k) fault).1 (low, told.1);
}

-- the sink's count at a refusal
pub refused_in : {S : Type 0} (goes : S → List story.StoryEvent → S → Type 0) (failures : S → ℕ) → LayerLemmas → RefusalsReportTheLowestCause
    → (u : Unpacking) (piece : List ℕ)
    (k : ℕ) (fault : TokenFault) (a : S) (new : Place) (q : Parts) (b : S) (e : Refusal) → k < length piece → IsOctet (slice_index piece k)
    → e ≡ refusal_at (sum_capped u.octets k) fault → IsRejectedWith goes failures (u.reader.place, u.parts, a) piece k fault (new, q, b)
    → (more : List story.StoryEvent) × goes a more b × ((p : List ℕ) (n : ℕ) → HasRead u p n → IsRefusedIn (limits_in u) p n piece more e)
refused_in goes failures laws tests u piece k fault a new q b e within low is (inl (cause, stuck, is_fault)) =
    let w = stuck.told.told in (
      story.delivered w.more,
      w.told,
      λ p n at.
          let r = reached laws.events_tell (leads_on laws at.is_led (take k piece) stuck.told) (reached_on laws at.is_led (take k piece) stuck.told) in
          let bad = bad_tag laws w.leads.limits r (open_parts q (to_come new) stuck.takes) stuck.dies is_fault in
          refused_by laws tests u piece k fault e w.more within low is p n at (text_of r, inl bad),
    )
refused_in goes failures laws tests u piece k fault a new q b e within low is (inr stop) =
    let s = stop.stopped in (
      story.delivered s.more,
      s.told,
      λ p n at.
          let led = at.is_led in
          let octets : List ℕ = p ++ take k piece in
          let events : List DatasetEvent = led.events ++ stop.more in
          let completes = stop.completes p led.events led.leads in
          let now = laws.completes octets (slice_index piece k) events stop.event completes in
          let order : EventsAreInOrder (events ++ stop.event ∷ []) = completed_in_order octets (slice_index piece k) events stop.event completes in
          let why : Refused (limits_in u) events (led.text ++ s.more) stop.event fault = rw (same_Some _ _ s.is_fault)
          (s.why led.events led.text order led.led) in
          refused_by laws tests u piece k fault e s.more within low is p n at
          (token_refused laws (limits_in u) octets (slice_index piece k) events (led.text ++ s.more) stop.event fault now why),
    )

-- ---- the beginning and the end

named_as : (place : Place) (begun : PartialDataset) → StoresPartial place begun → current_name place ≡ (partial_record begun, partial_number begun)
named_as place begun keeps = grind arith

pub truncated_by : (u : Unpacking) (p : List ℕ) (a : ℕ) → HasRead u p a → IsTruncatedAt p a (truncation_refusal u.octets (current_name u.reader.place))
truncated_by u p a at =
    let led = at.is_led in
    record {
      whole = led.leads.hands.whole;
      begun = led.leads.begun;
      reads = led.leads.hands.reads;
      refusal = ap (λ (n : ℕ). truncation_refusal n (current_name u.reader.place)) at.counts
          ∙ ap (truncation_refusal a) (named_as u.reader.place led.leads.begun led.leads.keeps);
    }

-- an unpacker that has received no octet
pub new_has_consumed : LayerLemmas → (u : Unpacking) → u.refused ≡ None → u.octets ≡ 0 → u.begun ≡ false
    → ReachesDatasetState count_octets [] [] u.reader.place → DatasetReaderAccepts u.reader → u.reader.place ≡ between → HasReadDatasets u.parts.fields []
    → objects.ObjectReaderStandsAt u.parts.object (place_after_datasets []) → wire.MessageReaderHasRead u.parts.message (object_of []) (text_so_far
    (object_of []))
    → IsSome u.parts.object → IsSome u.parts.message → HasRead u [] 0 × IsConsistent u
new_has_consumed laws u taking counts none leads calls place fields object message some_object some_message =
    let more : has_ended u.parts ≡ false = ended_by_record u.parts [] fields in
    let after : PartsAreAfter u.parts [] =
    record { fields = fields; object = object; few = omega arith; message = message; ended = λ nine. absurd (omega (arith, nine)) } in
    let led : AreReachedBy u.parts [] [] = record { whole = []; begun = InTag []; told = refl; stands = after; is_text = refl } in
    let stands : HasRead u [] 0 = record {
      taking = taking;
      unended = more;
      counts = counts;
      begun = none;
      is_led = record { events = []; text = []; leads = leads; led = led };
      is_open = open_by laws (reached laws.events_tell leads led) more;
    } in (
      stands,
      record {
        calls = calls;
        takes = inl (
          more,
          subst (λ (x : Place). Takes u.parts (to_come x)) (sym place)
              (record { fields = fields.between; object = some_object; message = some_message; is_over = more }),
        );
        stood = ([], 0, inl stands);
      },
    )
