-- Readers that were created for a possible position are in the state after all octets that reach
-- it, and an unpacker with these readers satisfies its invariant.
use Rattle.iim_unpack.proofs.Words.{PartsAreAfter, PartsAreBetween, PartialDataset, CanContinue, CanContinueAt, Dataset, DatasetPlace, FieldsPlace, Head, InData, InTag, Inside, IsDoneWith, IsEnvelopeWithin, StoresPartial, IsIncomplete, IsRestored, IsSome, IsConsistent, ReachesSavedState, Limits, List, LayerLemmas, CanContinueIn, MessagePlace, None, Octets, Parts, Place, PlaceLaws, ReadsAsDatasets, AreViableSectionsWithHead, Sizes, Contents, HasRead, PartsAreAt, Tag, Takes, DatasetReaderAccepts, Unpacking, Value, PartsAreIn, [], alive_of, ap, arith, between, count_octets, count_of, false, fields_after, fields_in, emitted_events, has_ended, head_alive, heads_within, if◌then◌else◌, inl, inr, kept, length, limits_in, limits_of, nat_eq, ne_eqb, numbers_of, object_of, object_so_far, of_record, one_reading, opened, place_after_datasets, place_of, reads_envelope, refl, section_after, sections_last, some_read, stated_after_all, stated_numbers, subst, sym, text_so_far, ticket_at, to_come, true, true≢false, ℕ, ◌+◌, ◌<◌, ◌∙◌, ◌≡◌, ◌⊎◌}
use Rattle.iim_fields.specs.States.Standing as records
use Rattle.iim_object.specs.{Format.Objects.NotEnded, Laws.ReadersReturnSizes}
use Rattle.iim_places.specs.States.Possible.{LayersReach, RecordsAreViable, zero_or_one, record_datasets, Numbers, plain, AreHeadsWithin, AreViable}
use Rattle.iim_places.specs.States.Readers.{ReadersAreAtIn, FieldsReaderIsAt, MessageReaderIsAt, ObjectReaderIsAt, RecordsReaderIsAt, has_received_octet, tag_place}
use Rattle.iim_places.specs.{Format.Tickets.ReachesPlace, Laws.PlacesDetermineLimits, Format.TicketForm.HasContents, States.Restored.EncodesPlace}
use Rattle.iim_places.proofs.{StreamResults.goes_envelope, Plain.present_ended, ByLayers.partial_same, ByLayers.whole_at, PlainSizes.possible_of}
use Rattle.iim_places.proofs.ReadersAt.{TagPhase, base_tag, between_tag, come, ended_reader, ending_tag, keeps, like, live_tag, object_data, object_tag, present_tag, reader_at_tag, text_led}
use Rattle.iim_unpack.proofs.{Sequences.ended_by_record, Sequences.reached, Sequences.unended_inside, Feeding.TellsSizes, Feeding.done_by}
use Rattle.iim_fields.specs.Format.Records.{IsWithin}
use Rattle.iim_places.specs.declared.ticket.possible.Readers.{Readers}

-- ---- between datasets, in a tag, or at the end

-- The unpacker has the readers of the position, and its count of octets is `at`.
pub record IsMadeFor (place : Place) (numbers : Numbers) (limits : Limits) (at : ℕ) (u : Unpacking) : Type 0 where
  pub taking : u.refused ≡ None
  pub counts : u.octets ≡ at
  pub begun : u.begun ≡ has_received_octet place.section place.phase
  pub calls : DatasetReaderAccepts u.reader
  pub tags : u.reader.place ≡ tag_place place.section place.phase
  pub records : RecordsReaderIsAt u.parts.fields place.section place.phase (record_datasets place numbers)
  pub limits_are : limits_in u ≡ limits
  pub object : ObjectReaderIsAt u.parts.object place
  pub message : MessageReaderIsAt u.parts.message place

-- the states of readers that were created for a position
abbrev pub AreMadeFor : Limits → ℕ → Unpacking → Place → Type 0
AreMadeFor limits at u place = (l : LayersReach place) × IsMadeFor place l.numbers limits at u

-- Readers created for the position of complete datasets, and perhaps a tag, have consumed these.
after_datasets : LayerLemmas → (limits : Limits) (at : ℕ) (u : Unpacking) (ds : List Dataset) (held : List ℕ) (m : MessagePlace) (text : List ℕ)
    → AreMadeFor limits at u (place_of ds (InTag held) m) → CanContinue limits ds
    → ReachesSavedState (object_of ds) text m → PartsAreAfter u.parts ds
after_datasets laws limits at u ds held m text (l, made) goes leads =
    let ended = nat_eq (section_after ds) 9 in
    let heads = length (of_record 8 ds) in
    let base = plain (kept ds) l.numbers (zero_or_one heads) [] ended in
    let is : record_datasets (place_of ds (InTag held) m) l.numbers ≡ base = base_tag ended (section_after ds) heads held (kept ds) l.numbers in
    let live : RecordsAreViable (section_after ds) (TagPhase ended held) base = subst (RecordsAreViable (section_after ds)
    (TagPhase ended held)) is l.records in
    let alive = live_tag ended (section_after ds) held base live in
    let alike = like laws (kept ds) l.numbers heads ended ds l.kept (sym l.numbers_are) alive goes.records goes.within.subfiles refl refl refl in
    let stand = reader_at_tag ended u.parts.fields (section_after ds) held base
    (subst (RecordsReaderIsAt u.parts.fields (section_after ds) (TagPhase ended held)) is made.records) in
    let stated = stated_after_all laws ds goes.records goes.within.subfiles in
    let few = goes.within.subfiles in
    let count = count_of (of_record 8 ds) in
    let begun = present_tag ended (section_after ds) held base (present_ended (kept ds) l.numbers (zero_or_one heads) [] ended l.kept) live in
    record {
      fields = fields_after u.parts.fields base ds stand goes.records begun alike.kept_are alike.same;
      object = object_tag ended u.parts.object (stated_numbers (numbers_of (of_record 7 ds))) (section_after ds) (length (object_of ds)) heads held
          (record (place_after_datasets ds) { ending = NotEnded }) (place_after_datasets ds) made.object
          (whole_at ds (length (object_of ds)) heads refl refl) (ending_tag laws limits ds goes ended refl)
          (possible_of (place_after_datasets ds) stated (omega (arith, count, few)) goes.object);
      few = goes.within.subfiles;
      message = text_led laws u.parts.message (place_of ds (InTag held) m) (object_of ds) text made.message leads;
      ended = λ nine. ended_reader laws u.parts.message (place_of ds (InTag held) m) (object_of ds) text made.message leads (l.message.4 nine);
    }

-- ---- in data

-- Readers created for the position of complete datasets and a partial one have consumed these.
within_data : LayerLemmas → (limits : Limits) (at : ℕ) (u : Unpacking) (ds : List Dataset) (h : Head) (xs : List ℕ) (m : MessagePlace) (text : List ℕ)
    → AreMadeFor limits at u (place_of ds (InData h xs) m) → CanContinueAt limits ds h → nat_eq (section_after ds) 9 ≡ false → Octets xs
    → length xs < h.count → ReachesSavedState (object_so_far ds (InData h xs)) text m → PartsAreIn u.parts ds h xs
within_data laws limits at u ds h xs m text (l, made) goes open' octets less leads =
    let heads = length (of_record 8 ds) in
    let base = plain (kept ds) l.numbers (zero_or_one heads) [] false in
    let is : record_datasets (place_of ds (InData h xs) m) l.numbers ≡ base = ap (λ (n : ℕ). plain (kept ds) l.numbers (zero_or_one n) [] false)
    (partial_same heads (nat_eq h.rec 8)) in
    let alive_at : AreViableSectionsWithHead base h = subst (λ (es : List Dataset). AreViableSectionsWithHead es h) is l.records in
    let alike = like laws (kept ds) l.numbers heads false ds l.kept (sym l.numbers_are) (head_alive base h alive_at) (head_alive ds h goes.records)
    goes.within.subfiles refl refl open' in
    let given = if nat_eq h.rec 8 then [] else xs in
    let stand : records.IsReadingDataset u.parts.fields base h given = subst (λ (es : List Dataset). records.IsReadingDataset u.parts.fields es h given) is
    made.records in
    record {
      octets = octets;
      fields = fields_in laws.values_die u.parts.fields base ds h given stand goes.records alike.kept_are alike.same;
      object = object_data laws limits u.parts.object ds h xs goes open' less made.object;
      few = goes.within.subfiles;
      room = goes.room.subfiles;
      message = text_led laws u.parts.message (place_of ds (InData h xs) m) (object_so_far ds (InData h xs)) text made.message leads;
      ended = λ nine. ended_reader laws u.parts.message (place_of ds (InData h xs) m) (object_so_far ds (InData h xs)) text made.message leads
          (l.message.4 nine);
    }

-- ---- incomplete octets

stands_for : LayerLemmas → (limits : Limits) (at : ℕ) (u : Unpacking) (p : List ℕ) (ds : List Dataset) (b : PartialDataset) (m : MessagePlace) (text : List ℕ)
    → AreMadeFor limits at u (place_of ds b m) → ReadsAsDatasets count_octets p ds b → CanContinueIn limits ds b
    → nat_eq (section_after ds) 9 ≡ false → ReachesSavedState (object_so_far ds b) text m → PartsAreAt u.parts ds b
stands_for laws limits at u p ds (InTag held) m text made reads goes open' leads = after_datasets laws limits at u ds held m text made goes leads
stands_for laws limits at u p ds (InData h xs) m text made reads goes open' leads = within_data laws limits at u ds h xs m text made goes open'
    reads.is_rest.3 reads.is_rest.2 leads

ended_for : (parts : Parts) (ds : List Dataset) (b : PartialDataset) → nat_eq (section_after ds) 9 ≡ false → PartsAreAt parts ds b → has_ended parts ≡ false
ended_for parts ds (InTag held) open' stand = ended_by_record parts ds stand.fields ∙ open'
ended_for parts ds (InData h xs) open' stand = unended_inside parts h stand.fields.inside.0 stand.fields.inside.1

module _ (laws : LayerLemmas) (place : Place) (limits : Limits) (at : ℕ) (u : Unpacking) (made : AreMadeFor limits at u place) where
  -- An unpacker created for a position has consumed all incomplete input that reaches it.
  pub made_has_consumed : (p : List ℕ) → ReachesPlace p place → IsIncomplete limits p → HasRead u p at
  made_has_consumed p is opens =
      let ds = is.whole in
      let b = is.begun in
      let here : AreMadeFor limits at u (place_of ds b is.message) = subst (AreMadeFor limits at u) is.is_place made in
      let was = opened laws limits p ds b is.reads opens in
      let stand = stands_for laws limits at u p ds b is.message is.text here is.reads was.goes.sizes was.ended is.leads in
      record {
        taking = here.1.taking;
        unended = ended_for u.parts ds b was.ended stand;
        counts = here.1.counts;
        begun = here.1.begun ∙ come p ds b is.reads was.ended (alive_of limits ds b was.goes.sizes) ∙ sym (some_read p ds b is.reads);
        is_led = record {
          events = emitted_events ds b;
          text = text_so_far (object_so_far ds b);
          leads = record {
            begun = b;
            hands = record { whole = ds; reads = is.reads; handed = refl };
            keeps = keeps u.reader.place p ds b is.reads was.ended here.1.tags;
          };
          led = record { whole = ds; begun = b; told = refl; stands = stand; is_text = refl };
        };
        is_open = subst (λ (l : Limits). IsIncomplete l p) (sym here.1.limits_are) opens;
      }

  -- It has completed all envelopes that reach the position.
  pub made_done : (s : Sizes) → TellsSizes u s → IsSome u.parts.object → IsSome u.parts.message → (p : List ℕ) (v : Value) → ReachesPlace p place
      → IsEnvelopeWithin limits p v → IsDoneWith u p at
  made_done s sizes object message p v is whole =
      let ds = whole.admits.datasets in
      let reads = reads_envelope p v whole.admits in
      let same = one_reading laws p is.whole ds is.begun (InTag []) is.reads reads in
      let is_place : place ≡ place_of ds (InTag []) is.message = is.is_place ∙ (λ i. place_of (same.whole_is i) (same.partial_is i) is.message) in
      let leads : ReachesSavedState (object_of ds) is.text is.message = rw (same.whole_is, same.partial_is) at is.leads in
      let here : AreMadeFor limits at u (place_of ds (InTag []) is.message) = subst (AreMadeFor limits at u) is_place made in
      let goes = (goes_envelope laws limits p v whole).sizes in
      let stand = after_datasets laws limits at u ds [] is.message is.text here goes leads in
      let ended : nat_eq (section_after ds) 9 ≡ true = ap (λ (n : ℕ). nat_eq n 9) (sections_last laws.last_record ds goes.records whole.admits.sections) in
      let tags : u.reader.place ≡ between = between_tag (nat_eq (section_after ds) 9) u.reader.place (section_after ds) ended here.1.tags in
      done_by laws u p at s here.1.taking
      (record { is_over = ended_by_record u.parts ds stand.fields ∙ ended; fields = stand.fields.between; object = object; message = message }) tags
      here.1.counts
      (record {
        events = emitted_events ds (InTag []);
        text = text_so_far (object_so_far ds (InTag []));
        leads = record {
          begun = InTag [];
          hands = record { whole = ds; reads = reads; handed = refl };
          keeps = subst (λ (x : DatasetPlace). StoresPartial x (InTag [])) (sym tags) refl;
        };
        led = record { whole = ds; begun = InTag []; told = refl; stands = stand; is_text = refl };
      })
      sizes

-- Readers in the state after incomplete octets accept what comes next.
takes_at : (parts : Parts) (place : DatasetPlace) (ds : List Dataset) (b : PartialDataset) → PartsAreAt parts ds b → StoresPartial place b → has_ended parts
    ≡ false
    → IsSome parts.object → IsSome parts.message → Takes parts (to_come place)
takes_at parts (Tag held) ds (InTag octets) stand keeps more object message =
    record { fields = stand.fields.between; object = object; message = message; is_over = more }
takes_at parts (Inside k left) ds (InData h xs) stand keeps more object message =
    let given : (h.rec ≡ 8 → ⊥) → parts.fields.taken ≡ xs = λ other. stand.fields.taken_are ∙ rw (ne_eqb h.rec 8 other) refl in
    let to_come : (h.rec ≡ 8 → ⊥) → length parts.fields.taken + left ≡ h.count = λ other. omega (arith, ap length (given other), keeps.1) in
    record { head = h; fields = record { head = stand.fields.inside.1.head; to_come = to_come }; object = object; message = message }
takes_at parts place ds b stand keeps more object message = absurd keeps

-- The last dataset has ended if the readers say so.
ended_at : (parts : Parts) (ds : List Dataset) (b : PartialDataset) → PartsAreAt parts ds b → has_ended parts ≡ true → IsSome parts.object
    → IsSome parts.message
    → PartsAreBetween true parts
ended_at parts ds (InTag held) stand last object message = record { is_over = last; fields = stand.fields.between; object = object; message = message }
ended_at parts ds (InData h xs) stand last object message =
    absurd (true≢false (sym last ∙ unended_inside parts h stand.fields.inside.0 stand.fields.inside.1))

-- An unpacker with the readers of a possible position, within the limits, satisfies its invariant,
-- and is restored from the position's ticket.
readers_make : LayerLemmas → PlacesDetermineLimits → ReadersReturnSizes → (place : Place) (limits : Limits) (at : ℕ) (u : Unpacking) (ticket : List ℕ)
    → EncodesPlace ticket place
    → AreHeadsWithin limits place → (l : LayersReach place) → IsMadeFor place l.numbers limits at u → IsSome u.parts.object → IsSome u.parts.message
    → IsConsistent u × IsRestored limits ticket at u
readers_make laws told sizes place limits at u ticket is within leads made object message =
    let octets = is.possible.0.octets in
    let led = is.possible.0.leads in
    let stands = made_has_consumed laws place limits at u (leads, made) in
    let done = made_done laws place limits at u (leads, made) (sizes u.parts.object).0 (sizes u.parts.object).1 object message in
    let comes : AreViable limits octets = (told limits octets place led is.possible.0.comes).1 within in
    let (takes, here) : (((has_ended u.parts ≡ false) × Takes u.parts (to_come u.reader.place)) ⊎ PartsAreBetween true u.parts)
    × (HasRead u octets at ⊎ IsDoneWith u octets at) =
    elim comes [
      | inl open' ↦
          let s = stands octets led open' in
          let r = reached laws.events_tell s.is_led.leads s.is_led.led in
          (inl (s.unended, takes_at u.parts u.reader.place r.whole r.begun r.stands r.keeps s.unended object message), inl s)
      | inr (v, whole) ↦
          let ends = done octets v led whole in
          let by = ends.is_led.led in
          (inr (ended_at u.parts by.whole by.begun by.stands ends.ended object message), inr ends)
    ] in (
      record { calls = made.calls; takes = takes; stood = (octets, at, here) },
      record { place = place; is_ticket = is; within = within; limits_are = made.limits_are; stands = stands; done = done; some = (octets, led, here) },
    )

-- the unpacker with these readers
abbrev pub made_of : Readers → FieldsPlace → ℕ → Unpacking
made_of r fields count =
    record { reader = r.tags; parts = record { fields = fields; object = r.object; message = r.message }; octets = count; begun = r.begun; refused = None }

pub restored_at : LayerLemmas → PlaceLaws → ReadersReturnSizes → (s : Contents) (r : Readers) → ReadersAreAtIn s r → (limits : Limits)
    → IsWithin limits r.octets r.fields
    → (fields : FieldsPlace) → FieldsReaderIsAt s fields → limits_of fields ≡ limits → (count : ℕ) (ticket : List ℕ) → HasContents ticket s
    → IsConsistent (made_of r fields count) × IsRestored limits ticket count (made_of r fields count)
restored_at laws places sizes s r readers limits within fields stands limits_are count ticket splits =
    let at = readers.at in
    readers_make laws places.places_determine_limits sizes at.place limits count (made_of r fields count) ticket
    (ticket_at places.places_are_possible_by_layers places.small_places_were_possible ticket s at.place splits at.parts at.leads readers.small)
    (heads_within limits s r at within) at.leads
    (record {
      taking = refl;
      counts = refl;
      begun = at.partial_is;
      calls = at.calls;
      tags = at.tags_are;
      records = stands at.place at.parts at.leads;
      limits_are = limits_are;
      object = at.object_is;
      message = at.message_is;
    })
    at.some_object at.some_message
