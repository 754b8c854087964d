-- The state of an unpacker's parts after a head, and why a head is rejected.
use Rattle.iim_unpack.proofs.Words.{PartsAreAfter, PartsAreBetween, Bool, CountsSinkFailure, Dataset, DatasetEvent, FieldFault, FieldsPlace, AllowsSubfile, Head, HeadLeads, HeadRead, InData, InTag, IsHeadFault, IsFaultOfHead, List, LayerLemmas, ObjectLanguage, ObjectIsViable, Option, Parts, PartsReject, AreViableSectionsWithHead, Some, HasReadDatasets, IsReadingDataset, State, SubfileBegun, MessageEmits, PartsEmit, TextsAreBetweenStxAndEtx, TokenFault, PartsAreIn, [], ap, append-nil, arith, cases_Bool, cond, events_at, events_of_dataset, false, flat_map, head_token, inl, inr, length, limits_of, max_subfiles, message_fault_on, nat_eq, ne_eqb, object_of, object_so_far, octets_of, fault_of_record, of_record, place_after_datasets, place_at, refl, same_Some, sections_last, subst, sym, text_so_far, count_fault_on, true≢false, ℕ, ◌++◌, ◌<◌, ◌∙◌, ◌∷◌, ◌≡◌, ◌≤◌, ◌⊎◌}
use Rattle.std.proofs.lemmas.List.{length-map}
use Rattle.iim_dataset.specs.Format.Octets as languages
use Rattle.iim_object.specs.Format.Objects.{ObjectEnded}
use Rattle.iim_object.specs.States.Reading as objects
use Rattle.wire_story.specs.Format.Texts as story
use Rattle.wire_message.specs.States.Reading as wire
use Rattle.wire_message.specs.declared.place.Place.{Place}
use Rattle.iim_unpack.specs.RouterSteps.{ObjectRejectsHead, RejectsSubfileHead}
use Rattle.iim_places.specs.Format.Open.{IsBadEndAt}
use Rattle.iim_places.proofs.Places.{end_reaches, subfile_reaches}
use Rattle.iim_unpack.proofs.{Faults.IsObjects, Faults.field_head, Faults.head_within_limits, Faults.object_head, Faults.too_many_head, Sequences.ended_by_record}
use Rattle.iim_unpack.proofs.Carrying.{after_all, all_for, counts_for, passes_on}

-- the text is unchanged
abbrev AddsNone : List Dataset → List ℕ → Type 0
AddsNone ds more = text_so_far (object_of ds) ++ more ≡ text_so_far (object_of ds)

either_way : (b : Bool) (xs : List ℕ) → cond b xs xs ≡ xs
either_way b xs = grind arith

no_more : (ds : List Dataset) (h : Head) → object_so_far ds (InData h []) ≡ object_of ds
no_more ds h = ap (λ (xs : List ℕ). object_of ds ++ xs) (either_way (nat_eq h.rec 8) []) ∙ append-nil (object_of ds)

-- ---- the message at a head

none_in : (r : ℕ) → flat_map octets_of (events_at r) ≡ []
none_in r = elim (cases_Bool (nat_eq r 9)) [ inl nine ↦ rw nine refl | inr other ↦ rw other refl ]

same_text : TextsAreBetweenStxAndEtx → (old new : Option Place) (o more : List ℕ) → wire.ChunkAdvancesMessage old [] more new → wire.MessageReaderHasRead old o
    (text_so_far o)
    → wire.MessageReaderHasRead new o (text_so_far o) × (text_so_far o ++ more ≡ text_so_far o)
same_text texts old new o more goes at = rw (append-nil o) at (passes_on texts old new o [] more goes at)

-- ---- each kind of head

-- the number of subfiles of the object
as_many : (ds : List Dataset) → length (place_after_datasets ds).lengths ≡ length (of_record 8 ds)
as_many ds = length-map (of_record 8 ds) (λ (d : Dataset). length d.octets)

few_of : (p : Parts) (ds : List Dataset) → PartsAreAfter p ds → AllowsSubfile p.object → length (of_record 8 ds) < max_subfiles
few_of p ds at few = let n = few (place_after_datasets ds) at.object in omega (arith, n, as_many ds)

consumes_by : LayerLemmas → (ds : List Dataset) (h : Head) → AreViableSectionsWithHead ds h → IsObjects h.rec → (h.rec ≡ 8 → length
    (of_record 8 ds) < max_subfiles)
    → HeadLeads ds h
consumes_by laws ds h alive (inl eight) room = subfile_reaches laws ds h alive eight (room eight)
consumes_by laws ds h alive (inr nine) room = end_reaches laws ds h alive nine

pub begins_other : (p : Parts) (ds : List Dataset) (h : Head) (checker : FieldsPlace) → (h.rec ≡ 8 → ⊥) → (h.rec ≡ 9 → ⊥) → PartsAreAfter p ds
    → IsReadingDataset checker ds h []
    → PartsAreIn (record p { fields = checker }) ds h []
begins_other p ds h checker other8 other9 at inside =
    let elsewhere : place_at ds h ≡ place_after_datasets ds = rw (ne_eqb h.rec 8 other8, ne_eqb h.rec 9 other9) refl in
    record {
      octets = tt;
      fields = rw (either_way (nat_eq h.rec 8) []) inside;
      object = subst (objects.ObjectReaderStandsAt p.object) (sym elsewhere) at.object;
      few = at.few;
      room = λ is. absurd (other8 is);
      message = rw (no_more ds h) at.message;
      ended = λ is. absurd (other9 is);
    }

module _ {S : Type 0} {goes : S → List story.StoryEvent → S → Type 0} {failures : S → ℕ} (p : Parts) (h : Head) where
  -- a head, after complete datasets
  pub parts_emit_head : {new : Parts} {a b : S} (more : List ℕ) → PartsAreBetween false p → limits_of new.fields ≡ limits_of p.fields
      → goes a (story.delivered more) b → failures b ≡ failures a → ((ds : List Dataset) → PartsAreAfter p ds → PartsAreIn new ds h [] × AddsNone ds more)
      → PartsEmit goes failures (p, a) (HeadRead h ∷ []) (new, b)
  parts_emit_head {new} more takes same told no_failure begins = record {
    more = more;
    told = told;
    no_failure = no_failure;
    leads = record {
      limits = same;
      leads = λ before text order led.
          let (held, at) = after_all takes.fields led in
          let next = begins at.ds at.stands in
          record {
            whole = at.ds;
            begun = InData h [];
            told = ap (λ (es : List DatasetEvent). es ++ HeadRead h ∷ []) (at.told ∙ append-nil (flat_map events_of_dataset at.ds));
            stands = next.0;
            is_text = ap (λ (t : List ℕ). t ++ more) at.is_text ∙ next.1 ∙ ap text_so_far (sym (no_more at.ds h));
          };
    };
  }

  -- a head of the object, which is not a value's
  pub begins_object : LayerLemmas → {a b : S} (ds : List Dataset) (checker : FieldsPlace) {object : Option State} {message : Option Place} → IsObjects h.rec
      → (h.rec ≡ 8 → AllowsSubfile p.object) → PartsAreAfter p ds → IsReadingDataset checker ds h [] → objects.TokenAdvancesObject p.object
      (head_token h.rec h.count) object
      → (passed : MessageEmits goes failures (p.message, a) (events_at h.rec) (message, b))
      → PartsAreIn (record { fields = checker; object = object; message = message }) ds h [] × AddsNone ds passed.told.0
  begins_object laws ds checker {object} {message} is few at inside leads_on passed =
      let room : h.rec ≡ 8 → length (of_record 8 ds) < max_subfiles = λ eight. few_of p ds at (few eight) in
      let leads = consumes_by laws ds h inside.alive is room in
      let text = same_text laws.texts p.message message (object_of ds) passed.told.0 (rw (none_in h.rec) at passed.told.2) at.message in (
        record {
          octets = tt;
          fields = rw (either_way (nat_eq h.rec 8) []) inside;
          object = subst (objects.ObjectReaderStandsAt object) leads.1 (leads_on (place_after_datasets ds) at.object leads.0);
          few = at.few;
          room = room;
          message = rw (no_more ds h) text.0;
          ended = λ nine. passed.whole false (λ bad. absurd (true≢false (sym bad))) (rw nine refl);
        },
        text.1,
      )

  -- ---- refusals

  -- A head is rejected, and the sink received no more text.
  stopped_head : {a b : S} {new : Parts} (fault : TokenFault) (more : List ℕ) → LayerLemmas → PartsAreBetween false p → goes a (story.delivered more) b
      → CountsSinkFailure fault.cause (failures a) (failures b)
      → ((ds : List Dataset) → PartsAreAfter p ds
      → (IsFaultOfHead (limits_of p.fields) ds h fault ⊎ IsBadEndAt (limits_of p.fields) ds h fault) × AddsNone ds more)
      → PartsReject goes failures (Some fault) (p, a) [] (HeadRead h) (new, b)
  stopped_head fault more laws takes told counts refuses = record {
    fault = fault;
    is_fault = refl;
    more = more;
    told = told;
    counts = counts;
    why = λ before text order led.
        let (held, at) = after_all takes.fields led in
        let next = refuses at.ds at.stands in
        record {
          whole = at.ds;
          begun = InTag held;
          told = append-nil before ∙ at.told;
          is_text = ap (λ (t : List ℕ). t ++ more) at.is_text ∙ next.1;
          leads_on = all_for laws.living p at.ds (InTag held) at.stands;
          unfinished = λ sections.
              let nine = ap (λ n. nat_eq n 9) (sections_last laws.last_record at.ds at.stands.fields.alive sections) in
              true≢false (sym nine ∙ sym (ended_by_record p at.ds at.stands.fields) ∙ takes.is_over);
          refuses = next.0;
        };
  }

  pub stopped_field : {a : S} {new : Parts} (f : FieldFault) → h.set < 256 → LayerLemmas → PartsAreBetween false p → goes a [] a
      → ((ds : List Dataset) → HasReadDatasets p.fields ds → IsHeadFault (limits_of p.fields) ds h f)
      → PartsReject goes failures (Some (fault_of_record f)) (p, a) [] (HeadRead h) (new, a)
  stopped_field f small laws takes g is =
      stopped_head (fault_of_record f) [] laws takes g refl
      (λ ds at. (inl (field_head laws.heads_die (limits_of p.fields) ds h f small at.fields.alive (is ds at.fields)), append-nil (text_so_far (object_of ds))))

  module _ (checker : FieldsPlace) (laws : LayerLemmas) (takes : PartsAreBetween false p)
      (inside : (ds : List Dataset) → HasReadDatasets p.fields ds → IsReadingDataset checker ds h []) where
    -- The object rejects it, or the message rejects the end of the object.
    pub stopped_by : {a b : S} {message : Option Place} {new : Parts} (fault : TokenFault)
        → ObjectRejectsHead goes failures p.object h (p.message, a) (message, b) fault
        → IsObjects h.rec → (h.rec ≡ 8 → AllowsSubfile p.object) → PartsReject goes failures (Some fault) (p, a) [] (HeadRead h) (new, b)
    stopped_by {a} {b} {message} fault (inl (bad, passed)) is few =
        stopped_head fault passed.told.0 laws takes passed.told.1
        (subst (λ (f : TokenFault). CountsSinkFailure f.cause (failures a) (failures b)) (sym bad.2) passed.no_failure)
        (λ ds at.
        let alive = (inside ds at.fields).alive in
        let room : h.rec ≡ 8 → length (of_record 8 ds) < max_subfiles = λ eight. few_of p ds at (few eight) in
        let leads = consumes_by laws ds h alive is room in (
          inl (object_head laws.heads_die laws.tokens (limits_of p.fields) ds h fault p.object at.fields.alive alive is room leads at.object bad),
          (same_text laws.texts p.message message (object_of ds) passed.told.0 passed.told.2 at.message).1,
        ))
    stopped_by fault (inr (why, is_fault, token, lives_with, halted)) (inl eight) few =
        absurd (let bad : SubfileBegun h.count ≡ ObjectEnded = sym (ap (λ n. head_token n h.count) eight) ∙ token in cc)
    stopped_by {a} {b} fault (inr (why, is_fault, token, lives_with, halted)) (inr nine) few =
        let same : halted.why ≡ why = sym (same_Some _ _ halted.is_cause) in
        stopped_head fault halted.told.0 laws takes halted.told.1
        (subst (λ (f : TokenFault). CountsSinkFailure f.cause (failures a) (failures b)) (sym is_fault)
        (counts_for why (failures a) (failures b) (subst (wire.SinkCountsMessageCause (failures a) (failures b)) same halted.counts)))
        (λ ds at.
        let alive = (inside ds at.fields).alive in
        let leads = end_reaches laws ds h alive nine in
        let follows = sym (laws.tokens (place_after_datasets ds) (head_token h.rec h.count) leads.0) in
        let lives : ObjectIsViable (place_at ds h) =
        subst ObjectIsViable leads.1 (subst (languages.IsViablePrefix ObjectLanguage) follows (lives_with (place_after_datasets ds) at.object leads.0)) in
        let room = head_within_limits (limits_of p.fields) ds h (inr nine) (λ eight. absurd (omega (arith, eight, nine))) in
        let has = halted.has_cause (object_of ds) (text_so_far (object_of ds)) at.message in
        let next = halted.told.2 (object_of ds) (text_so_far (object_of ds)) at.message in (
          inr (record {
            last = nine;
            leads_on = record { records = alive; within = record { kept = at.fields.within; subfiles = at.few }; room = room; object = lives };
            dies = rw (append-nil (object_of ds)) at has.1;
            is_fault = is_fault ∙ ap (message_fault_on h) (sym same ∙ has.0);
          }),
          laws.texts (object_of ds ++ []) (text_so_far (object_of ds) ++ halted.told.0) next.0 next.1 ∙ ap text_so_far (append-nil (object_of ds)),
        ))

    pub stopped_subfile : {a b : S} {message : Option Place} {new : Parts} → goes a [] a → h.rec ≡ 8 → (fault : TokenFault)
        → RejectsSubfileHead goes failures p.object h (p.message, a) (message, b) fault → PartsReject goes failures (Some fault) (p, a) [] (HeadRead h) (new, b)
    stopped_subfile g eight fault (inl (many, is, same)) =
        rw (same, is) (stopped_head (count_fault_on h) [] laws takes g refl
        (λ ds at.
        let full : max_subfiles ≤ length (of_record 8 ds) = let n = many (place_after_datasets ds) at.object in omega (arith, n, as_many ds) in (
          inl (too_many_head laws.heads_die (limits_of p.fields) ds h (count_fault_on h) at.fields.alive (inside ds at.fields).alive eight full refl),
          append-nil (text_so_far (object_of ds)),
        )))
    stopped_subfile g eight fault (inr (few, bad)) = stopped_by fault bad (inl eight) (λ _. few)
