-- The router of datasets: the events that it receives, their order, and their effect on its parts
-- and its sink. (Private to proofs.)
use Rattle.std.specs.Prelude.{◌≡◌, ℕ, ◌≤◌, ◌<◌, ◌⊎◌, Bool, true, false, List, [], ◌∷◌, ◌++◌, length, flat_map, fold, Option, Some, IsSome, map, None}
use Rattle.std.proofs.Common.{refl, sym, subst, ◌∙◌, append_assoc, append-nil, ap}
use Rattle.std.proofs.lemmas.List.Concat.{flat_map-append}
use Rattle.std.proofs.lemmas.List.Sums.{fold-append}
use Rattle.iim_object.specs.Format.Objects.{ObjectEvent, ObjectOctet, ObjectEnd, ObjectToken, ObjectEnded, head_token, Place as ObjectPlace, max_subfiles}
use Rattle.iim_object.specs.States.Reading.{RejectsObjectToken, IsViableWithToken}
use Rattle.iim_object.specs.declared.reading.{state.State.State, fault.SizeCause.SizeCause}
use Rattle.iim_object.specs.States.Reading as objects
use Rattle.iim_places.specs.Format.Causes.{size_fault_on, message_fault_on, count_fault_on, IsFaultOfHead, IsFaultOfValue}
use Rattle.iim_places.specs.Format.Open.{object_so_far, AllCanContinue, IsBadEndAt}
use Rattle.iim_places.specs.{Format.Admitted.object_of, declared.fault.TokenFault.TokenFault}
use Rattle.wire_story.specs.Format.Texts as story
use Rattle.wire_story.specs.Format.Texts.{End}
use Rattle.wire_message.specs.Format.{Messages.EndsViableMessage, Messages.text_so_far, Causes.HasMessageCause}
use Rattle.wire_message.specs.States.Reading.{MessageReaderHasRead, PassesStoryToSink, PassesPrefixToSink, SinkCountsMessageCause, IsCompleteMessage, ChunkAdvancesMessage, ReachesMessageState}
use Rattle.wire_message.specs.declared.{place.Place.Place, fault.MessageCause.MessageCause}
use Rattle.wire_message.specs.declared.{fault.MessageCause.TheVariants.Unfinished}
use Rattle.iim_dataset.specs.Format.Datasets.{Dataset, PartialDataset, InTag, InData}
use Rattle.iim_dataset.specs.States.Reading.{DatasetEvent, HeadRead, DataOctet, DatasetEnd, events_of_dataset, emitted_events, SinkIsAfterStep}
use Rattle.iim_dataset.specs.declared.{head.Head.Head, sink.Step.Step}
use Rattle.iim_fields.specs.{Format.Records.AreSections, Format.Records.data_of, States.Standing.reader_capacity}
use Rattle.iim_fields.specs.{States.Standing.current_head, declared.limits.Limits.Limits}
use Rattle.iim_fields.specs.States.Standing as records
use Rattle.wire_message.specs.Format.Causes as wire_format
use Rattle.iim_unpack.specs.States.Unpacking.{AreReachedBy, has_ended, CountsSinkFailure, Parts}
use Rattle.iim_unpack.specs.declared.parts.{message.ToMessage.ToMessage, router.Router.Router}

-- the octet of an event of the object, or none
abbrev pub octets_of : ObjectEvent → List ℕ
octets_of (ObjectOctet b) = b ∷ []
octets_of ObjectEnd = []

abbrev pub is_end : ObjectEvent → Bool
is_end (ObjectOctet b) = false
is_end ObjectEnd = true

-- whether the last event so far is the end; `before` states this before these events
abbrev pub end_is_last : Bool → List ObjectEvent → Bool
end_is_last before events = fold (λ (last : Bool) (event : ObjectEvent). is_end event) before events

-- The event is rejected after these octets for this cause.
abbrev pub EventHasCause : MessageCause → List ℕ → ObjectEvent → Type 0
EventHasCause cause octets (ObjectOctet b) = HasMessageCause cause octets b
EventHasCause cause octets ObjectEnd = (cause ≡ Unfinished) × EndsViableMessage octets End

-- The object reader rejected the token: the layer cannot continue after it in any state of the
-- reader, and the error has the first cause.
abbrev pub IsFaultOfObject : Option State → ObjectToken → Head → TokenFault → Type 0
IsFaultOfObject old token h fault = (cause : SizeCause) × RejectsObjectToken old token cause × (fault ≡ size_fault_on h cause)

-- In every state of the object, one more subfile is allowed.
abbrev pub AllowsSubfile : Option State → Type 0
AllowsSubfile object = (p : ObjectPlace) → objects.ObjectReaderStandsAt object p → length p.lengths < max_subfiles

-- The events are in order: they are a prefix of the events of some complete datasets.
pub record EventsAreInOrder (events : List DatasetEvent) : Type 0 where
  pub later : List DatasetEvent
  pub whole : List Dataset
  pub are : events ++ later ≡ flat_map events_of_dataset whole

-- The event is rejected with this error after complete datasets and a partial one.
abbrev pub IsFaultOfEvent : Limits → List Dataset → PartialDataset → DatasetEvent → TokenFault → Type 0
IsFaultOfEvent limits ds (InTag held) (HeadRead h) fault = IsFaultOfHead limits ds h fault ⊎ IsBadEndAt limits ds h fault
IsFaultOfEvent limits ds (InData h taken) (DataOctet b) fault =
    (h.rec ≡ 8) × ((cause : MessageCause) × wire_format.HasMessageCause cause (object_of ds ++ taken) b × (fault ≡ message_fault_on h cause))
IsFaultOfEvent limits ds (InData h taken) DatasetEnd fault = (h.rec ≡ 8 → ⊥) × IsFaultOfValue ds (data_of h taken) fault
IsFaultOfEvent limits ds begun event fault = ⊥

-- The event is rejected after these events, whose text is `text`.
pub record Refused (limits : Limits) (events : List DatasetEvent) (text : List ℕ) (event : DatasetEvent) (fault : TokenFault) : Type 0 where
  pub whole : List Dataset
  pub begun : PartialDataset
  pub told : events ≡ emitted_events whole begun
  pub is_text : text ≡ text_so_far (object_so_far whole begun)
  pub leads_on : AllCanContinue limits whole begun
  pub unfinished : AreSections whole → ⊥
  pub refuses : IsFaultOfEvent limits whole begun event fault

-- No dataset is in progress. `over` states whether the last dataset has ended.
pub record PartsAreBetween (over : Bool) (parts : Parts) : Type 0 where
  pub fields : records.IsBetweenDatasets parts.fields
  pub object : IsSome parts.object
  pub message : IsSome parts.message
  pub is_over : has_ended parts ≡ over

-- A dataset is in progress, and `left` octets of it remain.
pub record PartsAcceptData (parts : Parts) (left : ℕ) : Type 0 where
  pub head : Head
  pub fields : records.IsInsideDataset parts.fields head left
  pub object : IsSome parts.object
  pub message : IsSome parts.message

-- If the events are in order, they lead the parts from the first state to the second, and add the
-- text `more`.
pub record PartsConsume (old : Parts) (events : List DatasetEvent) (more : List ℕ) (new : Parts) : Type 0 where
  pub limits : records.limits_of new.fields ≡ records.limits_of old.fields
  pub leads : (before : List DatasetEvent) (text : List ℕ) → EventsAreInOrder (before ++ events) → AreReachedBy old before text
      → AreReachedBy new (before ++ events) (text ++ more)

-- The parts consumed a complete dataset with this head and these data, which adds nothing to the
-- text.
abbrev pub ConsumesWhole : Parts → Head → List ℕ → Parts → Type 0
ConsumesWhole old h xs new = PartsConsume old (HeadRead h ∷ (map DataOctet xs ++ DatasetEnd ∷ [])) [] new

-- If the events are in order, the event is rejected after them, and they add the text `more`.
abbrev pub PartsRejectEvent : Parts → List DatasetEvent → List ℕ → DatasetEvent → TokenFault → Type 0
PartsRejectEvent old events more event fault = (before : List DatasetEvent) (text : List ℕ) → EventsAreInOrder ((before ++ events) ++ event ∷ [])
    → AreReachedBy old before text → Refused (records.limits_of old.fields) (before ++ events) (text ++ more) event fault

-- The end of the dataset is rejected by a layer, and not by the sink.
abbrev pub RejectsClose : Parts → TokenFault → Type 0
RejectsClose old fault = ((n : ℕ) → CountsSinkFailure fault.cause n n) × PartsRejectEvent old [] [] DatasetEnd fault

-- The parts accept a head next, or `left` octets of data.
abbrev pub Takes : Parts → Option ℕ → Type 0
Takes parts None = PartsAreBetween false parts
Takes parts (Some left) = PartsAcceptData parts left

abbrev pub RouterAccepts : {S : Type 0} → Router S → Option ℕ → Type 0
RouterAccepts router left = Takes router.parts.now left

abbrev pub RouterHasEnded : {S : Type 0} → Router S → Type 0
RouterHasEnded router = PartsAreBetween true router.parts.now

-- (`goes` relates the values of a sink of stories before and after events; `failures` counts its
-- stops.)
module _ {S : Type 0} (goes : S → List story.StoryEvent → S → Type 0) (failures : S → ℕ) where
  -- The reader consumed the events, and the sink received the text that they add. (The arguments
  -- are reader and sink, before and after.)
  pub record MessageEmits (old : Option Place × S) (events : List ObjectEvent) (new : Option Place × S) : Type 0 where
    pub takes_calls : IsSome new.0
    pub told : PassesStoryToSink goes old.1 old.0 (flat_map octets_of events) new.0 new.1
    pub no_failure : failures new.1 ≡ failures old.1
    pub whole : (before : Bool) → (before ≡ true → IsCompleteMessage old.0) → end_is_last before events ≡ true → IsCompleteMessage new.0

  -- The reader consumed the events and rejected the next one for this cause. The sink received the
  -- text of the events consumed. (The arguments are reader and sink, before and after. The final
  -- state of the reader is not specified.)
  pub record MessageRejects (cause : Option MessageCause)
      (old : Option Place × S) (events : List ObjectEvent) (refused : ObjectEvent) (new : Option Place × S) : Type 0 where
    pub why : MessageCause
    pub is_cause : cause ≡ Some why
    pub told : PassesPrefixToSink goes old.1 old.0 (flat_map octets_of events) new.1
    pub counts : SinkCountsMessageCause (failures old.1) (failures new.1) why
    pub has_cause : (octets text : List ℕ) → MessageReaderHasRead old.0 octets text → EventHasCause why (octets ++ flat_map octets_of events) refused

  -- The object reader rejected the token of the head, and the sink received nothing; or the object
  -- reader accepted the end, but the message reader rejected it. (The arguments are message and
  -- sink, before and after.)
  abbrev pub ObjectRejectsHead : Option State → Head → Option Place × S → Option Place × S → TokenFault → Type 0
  ObjectRejectsHead object h old new fault =
      (IsFaultOfObject object (head_token h.rec h.count) h fault × MessageEmits old [] new)
      ⊎ ((why : MessageCause) × (fault ≡ message_fault_on h why) × (head_token h.rec h.count ≡ ObjectEnded) × IsViableWithToken object (head_token h.rec h.count)
      × MessageRejects (Some why) old [] ObjectEnd new)

  -- In every state of the object, the head begins a subfile over the limit, and the sink received
  -- nothing; or the object or the message rejected the head.
  abbrev pub RejectsSubfileHead : Option State → Head → Option Place × S → Option Place × S → TokenFault → Type 0
  RejectsSubfileHead object h old new fault =
      (((p : ObjectPlace) → objects.ObjectReaderStandsAt object p → max_subfiles ≤ length p.lengths) × (fault ≡ count_fault_on h) × (new.1 ≡ old.1))
      ⊎ (AllowsSubfile object × ObjectRejectsHead object h old new fault)

  -- The relations of the sink that consists of a reader and a sink. Its references still point to
  -- the same values.
  abbrev pub ToMessageConsumes : ToMessage S → List ObjectEvent → ToMessage S → Type 0
  ToMessageConsumes a events b = (a.message.ghost_name ≡ b.message.ghost_name) × (a.sink.ghost_name ≡ b.sink.ghost_name)
      × (IsSome a.message.now → MessageEmits (a.message.now, a.sink.now) events (b.message.now, b.sink.now))

  abbrev pub ToMessageRejects : ToMessage S → List ObjectEvent → ObjectEvent → ToMessage S → Type 0
  ToMessageRejects a events refused b = (a.message.ghost_name ≡ b.message.ghost_name) × (a.sink.ghost_name ≡ b.sink.ghost_name)
      × (IsSome a.message.now → MessageRejects b.cause (a.message.now, a.sink.now) events refused (b.message.now, b.sink.now))

  -- The events lead the parts from the first state to the second, and the sink received the text
  -- that they add. (The arguments are parts and sink, before and after.)
  pub record PartsEmit (old : Parts × S) (events : List DatasetEvent) (new : Parts × S) : Type 0 where
    pub more : List ℕ
    pub leads : PartsConsume old.0 events more new.0
    pub told : goes old.1 (story.delivered more) new.1
    pub no_failure : failures new.1 ≡ failures old.1

  -- The parts consumed the events and rejected the next one. (The arguments are the error, and
  -- parts and sink, before and after. The final state of the parts is not specified.)
  pub record PartsReject (refused : Option TokenFault) (old : Parts × S) (events : List DatasetEvent) (event : DatasetEvent) (new : Parts × S) : Type 0 where
    pub fault : TokenFault
    pub is_fault : refused ≡ Some fault
    pub more : List ℕ
    pub told : goes old.1 (story.delivered more) new.1
    pub counts : CountsSinkFailure fault.cause (failures old.1) (failures new.1)
    pub why : PartsRejectEvent old.0 events more event fault

  abbrev pub RouterSteps : Router S → List DatasetEvent → Router S → Type 0
  RouterSteps a events b = (a.parts.ghost_name ≡ b.parts.ghost_name) × (a.sink.ghost_name ≡ b.sink.ghost_name)
      × PartsEmit (a.parts.now, a.sink.now) events (b.parts.now, b.sink.now) × (reader_capacity b.parts.now.fields ≡ reader_capacity a.parts.now.fields)

  abbrev pub RouterRejects : Router S → List DatasetEvent → DatasetEvent → Router S → Type 0
  RouterRejects a events event b = (a.parts.ghost_name ≡ b.parts.ghost_name) × (a.sink.ghost_name ≡ b.sink.ghost_name)
      × PartsReject b.refused (a.parts.now, a.sink.now) events event (b.parts.now, b.sink.now)
      × (reader_capacity b.parts.now.fields ≡ reader_capacity a.parts.now.fields)

  -- The parts consumed a complete dataset, and accept a head or have ended; or nothing was
  -- consumed. (The arguments are parts and sink, before and after.)
  abbrev pub ConsumedWholeDataset : Parts × S → Head → List ℕ → Parts × S → Option Step → Type 0
  ConsumedWholeDataset old h xs new None = (new.0 ≡ old.0) × (new.1 ≡ old.1)
  ConsumedWholeDataset old h xs new (Some step) =
      PartsEmit old (HeadRead h ∷ (map DataOctet xs ++ DatasetEnd ∷ [])) new × SinkIsAfterStep Takes (PartsAreBetween true) new.0 step

pub leads_on_nil : (old : Option Place) → ChunkAdvancesMessage old [] [] old
leads_on_nil old octets text at = rw (append-nil octets, append-nil text) at

-- If a property holds after some events in each state of the reader, and then after others, it
-- holds after both.
after_both : (p q : Option Place) (xs ys : List ObjectEvent) (added more : List ℕ) (P : List ℕ → List ℕ → Type 0) → ChunkAdvancesMessage p (flat_map octets_of xs) added q
    → ((octets text : List ℕ) → MessageReaderHasRead q octets text → P (octets ++ flat_map octets_of ys) (text ++ more)) → (octets text : List ℕ) → MessageReaderHasRead p octets text
    → P (octets ++ flat_map octets_of (xs ++ ys)) (text ++ (added ++ more))
after_both p q xs ys added more P first then octets text at =
    rw (flat_map-append octets_of xs ys, ← append_assoc octets (flat_map octets_of xs) (flat_map octets_of ys), ← append_assoc text added more)
    (then (octets ++ flat_map octets_of xs) (text ++ added) (first octets text at))

-- A prefix of events in order is in order.
pub in_order_prefix : (xs ys : List DatasetEvent) → EventsAreInOrder (xs ++ ys) → EventsAreInOrder xs
in_order_prefix xs ys order = record { later = ys ++ order.later; whole = order.whole; are = sym (append_assoc xs ys order.later) ∙ order.are }

module _ {S : Type 0} {goes : S → List story.StoryEvent → S → Type 0} {failures : S → ℕ} where
  pub message_emits_nil : {d : Option Place × S} → IsSome d.0 → goes d.1 [] d.1 → MessageEmits goes failures d [] d
  message_emits_nil {d} some g = record { takes_calls = some; told = ([], g, leads_on_nil d.0); no_failure = refl; whole = λ before w e. w e }

  pub parts_emit_nil : {d : Parts × S} → goes d.1 [] d.1 → PartsEmit goes failures d [] d
  parts_emit_nil g =
      record { more = []; leads = record { limits = refl; leads = λ before text _ led. rw (append-nil before, append-nil text) led }; told = g; no_failure = refl }

  -- The effects of events one after another are the effect of their concatenation: lemmas for the
  -- sinks.
  module _ (joined : (a b c : S) (xs ys : List story.StoryEvent) → goes a xs b → goes b ys c → goes a (xs ++ ys) c) where
    pub message_emits_append : {d e f : Option Place × S} {xs ys : List ObjectEvent} → MessageEmits goes failures d xs e → MessageEmits goes failures e ys f
        → MessageEmits goes failures d (xs ++ ys) f
    message_emits_append {d} {e} {f} {xs} {ys} h k = record {
      takes_calls = k.takes_calls;
      told = (
        h.told.0 ++ k.told.0,
        rw (flat_map-append story.events_of_octet h.told.0 k.told.0) (joined d.1 e.1 f.1 _ _ h.told.1 k.told.1),
        after_both d.0 e.0 xs ys h.told.0 k.told.0 (MessageReaderHasRead f.0) h.told.2 k.told.2,
      );
      no_failure = k.no_failure ∙ h.no_failure;
      whole = λ before w is. k.whole _ (h.whole before w) (sym (fold-append _ before xs ys) ∙ is);
    }

    pub message_rejects_append : {cause : Option MessageCause} {d e f : Option Place × S} {xs ys : List ObjectEvent} {refused : ObjectEvent}
        → MessageEmits goes failures d xs e → MessageRejects goes failures cause e ys refused f → MessageRejects goes failures cause d (xs ++ ys) refused f
    message_rejects_append {d = d} {e = e} {f = f} {xs = xs} {ys = ys} {refused = refused} h k = record {
      why = k.why;
      is_cause = k.is_cause;
      told = (
        h.told.0 ++ k.told.0,
        rw (flat_map-append story.events_of_octet h.told.0 k.told.0) (joined d.1 e.1 f.1 _ _ h.told.1 k.told.1),
        after_both d.0 e.0 xs ys h.told.0 k.told.0 (λ octets text. (place : Place) × ReachesMessageState octets text place) h.told.2 k.told.2,
      );
      counts = subst (λ (n : ℕ). SinkCountsMessageCause n (failures f.1) k.why) h.no_failure k.counts;
      has_cause = after_both d.0 e.0 xs ys h.told.0 [] (λ octets text. EventHasCause k.why octets refused) h.told.2 k.has_cause;
    }

    pub parts_emit_append : {d e f : Parts × S} {xs ys : List DatasetEvent} → PartsEmit goes failures d xs e → PartsEmit goes failures e ys f
        → PartsEmit goes failures d (xs ++ ys) f
    parts_emit_append {d} {e} {f} {xs} {ys} h k = record {
      more = h.more ++ k.more;
      leads = record {
        limits = k.leads.limits ∙ h.leads.limits;
        leads = λ before text order led.
            let in_order = (rw (← append_assoc before xs ys) at order) in
            rw (← append_assoc before xs ys, ← append_assoc text h.more k.more)
            (k.leads.leads (before ++ xs) (text ++ h.more) in_order (h.leads.leads before text (in_order_prefix (before ++ xs) ys in_order) led));
      };
      told = rw (flat_map-append story.events_of_octet h.more k.more) (joined d.1 e.1 f.1 _ _ h.told k.told);
      no_failure = k.no_failure ∙ h.no_failure;
    }

    pub parts_reject_append : {refused : Option TokenFault} {d e f : Parts × S} {xs ys : List DatasetEvent} {event : DatasetEvent} → PartsEmit goes failures d xs e
        → PartsReject goes failures refused e ys event f → PartsReject goes failures refused d (xs ++ ys) event f
    parts_reject_append {d = d} {e = e} {f = f} {xs = xs} {ys = ys} {event = event} h k = record {
      fault = k.fault;
      is_fault = k.is_fault;
      more = h.more ++ k.more;
      told = rw (flat_map-append story.events_of_octet h.more k.more) (joined d.1 e.1 f.1 _ _ h.told k.told);
      counts = subst (λ (n : ℕ). CountsSinkFailure k.fault.cause n (failures f.1)) h.no_failure k.counts;
      why = λ before text order led.
          let in_order = (rw (← append_assoc before xs ys) at order) in
          let first = in_order_prefix (before ++ xs) ys (in_order_prefix ((before ++ xs) ++ ys) (event ∷ []) in_order) in
          rw (← append_assoc before xs ys, ← append_assoc text h.more k.more, ← h.leads.limits)
          (k.why (before ++ xs) (text ++ h.more) in_order (h.leads.leads before text first led));
    }

-- Parts whose last dataset has ended accept nothing: no head follows, and no dataset is in
-- progress.
pub ended_parts_accept_nothing : (parts : Parts) (left : Option ℕ) → PartsAreBetween true parts → Takes parts left → ⊥
ended_parts_accept_nothing parts None ended takes = let both : true ≡ false = sym ended.is_over ∙ takes.is_over in cc
ended_parts_accept_nothing parts (Some left) ended takes =
    let both : None ≡ Some takes.head = sym (ap current_head ended.fields.between) ∙ ap current_head takes.fields.head.inside in cc
