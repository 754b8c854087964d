-- Octets, or the end, as input of the message reader, and the object's rejection of a head. The
-- state of an unpacker's parts after heads, data and ends of datasets.
use Rattle.iim_unpack.proofs.Words.{AllCanContinue, AreReachedBy, PartialDataset, Bool, CanContinueAt, CountsSinkFailure, DataOctet, Dataset, DatasetEvent, FieldsPlace, Head, InData, InTag, IsBetweenDatasets, IsSome, Limits, List, LayerLemmas, CanContinueIn, MessageCause, MessageRejects, None, Octets, Option, Parts, PartsReject, Some, PartsAreAt, IsReadingDataset, MessageEmits, PartsEmit, TextsAreBetweenStxAndEtx, PartsAreIn, [], ap, append-nil, append_assoc, arith, current_head, current_head_of, cond, eqb-true, false, flat_map, emitted_events, if◌then◌else◌, length, limits_of, map, message_fault_on, nat_eq, ne_eqb, not_all, object_of, object_so_far, octets_of, refl, same_Some, section, subst, sym, message_emits_nil, text_so_far, true, ℕ, ◌++◌, ◌==◌, ◌∙◌, ◌∷◌, ◌≡◌}
use Rattle.wire_message.specs.{Laws.ReadersConsumeViableOctets, Format.Causes.HasMessageCause}
use Rattle.wire_message.specs.Format.Messages.{EndsViableMessage, MessageLanguage, IsViableMessage, HasViableStory}
use Rattle.wire_message.specs.States.Reading.{SinkCountsMessageCause, ReachesSomeState, IsCompleteMessage, ChunkAdvancesMessage, MessageReaderHasRead, MessageReaderConsumes, ReachesMessageState}
use Rattle.wire_story.specs.Format.Texts.{End, Octet, with_end}
use Rattle.iim_unpack.specs.RouterSteps.{end_is_last, leads_on_nil}
use Rattle.std.proofs.lemmas.List.{nil_from_length}
use Rattle.iim_object.specs.{Format.Objects.ObjectEnd, Format.Objects.ObjectOctet}
use Rattle.wire_message.specs.declared.place.Place.{Place}
use Rattle.wire_message.specs.declared.fault.MessageCause.TheVariants.{Unfinished}
use Rattle.wire_story.specs.Format.Texts as story
use Rattle.iim_dataset.specs.Format.Octets as languages
use Rattle.iim_dataset.proofs.OctetLists.{octets_append}
use Rattle.iim_object.specs.Format.Objects as object_events
use Rattle.wire_message.specs.States.Reading as wire
use Rattle.wire_message.specs.Format.Causes as wire_format
use Rattle.wire_message.specs.declared.fault.MessageCause.TheVariants as messages
use Rattle.iim_places.specs.declared.refusal.Cause.TheVariants as causes
use Rattle.iim_unpack.proofs.Sequences.{data_more}
use Rattle.iim_places.proofs.ObjectOctets.{lives_whole}

pub octets_consumed : (xs : List ℕ) → flat_map octets_of (map ObjectOctet xs) ≡ xs
octets_consumed [] = refl
octets_consumed (x ∷ xs) = ap (λ zs. x ∷ zs) (octets_consumed xs)

not_ended : (xs : List ℕ) → end_is_last false (map ObjectOctet xs) ≡ false
not_ended [] = refl
not_ended (x ∷ xs) = not_ended xs

module _ {S : Type 0} (goes : S → List story.StoryEvent → S → Type 0) (failures : S → ℕ) where
  -- one non-empty slice of octets
  pub message_emits_octets : (old new : Option Place) (a b : S) (run : List ℕ) → false ≡ (length run == 0) → IsSome new
      → MessageReaderConsumes goes failures old run new a b → MessageEmits goes failures (old, a) (map ObjectOctet run) (new, b)
  message_emits_octets old new a b [] some takes t = absurd cc
  message_emits_octets old new a b (x ∷ xs) some takes t = record {
    takes_calls = takes;
    told = (t.told.0, t.told.1, subst (λ (o : List ℕ). ChunkAdvancesMessage old o t.told.0 new) (sym (octets_consumed (x ∷ xs))) t.told.2);
    no_failure = t.no_failure;
    whole = λ before w e. let bad : true ≡ false = sym e ∙ not_ended xs in cc;
  }

  pub message_emits_end : (old : Option Place) (a : S) → IsSome old → goes a [] a → IsCompleteMessage old → MessageEmits goes failures (old, a) (ObjectEnd ∷ [])
      (old, a)
  message_emits_end old a some g whole = record { takes_calls = some; told = ([], g, leads_on_nil old); no_failure = refl; whole = λ before w e. whole }

  pub message_refuses_octet : (old new : Option Place) (a b : S) (front : List ℕ) (octet : ℕ) (why : MessageCause) (more : List ℕ)
      → goes a (story.delivered more) b → SinkCountsMessageCause (failures a) (failures b) why → ReachesSomeState old front more
      → ((octets text : List ℕ) → MessageReaderHasRead old octets text → HasMessageCause why (octets ++ front) octet)
      → MessageRejects goes failures (Some why) (old, a) (map ObjectOctet front) (ObjectOctet octet) (new, b)
  message_refuses_octet old new a b front octet why more told counts leads has = record {
    why = why;
    is_cause = refl;
    told = (more, told, subst (λ (o : List ℕ). ReachesSomeState old o more) (sym (octets_consumed front)) leads);
    counts = counts;
    has_cause = rw (octets_consumed front) has;
  }

  -- the end, where no message ends
  pub message_refuses_end : (old new : Option Place) (a : S) (why : MessageCause) → IsSome old → why ≡ Unfinished → goes a [] a
      → ((octets text : List ℕ) → MessageReaderHasRead old octets text → EndsViableMessage octets End) → MessageRejects goes failures (Some why)
      (old, a) [] ObjectEnd (new, a)
  message_refuses_end old new a why some is g dies = record {
    why = why;
    is_cause = refl;
    told = ([], g, λ octets text at. let next = leads_on_nil old octets text at in (next.0, next.2));
    counts = subst (λ (c : MessageCause). SinkCountsMessageCause (failures a) (failures a) c) (sym is) refl;
    has_cause = λ octets text at. (is, rw (append-nil octets) (dies octets text at));
  }

  -- an empty slice
  pub message_emits_empty : (old : Option Place) (a : S) (run : List ℕ) → true ≡ (length run == 0) → IsSome old → goes a [] a
      → MessageEmits goes failures (old, a) (map ObjectOctet run) (old, a)
  message_emits_empty old a run none some g = rw (nil_from_length run (eqb-true (length run) 0 (sym none))) (message_emits_nil some g)

-- ---- the reader of the message

pub passes_on : TextsAreBetweenStxAndEtx → (old new : Option Place) (o piece more : List ℕ) → wire.ChunkAdvancesMessage old piece more new
    → wire.MessageReaderHasRead old o (text_so_far o)
    → wire.MessageReaderHasRead new (o ++ piece) (text_so_far (o ++ piece)) × (text_so_far o ++ more ≡ text_so_far (o ++ piece))
passes_on texts old new o piece more goes at =
    let next = goes o (text_so_far o) at in
    let same = texts (o ++ piece) (text_so_far o ++ more) next.0 next.2 in
    (subst (wire.MessageReaderHasRead new (o ++ piece)) same next, same)

-- ---- the states of the parts

-- The parts have consumed the events, up to complete datasets and this partial one, with this text.
pub record LedTo (p : Parts) (begun : PartialDataset) (events : List DatasetEvent) (text : List ℕ) : Type 0 where
  pub ds : List Dataset
  pub stands : PartsAreAt p ds begun
  pub told : events ≡ emitted_events ds begun
  pub is_text : text ≡ text_so_far (object_so_far ds begun)

-- The dataset of this head is partial.
abbrev pub HasBegun : Parts → Head → Type 0
HasBegun p h = current_head_of p.fields ≡ Some h

not_both : (p : Parts) (h : Head) → IsBetweenDatasets p.fields → HasBegun p h → ⊥
not_both p h between begun = let bad : None ≡ Some h = sym (ap current_head between.between) ∙ begun in cc

pub in_one : {p : Parts} {k : Head} {events : List DatasetEvent} {text : List ℕ} → HasBegun p k → AreReachedBy p events text
    → (taken : List ℕ) × LedTo p (InData k taken) events text
in_one {p} {k} {events} {text} begun led = by led.begun led.stands led.told led.is_text
  where
    by : (b : PartialDataset) → PartsAreAt p led.whole b → events ≡ emitted_events led.whole b → text ≡ text_so_far (object_so_far led.whole b)
        → (taken : List ℕ) × LedTo p (InData k taken) events text
    by (InTag held) stands told is = absurd (not_both p k stands.fields.between begun)
    by (InData h taken) stands told is =
        let same : h ≡ k = same_Some _ _ (sym (ap current_head stands.fields.inside.1.head.inside) ∙ begun) in
        (taken, subst (λ (x : Head). LedTo p (InData x taken) events text) same (record { ds = led.whole; stands = stands; told = told; is_text = is }))

pub after_all : {p : Parts} {events : List DatasetEvent} {text : List ℕ} → IsBetweenDatasets p.fields → AreReachedBy p events text
    → (held : List ℕ) × LedTo p (InTag held) events text
after_all {p} {events} {text} between led = by led.begun led.stands led.told led.is_text
  where
    by : (b : PartialDataset) → PartsAreAt p led.whole b → events ≡ emitted_events led.whole b → text ≡ text_so_far (object_so_far led.whole b)
        → (held : List ℕ) × LedTo p (InTag held) events text
    by (InTag held) stands told is = (held, record { ds = led.whole; stands = stands; told = told; is_text = is })
    by (InData h taken) stands told is = absurd (not_both p h between (ap current_head stands.fields.inside.1.head.inside))

-- ---- every layer can continue

goes_within : (p : Parts) (ds : List Dataset) (h : Head) (taken : List ℕ) → PartsAreIn p ds h taken → CanContinueAt (limits_of p.fields) ds h
goes_within p ds h taken at = record {
  records = at.fields.alive;
  within = record { kept = at.fields.others; subfiles = at.few };
  room = record { kept = at.fields.within; subfiles = at.room };
  object = at.object.alive;
}

-- octets after which a message can continue, before its end
lives_on : (o : List ℕ) (b : Bool) → b ≡ false → IsViableMessage o → languages.IsViablePrefix MessageLanguage (map Octet o ++ (if b then End ∷ [] else []))
lives_on o b is lives = rw is (subst (languages.IsViablePrefix MessageLanguage) (sym (append-nil (map Octet o))) lives)

is_language : (reader : Option Place) (o text : List ℕ) → wire.IsCompleteMessage reader → wire.MessageReaderHasRead reader o text → MessageLanguage (with_end o)
is_language reader o text whole at =
    let (head, is, message, lines) = whole o text at in
    record { object = o; head = head; text = text; trailer = wire.trailer_read reader; message = message; tokens_are = refl }

all_by : ReadersConsumeViableOctets → (limits : Limits) (ds : List Dataset) (begun : PartialDataset) (reader : Option Place) (text : List ℕ)
    → wire.MessageReaderHasRead reader (object_so_far ds begun) text → (section ds begun ≡ 9 → wire.IsCompleteMessage reader) → CanContinueIn limits ds begun
    → AllCanContinue limits ds begun
all_by living limits ds begun reader text at whole sizes =
    let both = living (object_so_far ds begun) text at.0 at.2 in
    record {
      sizes = sizes;
      message = lives_whole (object_so_far ds begun) (nat_eq (section ds begun) 9) both.0
          (λ is. is_language reader (object_so_far ds begun) text (whole (eqb-true (section ds begun) 9 is)) at);
      story = both.1;
    }

pub all_for : ReadersConsumeViableOctets → (p : Parts) (ds : List Dataset) (b : PartialDataset) → PartsAreAt p ds b → AllCanContinue (limits_of p.fields) ds b
all_for living p ds (InTag held) at =
    all_by living (limits_of p.fields) ds (InTag held) p.message (text_so_far (object_of ds)) at.message at.ended
    (record { records = at.fields.alive; within = record { kept = at.fields.within; subfiles = at.few }; object = at.object.alive })
all_for living p ds (InData h taken) at =
    all_by living (limits_of p.fields) ds (InData h taken) p.message (text_so_far (object_so_far ds (InData h taken))) at.message at.ended
    (goes_within p ds h taken at)

pub counts_for : (cause : MessageCause) (m n : ℕ) → wire.SinkCountsMessageCause m n cause → CountsSinkFailure (causes.Message cause) m n
counts_for messages.BadOctet m n h = h
counts_for other m n h = h

-- the object, with more octets of a subfile
object_more : (ds : List Dataset) (h : Head) (taken run : List ℕ) → h.rec ≡ 8
    → object_so_far ds (InData h taken) ++ run ≡ object_so_far ds (InData h (taken ++ run))
object_more ds h taken run eight = rw eight (append_assoc (object_of ds) taken run)

module _ {S : Type 0} {goes : S → List story.StoryEvent → S → Type 0} {failures : S → ℕ} (p : Parts) (k : Head) (begun : HasBegun p k) where
  -- ---- data of other datasets than subfiles

  pub parts_emit_other : {a : S} (run : List ℕ) (checker : FieldsPlace) → (k.rec ≡ 8 → ⊥) → Octets run → goes a [] a → limits_of checker ≡ limits_of p.fields
      → ((ds : List Dataset) (h : Head) (taken : List ℕ) → IsReadingDataset p.fields ds h taken → IsReadingDataset checker ds h (taken ++ run))
      → PartsEmit goes failures (p, a) (map DataOctet run) (record p { fields = checker }, a)
  parts_emit_other run checker other octets g same stands = record {
    more = [];
    told = g;
    no_failure = refl;
    leads = record {
      limits = same;
      leads = λ before text order led.
          let (taken, one) = in_one begun led in
          let no : nat_eq k.rec 8 ≡ false = ne_eqb k.rec 8 other in
          let same_given : (xs : List ℕ) → (if nat_eq k.rec 8 then [] else xs) ≡ xs = λ xs. rw no refl in
          let given = subst (IsReadingDataset p.fields one.ds k) (same_given taken) one.stands.fields in
          let same_object : object_so_far one.ds (InData k taken) ≡ object_so_far one.ds (InData k (taken ++ run)) = rw no refl in
          record {
            whole = one.ds;
            begun = InData k (taken ++ run);
            told = ap (λ (es : List DatasetEvent). es ++ map DataOctet run) one.told ∙ data_more one.ds k taken run;
            stands = record {
              octets = octets_append taken run one.stands.octets octets;
              fields = subst (IsReadingDataset checker one.ds k) (sym (same_given (taken ++ run))) (stands one.ds k taken given);
              object = one.stands.object;
              few = one.stands.few;
              room = one.stands.room;
              message = subst (λ (o : List ℕ). wire.MessageReaderHasRead p.message o (text_so_far o)) same_object one.stands.message;
              ended = one.stands.ended;
            };
            is_text = append-nil text ∙ one.is_text ∙ ap text_so_far same_object;
          };
    };
  }

  -- ---- data of subfiles

  pub parts_emit_object : {a b : S} (run : List ℕ) {message : Option Place} → LayerLemmas → k.rec ≡ 8 → Octets run
      → MessageEmits goes failures (p.message, a) (map object_events.ObjectOctet run) (message, b)
      → PartsEmit goes failures (p, a) (map DataOctet run) (record p { message = message }, b)
  parts_emit_object run {message} laws eight octets passed = record {
    more = passed.told.0;
    told = passed.told.1;
    no_failure = passed.no_failure;
    leads = record {
      limits = refl;
      leads = λ before text order led.
          let (taken, one) = in_one begun led in
          let at = one.stands in
          let o : List ℕ = object_so_far one.ds (InData k taken) in
          let next = passes_on laws.texts p.message message o run passed.told.0 (rw (octets_consumed run) at passed.told.2) at.message in
          let longer = object_more one.ds k taken run eight in
          let nothing : (xs : List ℕ) → (if nat_eq k.rec 8 then [] else xs) ≡ [] = λ xs. rw eight refl in
          record {
            whole = one.ds;
            begun = InData k (taken ++ run);
            told = ap (λ (es : List DatasetEvent). es ++ map DataOctet run) one.told ∙ data_more one.ds k taken run;
            stands = record {
              octets = octets_append taken run at.octets octets;
              fields = subst (IsReadingDataset p.fields one.ds k) (nothing taken ∙ sym (nothing (taken ++ run))) at.fields;
              object = at.object;
              few = at.few;
              room = at.room;
              message = subst (λ (x : List ℕ). wire.MessageReaderHasRead message x (text_so_far x)) longer next.0;
              ended = λ nine. absurd (omega (arith, eight, nine));
            };
            is_text = ap (λ (t : List ℕ). t ++ passed.told.0) one.is_text ∙ next.1 ∙ ap text_so_far longer;
          };
    };
  }

  pub stopped_object : {a b : S} (front : List ℕ) (octet : ℕ) (cause : MessageCause) {message : Option Place} {new : Parts} → LayerLemmas → k.rec ≡ 8
      → MessageRejects goes failures (Some cause) (p.message, a) (map object_events.ObjectOctet front) (object_events.ObjectOctet octet) (message, b)
      → PartsReject goes failures (Some (message_fault_on k cause)) (p, a) (map DataOctet front) (DataOctet octet) (new, b)
  stopped_object {a} {b} front octet cause laws eight halted =
      let same : halted.why ≡ cause = sym (same_Some _ _ halted.is_cause) in
      record {
        fault = message_fault_on k cause;
        is_fault = refl;
        more = halted.told.0;
        told = halted.told.1;
        counts = counts_for cause (failures a) (failures b) (subst (wire.SinkCountsMessageCause (failures a) (failures b)) same halted.counts);
        why = λ before text order led.
            let (taken, one) = in_one begun led in
            let at = one.stands in
            let o : List ℕ = object_so_far one.ds (InData k taken) in
            let t : List ℕ = text_so_far o in
            let longer = object_more one.ds k taken front eight in
            let next = halted.told.2 o t at.message in
            let led_to : ReachesMessageState (o ++ front) (t ++ halted.told.0) next.0 = rw (octets_consumed front) at next.1 in
            let both = laws.living (o ++ front) (t ++ halted.told.0) next.0 led_to in
            let has : wire_format.HasMessageCause halted.why (o ++ front) octet = rw (octets_consumed front) at (halted.has_cause o t at.message) in
            let yes : nat_eq k.rec 8 ≡ true = rw eight refl in
            let in_full = ap (λ (b : Bool). object_of one.ds ++ cond b (taken ++ front) []) yes in
            let not_nine : nat_eq k.rec 9 ≡ false = rw eight refl in
            record {
              whole = one.ds;
              begun = InData k (taken ++ front);
              told = ap (λ (es : List DatasetEvent). es ++ map DataOctet front) one.told ∙ data_more one.ds k taken front;
              is_text = ap (λ (x : List ℕ). x ++ halted.told.0) one.is_text ∙ laws.texts (o ++ front) (t ++ halted.told.0) next.0 led_to ∙ ap text_so_far
                  longer;
              leads_on = record {
                sizes = goes_within p one.ds k taken at;
                message = lives_on (object_so_far one.ds (InData k (taken ++ front))) (nat_eq k.rec 9) not_nine (subst IsViableMessage longer both.0);
                story = subst HasViableStory longer both.1;
              };
              unfinished = not_all laws.sections one.ds k at.fields.alive;
              refuses = (
                eight,
                (
                  cause,
                  subst (λ (c : MessageCause). wire_format.HasMessageCause c (object_of one.ds ++ (taken ++ front)) octet) same
                      (subst (λ (x : List ℕ). wire_format.HasMessageCause halted.why x octet) (longer ∙ in_full) has),
                  refl,
                ),
              );
            };
      }
