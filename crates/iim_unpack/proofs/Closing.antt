-- The state of an unpacker's parts after the end of a dataset, and why that end is rejected. The
-- parts consume a complete dataset, or a subfile is rejected at an octet.
use Rattle.iim_unpack.proofs.Words.{AdmitsDataset, PartsAreAfter, PartsAreBetween, Bool, CountsSinkFailure, DataOctet, Dataset, DatasetEnd, DatasetEvent, FieldFault, FieldsPlace, AllowsSubfile, Head, HeadRead, InData, InTag, IsBetweenDatasets, IsFaultOfObject, IsFaultOfValue, IsValueFault, List, LayerLemmas, MessageCause, MessageRejects, None, NumberRead, Octets, Option, Parts, PartsReject, AreViableSections, AreViableSectionsWithHead, Some, DatasetEncodesNumber, HasReadDatasets, IsReadingDataset, State, SubfileBegun, Takes, MessageEmits, PartsEmit, ConsumesWhole, TokenFault, PartsAreIn, [], ap, append-nil, append_assoc, are_octets, arith, current_head, current_head_of, cond, data_of, eqb-true, events_at, events_of_dataset, false, first_fault, flat_map, get_or, emitted_events, head_of, if◌then◌else◌, inl, inr, is_kept, length, limits_of, map, message_fault_on, nat_eq, ne_eqb, not_all, number, object_of, fault_of_record, option_or, place_after_datasets, place_at, refl, section_of, subst, sym, message_emits_nil, has_number_value, text_so_far, true, true≢false, value_fault, value_token, ℕ, ◌++◌, ◌<◌, ◌∙◌, ◌∷◌, ◌≡◌}
use Rattle.iim_unpack.specs.RouterSteps.{PartsConsume, RejectsClose, ConsumedWholeDataset, parts_reject_append, parts_emit_append}
use Rattle.iim_unpack.specs.States.Unpacking.{has_ended}
use Rattle.iim_fields.proofs.Sections.{last_more}
use Rattle.iim_places.proofs.{Places.number_reaches, Places.silent_reaches, ObjectOctets.few_more, ObjectOctets.object_of_more, Objects.records_alive}
use Rattle.iim_fields.specs.{States.Standing.IsDatasetOf, States.Standing.AcceptedSubfile, Format.Records.encoded_number}
use Rattle.iim_object.specs.States.Reading as objects
use Rattle.iim_unpack.proofs.{Faults.field_value, Faults.object_value, Sequences.all_received, Sequences.end_in_order, Heading.begins_object, Heading.parts_emit_head}
use Rattle.iim_unpack.proofs.Carrying.{HasBegun, after_all, all_for, in_one, stopped_object, parts_emit_object}
use Rattle.iim_unpack.proofs.Intakes.{Joined}
use Rattle.wire_story.specs.Format.Texts as story
use Rattle.std.specs.Prelude.{IsSome, is_none, is_some}
use Rattle.std.proofs.lemmas.Bool.{eqb-false, or_cases}
use Rattle.std.specs.Bool.{then_some}
use Rattle.std.specs.Int.{IsInRange}
use Rattle.iim_dataset.specs.States.Reading.{SinkIsAfterStep}
use Rattle.iim_dataset.specs.declared.sink.Step.{Step}
use Rattle.iim_tables.specs.Format.Kinds.{size_octets}
use Rattle.iim_object.specs.Format.Objects as object_events
use Rattle.iim_object.specs.Format.Objects.{place_ended}
use Rattle.wire_message.specs.States.Reading as wire
use Rattle.wire_message.specs.declared.place.Place.{Place}

-- ---- numbers

-- a value that encodes a number
number_encodes : (d : Dataset) (n : ℕ) → Some n ≡ encoded_number d → (has_number_value d.rec ≡ true) × (n ≡ number d.octets)
number_encodes d n told = grind arith

-- a value that encodes no number
encodes_none : (d : Dataset) → None ≡ encoded_number d → has_number_value d.rec ≡ false
encodes_none d told = grind arith

-- ---- the state after the end

-- The records and the object have accepted the end of the dataset.
abbrev Ends : Parts → List Dataset → Dataset → Type 0
Ends new ds d = HasReadDatasets new.fields (ds ++ d ∷ []) × objects.ObjectReaderStandsAt new.object (place_after_datasets (ds ++ d ∷ []))

-- the end of the dataset takes the parts from one state to the other
abbrev pub ClosesFields : FieldsPlace → FieldsPlace → Option ℕ → Type 0
ClosesFields old new told = (ds : List Dataset) (h : Head) (taken : List ℕ) → IsReadingDataset old ds h taken → (d : Dataset) → IsDatasetOf h taken d
    → HasReadDatasets new (ds ++ d ∷ []) × (told ≡ encoded_number d)

-- the dataset is that of the head
is_of : (ds : List Dataset) (p : Parts) (h : Head) (taken : List ℕ) → PartsAreIn p ds h taken → length taken ≡ h.count
    → IsDatasetOf h (if nat_eq h.rec 8 then [] else taken) (data_of h taken)
is_of ds p h taken at whole =
    record { head = λ i. record { rec = h.rec; set = h.set; count = whole i }; octets = at.octets; given = λ other. rw (ne_eqb h.rec 8 other) refl }

not_subfile : (r : ℕ) → has_number_value r ≡ true → r ≡ 8 → ⊥
not_subfile r tells eight = true≢false (sym tells ∙ ap has_number_value eight)

module _ (laws : LayerLemmas) (p : Parts) (k : Head) (begun : HasBegun p k) where
  closed_by : (new : Parts) → limits_of new.fields ≡ limits_of p.fields → new.message ≡ p.message
      → ((ds : List Dataset) (taken : List ℕ) → PartsAreIn p ds k taken → length taken ≡ k.count → Ends new ds (data_of k taken))
      → PartsConsume p (DatasetEnd ∷ []) [] new
  closed_by new same message ends = record {
    limits = same;
    leads = λ before text order led.
        let (taken, one) = in_one begun led in
        let at = one.stands in
        let d : Dataset = data_of k taken in
        let whole : length taken ≡ k.count = all_received before one.ds k taken one.told order in
        let end = ends one.ds taken at whole in
        record {
          whole = one.ds ++ d ∷ [];
          begun = InTag [];
          told = ap (λ (es : List DatasetEvent). es ++ DatasetEnd ∷ []) one.told ∙ end_in_order one.ds k taken whole;
          stands = record {
            fields = end.0;
            object = end.1;
            few = few_more one.ds d at.few at.room;
            message = rw (message, object_of_more one.ds d) at.message;
            ended = λ nine. rw message (at.ended (sym (last_more 0 one.ds d) ∙ nine));
          };
          is_text = append-nil text ∙ one.is_text ∙ ap text_so_far (sym (object_of_more one.ds d));
        };
  }

  pub closed_number : (new : Parts) (n : ℕ) → limits_of new.fields ≡ limits_of p.fields → ClosesFields p.fields new.fields (Some n)
      → objects.TokenAdvancesObject p.object (value_token k.rec k.set n) new.object → new.message ≡ p.message → PartsConsume p (DatasetEnd ∷ []) [] new
  closed_number new n same closes goes message =
      closed_by new same message
      (λ ds taken at whole.
      let d : Dataset = data_of k taken in
      let both = closes ds k (if nat_eq k.rec 8 then [] else taken) at.fields d (is_of ds p k taken at whole) in
      let tells = number_encodes d n both.1 in
      let leads = number_reaches laws ds d both.0.alive tells.0 in
      let head : head_of d ≡ k = λ i. record { rec = k.rec; set = k.set; count = whole i } in
      let goes_d : objects.TokenAdvancesObject p.object (value_token d.rec d.set (number d.octets)) new.object = rw tells.1 at goes in
      let stands = goes_d (place_at ds (head_of d)) (subst (λ (h : Head). objects.ObjectReaderStandsAt p.object (place_at ds h))
      (sym head) at.object) leads.0 in
      (both.0, subst (objects.ObjectReaderStandsAt new.object) leads.1 stands))

  pub closed_silent : (checker : FieldsPlace) → limits_of checker ≡ limits_of p.fields → ClosesFields p.fields checker None
      → PartsConsume p (DatasetEnd ∷ []) [] (record p { fields = checker })
  closed_silent checker same closes =
      closed_by (record p { fields = checker }) same refl
      (λ ds taken at whole.
      let d : Dataset = data_of k taken in
      let both = closes ds k (if nat_eq k.rec 8 then [] else taken) at.fields d (is_of ds p k taken at whole) in
      let head : head_of d ≡ k = λ i. record { rec = k.rec; set = k.set; count = whole i } in
      let leads = silent_reaches laws ds d both.0.alive (encodes_none d both.1) at.room in (
        both.0,
        subst (objects.ObjectReaderStandsAt p.object) leads (subst (λ (h : Head). objects.ObjectReaderStandsAt p.object (place_at ds h))
            (sym head) at.object),
      ))

  -- ---- refusals

  not_closed_by : (fault : TokenFault) → ((n : ℕ) → CountsSinkFailure fault.cause n n)
      → ((ds : List Dataset) (taken : List ℕ) → PartsAreIn p ds k taken → length taken ≡ k.count → (k.rec ≡ 8 → ⊥) × IsFaultOfValue ds (data_of k taken) fault)
      → RejectsClose p fault
  not_closed_by fault quiet refuses = (
    quiet,
    λ before text order led.
        let (taken, one) = in_one begun led in
        let at = one.stands in
        record {
          whole = one.ds;
          begun = InData k taken;
          told = append-nil before ∙ one.told;
          is_text = append-nil text ∙ one.is_text;
          leads_on = all_for laws.living p one.ds (InData k taken) at;
          unfinished = not_all laws.sections one.ds k at.fields.alive;
          refuses = refuses one.ds taken at (all_received before one.ds k taken one.told (rw (append-nil before) at order));
        },
  )

  pub not_closed_field : (f : FieldFault)
      → ((ds : List Dataset) (h : Head) (taken : List ℕ) → IsReadingDataset p.fields ds h taken → IsValueFault ds (data_of h taken) f) → RejectsClose p
      (fault_of_record f)
  not_closed_field f is =
      not_closed_by (fault_of_record f) (λ m. refl)
      (λ ds taken at whole.
      let given = is ds k (if nat_eq k.rec 8 then [] else taken) at.fields in
      let apart = ne_eqb k.rec 8 given.value in (
        given.value,
        field_value ds (data_of k taken) f (subst (λ (xs : List ℕ). IsValueFault ds (data_of k xs) f) (ap (λ (b : Bool). cond b [] taken) apart)
            given),
      ))

  pub not_closed_number : (checker : FieldsPlace) (n : ℕ) (fault : TokenFault) → ClosesFields p.fields checker (Some n)
      → IsFaultOfObject p.object (value_token k.rec k.set n) k fault → RejectsClose p fault
  not_closed_number checker n fault closes bad =
      not_closed_by fault (λ m. subst (λ (f : TokenFault). CountsSinkFailure f.cause m m) (sym bad.2) refl)
      (λ ds taken at whole.
      let d : Dataset = data_of k taken in
      let both = closes ds k (if nat_eq k.rec 8 then [] else taken) at.fields d (is_of ds p k taken at whole) in
      let tells = number_encodes d n both.1 in
      let head : head_of d ≡ k = λ i. record { rec = k.rec; set = k.set; count = whole i } in (
        not_subfile k.rec tells.0,
        object_value laws.values_die laws.tokens ds d fault p.object at.octets (subst (AreViableSectionsWithHead ds)
            (sym head) at.fields.alive) both.0.alive tells.0
            (number_reaches laws ds d both.0.alive tells.0) (subst (λ (h : Head). objects.ObjectReaderStandsAt p.object (place_at ds h)) (sym head) at.object)
            (subst (λ (h : Head). IsFaultOfObject p.object (value_token d.rec d.set (number d.octets)) h fault) (sym head) (rw tells.1 at bad)),
      ))

-- ---- the sink

module _ {S : Type 0} (goes : S → List story.StoryEvent → S → Type 0) (failures : S → ℕ) where
  -- events that deliver nothing
  pub tells_quietly : (old new : Parts) (events : List DatasetEvent) (a : S) → goes a [] a → PartsConsume old events [] new
      → PartsEmit goes failures (old, a) events (new, a)
  tells_quietly old new events a nothing leads = record { more = []; leads = leads; told = nothing; no_failure = refl }

-- ---- a number

-- octets that were read as a number encode it
pub encodes_number : {h : Head} {xs : List ℕ} {o : Option ℕ} {n : ℕ} → h.count ≡ length xs → (IsSome o → IsInRange 1 size_octets (length xs)) → o ≡ Some n
    → n ≡ number xs → ((i : ℕ) → get_or xs i 0 < 256) → DatasetEncodesNumber xs h n
encodes_number {xs = xs} count some is value fits = record { count = count; few = some (ap is_some is); fit = are_octets xs fits; is = value }

none_if : {X : Type 0} (o : Option X) → is_none o ≡ true → o ≡ None
none_if o e = grind arith

-- they are allowed here
pub admits_if : {f : FieldsPlace} {h : Head} {n : ℕ} {xs : List ℕ} {b : Bool} → DatasetEncodesNumber xs h n
    → ((ds : List Dataset) (ys : List ℕ) → HasReadDatasets f ds → DatasetEncodesNumber ys h n
    → b ≡ is_none (option_or (first_fault (limits_of f) ds h) (value_fault (data_of h ys))))
    → b ≡ true → AdmitsDataset f h xs
admits_if {xs = xs} s exactly is = record { count = s.count; octets = s.fit; no_fault = λ ds t. none_if _ (sym (exactly ds xs t s) ∙ is) }

-- ---- the stored records

-- A stored record is not the object's, and encodes no number.
keeps : (r : ℕ) → is_kept r ≡ true → (nat_eq r 8 ≡ false) × (nat_eq r 9 ≡ false) × (has_number_value r ≡ false)
keeps r kept = elim (or_cases (nat_eq r 1) (nat_eq r 2) kept)
    [ inl one ↦ rw (eqb-true r 1 one) (refl, refl, refl) | inr two ↦ rw (eqb-true r 2 two) (refl, refl, refl) ]

-- ---- the dataset

told_one : (ds : List Dataset) (h : Head) (xs : List ℕ) → h.count ≡ length xs
    → flat_map events_of_dataset ds ++ (HeadRead h ∷ (map DataOctet xs ++ DatasetEnd ∷ [])) ≡ emitted_events (ds ++ data_of h xs ∷ []) (InTag [])
told_one ds h xs count = sym (append_assoc (flat_map events_of_dataset ds) (HeadRead h ∷ map DataOctet xs) (DatasetEnd ∷ [])) ∙ end_in_order ds h xs (sym count)

-- the dataset adds nothing to the object
same_object : (ds : List Dataset) (h : Head) (xs : List ℕ) → nat_eq h.rec 8 ≡ false → object_of (ds ++ data_of h xs ∷ []) ≡ object_of ds
same_object ds h xs eight = rw (object_of_more ds (data_of h xs), eight) (append-nil (object_of ds))

-- The records have consumed a complete dataset with this head and these data.
pub record TookField (p new : Parts) (h : Head) (xs : List ℕ) : Type 0 where
  pub between : IsBetweenDatasets p.fields
  pub count : h.count ≡ length xs
  pub limits : limits_of new.fields ≡ limits_of p.fields
  pub stands : (ds : List Dataset) → HasReadDatasets p.fields ds → HasReadDatasets new.fields (ds ++ data_of h xs ∷ [])
  pub message : new.message ≡ p.message

module _ (laws : LayerLemmas) {p new : Parts} {h : Head} {xs : List ℕ} (t : TookField p new h xs) where
  -- The dataset is not a subfile, and the object is in the state after it.
  encodes_one : nat_eq h.rec 8 ≡ false → (h.rec ≡ 9 → wire.IsCompleteMessage p.message)
      → ((ds : List Dataset) → PartsAreAfter p ds → AreViableSections (ds ++ data_of h xs ∷ [])
      → objects.ObjectReaderStandsAt new.object (place_after_datasets (ds ++ data_of h xs ∷ [])))
      → ConsumesWhole p h xs new
  encodes_one eight whole object = record {
    limits = t.limits;
    leads = λ before text order led.
        let (held, at) = after_all t.between led in
        let d : Dataset = data_of h xs in
        let fields = t.stands at.ds at.stands.fields in
        let same = same_object at.ds h xs eight in
        record {
          whole = at.ds ++ d ∷ [];
          begun = InTag [];
          told = ap (λ (es : List DatasetEvent). es ++ (HeadRead h ∷ (map DataOctet xs ++ DatasetEnd ∷ []))) (at.told ∙ append-nil
              (flat_map events_of_dataset at.ds))
              ∙ told_one at.ds h xs t.count;
          stands = record {
            fields = fields;
            object = object at.ds at.stands fields.alive;
            few = few_more at.ds d at.stands.few (λ is. absurd (eqb-false h.rec 8 eight is));
            message = rw (t.message, same) at.stands.message;
            ended = λ is. rw t.message (whole (sym (last_more 0 at.ds d) ∙ is));
          };
          is_text = append-nil text ∙ at.is_text ∙ ap text_so_far (sym same);
        };
  }

  pub whole_went : is_kept h.rec ≡ true → new.object ≡ p.object → ConsumesWhole p h xs new
  whole_went kept object =
      let (eight, nine, null_sink) = keeps h.rec kept in
      encodes_one eight (λ is. absurd (eqb-false h.rec 9 nine is))
      (λ ds at alive.
      let d : Dataset = data_of h xs in
      let elsewhere : place_at ds (head_of d) ≡ place_after_datasets ds = rw (eight, nine) refl in
      let leads = silent_reaches laws ds d alive null_sink (λ is. absurd (eqb-false h.rec 8 eight is)) in
      rw object (subst (objects.ObjectReaderStandsAt p.object) (sym elsewhere ∙ leads) at.object))

  pub number_went : h.rec ≡ 7 → objects.TokenAdvancesObject p.object (NumberRead h.set (number xs)) new.object → ConsumesWhole p h xs new
  number_went seven leads =
      encodes_one (rw seven refl) (λ is. absurd (omega (arith, seven, is)))
      (λ ds at alive.
      let d : Dataset = data_of h xs in
      let next = laws.numbers_reach_their_place ds d (records_alive (ds ++ d ∷ []) alive) seven in
      subst (objects.ObjectReaderStandsAt new.object) next.1 (leads (place_after_datasets ds) at.object next.0))

  -- the object ends, and its size is confirmed
  pub end_went : h.rec ≡ 9 → objects.ObjectMayEndAs p.object (number xs) new.object → wire.IsCompleteMessage p.message → ConsumesWhole p h xs new
  end_went nine leads whole =
      encodes_one (rw nine refl) (λ _. whole)
      (λ ds at alive.
      let d : Dataset = data_of h xs in
      let next = laws.ends_reach_their_place ds d (records_alive (ds ++ d ∷ []) alive) nine in
      let ended = subst (objects.ObjectReaderStandsAt leads.ended) next.0.1 (leads.at_end (place_after_datasets ds) at.object next.0.0) in
      subst (objects.ObjectReaderStandsAt new.object) next.1.1 (leads.at_number (place_ended ds) ended next.1.0))

-- ---- what is accepted next

-- the envelope has ended
pub end_ends : {p new : Parts} → PartsAreBetween false p → IsBetweenDatasets new.fields → section_of new.fields ≡ 9 → IsSome new.object → new.message
    ≡ p.message
    → PartsAreBetween true new
unfolding has_ended
end_ends {new = new} t between section object message =
    let none : current_head_of new.fields ≡ None = ap current_head between.between in
    record { is_over = rw (section, none) refl; fields = between; object = object; message = rw message t.message }

-- after a dataset before record 9 the parts accept a head
pub takes_next : {new : Parts} (r : ℕ) → nat_eq r 9 ≡ false → IsBetweenDatasets new.fields → section_of new.fields ≡ r → IsSome new.object → IsSome new.message
    → PartsAreBetween false new
unfolding has_ended
takes_next r nine between section object message = record { fields = between; object = object; message = message; is_over = rw (section, nine) refl }

pub takes_either : {p new : Parts} (r : ℕ) (b : Bool) → PartsAreBetween false p → (b ≡ true → is_kept r ≡ true) → IsBetweenDatasets new.fields
    → (b ≡ true → section_of new.fields ≡ r) → (b ≡ false → new.fields ≡ p.fields) → new.object ≡ p.object → new.message ≡ p.message → PartsAreBetween false new
unfolding has_ended
takes_either r true t kept between section left object message =
    takes_next r (keeps r (kept refl)).1 between (section refl) (rw object t.object) (rw message t.message)
takes_either r false t kept between section left object message =
    record { fields = between; object = rw object t.object; message = rw message t.message; is_over = rw (left refl) t.is_over }

-- The records, whose reader is then within the subfile, and the object have accepted the head of a
-- subfile.
pub record Entered (p : Parts) (h : Head) (fields : FieldsPlace) (object : Option State) : Type 0 where
  pub eight : h.rec ≡ 8
  pub takes : PartsAreBetween false p
  pub passes : AcceptedSubfile p.fields h fields
  pub leads : objects.TokenAdvancesObject p.object (SubfileBegun h.count) object
  pub few : AllowsSubfile p.object

-- ---- subfiles

module _ {S : Type 0} {goes : S → List story.StoryEvent → S → Type 0} {failures : S → ℕ} (nothing : (a : S) → goes a [] a) (joined : Joined goes)
    (laws : LayerLemmas) (p : Parts) (h : Head) (fields : FieldsPlace) (object : Option State) (e : Entered p h fields object) where
  parts_emit_in : (a : S) → PartsEmit goes failures (p, a) (HeadRead h ∷ []) (record { fields = e.passes.inside; object = object; message = p.message }, a)
  parts_emit_in a =
      let passed : MessageEmits goes failures (p.message, a) (events_at h.rec) (p.message, a) = rw e.eight
      (message_emits_nil e.takes.message (nothing a)) in
      parts_emit_head p h passed.told.0 e.takes e.passes.limits passed.told.1 passed.no_failure
      (λ ds at. begins_object p h laws ds e.passes.inside (inl e.eight) (λ _. e.few) at (e.passes.begins ds at.fields) (rw e.eight e.leads) passed)

  pub subfile_went : {a b : S} (xs : List ℕ) {message : Option Place} → Octets xs → limits_of fields ≡ limits_of p.fields
      → MessageEmits goes failures (p.message, a) (map object_events.ObjectOctet xs) (message, b)
      → PartsEmit goes failures (p, a) (HeadRead h ∷ (map DataOctet xs ++ DatasetEnd ∷ [])) (record { fields = fields; object = object; message = message }, b)
  subfile_went {a} {b} xs {message} octets limits passed =
      let p1 : Parts = record { fields = e.passes.inside; object = object; message = p.message } in
      let p2 : Parts = record { fields = e.passes.inside; object = object; message = message } in
      let p3 : Parts = record { fields = fields; object = object; message = message } in
      let run : PartsEmit goes failures (p1, a) (map DataOctet xs) (p2, b) = parts_emit_object p1 h e.passes.head xs laws e.eight octets passed in
      let end : PartsEmit goes failures (p2, b) (DatasetEnd ∷ []) (p3, b) =
      tells_quietly goes failures p2 p3 (DatasetEnd ∷ []) b (nothing b)
      (closed_silent laws p2 h e.passes.head fields (limits ∙ sym e.passes.limits) e.passes.closes) in
      parts_emit_append joined (parts_emit_in a) (parts_emit_append joined run end)

  pub subfile_stopped : {a b : S} (front : List ℕ) (octet : ℕ) (cause : MessageCause) {message : Option Place} {new : Parts}
      → MessageRejects goes failures (Some cause) (p.message, a) (map object_events.ObjectOctet front) (object_events.ObjectOctet octet) (message, b)
      → PartsReject goes failures (Some (message_fault_on h cause)) (p, a) (HeadRead h ∷ map DataOctet front) (DataOctet octet) (new, b)
  subfile_stopped {a} front octet cause halted =
      let p1 : Parts = record { fields = e.passes.inside; object = object; message = p.message } in
      parts_reject_append joined (parts_emit_in a) (stopped_object p1 h e.passes.head front octet cause laws e.eight halted)

-- ---- the result

-- a dataset that was consumed, or not
pub answered : {S : Type 0} (goes : S → List story.StoryEvent → S → Type 0) (failures : S → ℕ) → ((a : S) → goes a [] a)
    → (old new : Parts) (a : S) (h : Head) (xs : List ℕ)
    (b : Bool) (step : Step) (o : Option Step) → o ≡ then_some b step → (b ≡ true → ConsumesWhole old h xs new) → (b ≡ false → new ≡ old)
    → (b ≡ true → SinkIsAfterStep Takes (PartsAreBetween true) new step) → ConsumedWholeDataset goes failures (old, a) h xs (new, a) o
answered goes failures nothing old new a h xs true step o is went left after =
    rw is (tells_quietly goes failures old new (HeadRead h ∷ (map DataOctet xs ++ DatasetEnd ∷ [])) a (nothing a) (went refl), after refl)
answered goes failures nothing old new a h xs false step o is went left after = rw is (left refl, refl)
