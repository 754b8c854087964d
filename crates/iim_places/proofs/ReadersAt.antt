-- Readers of a possible position are in the state after octets that reach it.
use Rattle.std.proofs.Common.{◌≡◌, ℕ, ◌+◌, ◌-◌, ◌<◌, ◌≤◌, nat_eq, if◌then◌else◌, Bool, true, false, List, [], ◌++◌, length, Option, Some, None, ap, sym, subst, ◌∙◌, arith}
use Rattle.iim_places.proofs.Words.{AllByRecursion, Dataset, of_record, count_octets, PartialDataset, InTag, ReadsAsDatasets, StoresPartial, ne_eqb, numbers_of_list, between, Head, DatasetPlace, AreViableSections, is_kept, kept, section_after, Limits, head_alive, place_after_datasets, NotEnded, ObjectEnded, Confirmed, place_after, max_subfiles, numbers_of, IsPossible, stated_numbers, State, text_so_far, ReachesSavedState, saved, MessagePlace, object_of, RecordsAreViable, partial_subfile_of, section, object_after, zero_or_one, phase_has_ended, partial_subfiles, LayerLemmas, Numbers, number_list, plain, Phase, PartialTag, AllEnded, phase_of, place_at, CanContinue, CanContinueAt}
use Rattle.iim_places.proofs.{AfterEnd.ended_after, ByLayers.nine_ended, ByLayers.reached_at, ByLayers.ended_place, ByLayers.fewer, SameRecords.SameRecords}
use Rattle.iim_places.proofs.{SamePlace.has_partial, SamePlace.none_present, SameStates.Continues, PlainSizes.possible_at, AtPlaces.live_alive}
use Rattle.iim_fields.specs.States.Standing as records
use Rattle.iim_object.specs.Format.Objects as objects
use Rattle.iim_object.specs.States.Reading as reading
use Rattle.iim_object.specs.States.Reading.{PlaceHasNumbers}
use Rattle.wire_message.specs.States.Reading as wire
use Rattle.wire_message.specs.declared.place.Place.{Place as Message}
use Rattle.wire_message.specs.declared.saved.MessagePart.TheVariants as part
use Rattle.iim_places.specs.{States.Readers.RecordsReaderIsAt, States.Readers.MessageReaderIsAt, States.Readers.has_received_octet, States.Readers.tag_place, Format.Tickets.Place}

-- ---- the records

-- The datasets that determine the state of the record layer, and others of the same position.
pub record Like (es ds : List Dataset) : Type 0 where
  pub kept_are : kept es ≡ kept ds
  pub same : SameRecords es ds

pub like : LayerLemmas → (fields : List Dataset) (numbers : Numbers) (some : ℕ) (ended : Bool) (ds : List Dataset)
    → AllByRecursion (λ (d : Dataset). is_kept d.rec ≡ true) fields
    → number_list numbers ≡ stated_numbers (numbers_of (of_record 7 ds)) → AreViableSections (plain fields numbers (zero_or_one some) [] ended)
    → AreViableSections ds
    → length (of_record 8 ds) ≤ max_subfiles → fields ≡ kept ds
    → some ≡ length (of_record 8 ds) → nat_eq (section_after ds) 9 ≡ ended → Like (plain fields numbers (zero_or_one some) [] ended) ds
like laws fields numbers some ended ds keeps same alive there few fields_are some_are ended_is =
    let c : Continues ds (plain fields numbers (zero_or_one some) [] ended) =
    rw (fields_are, ap numbers_of_list same) (fewer laws ds there few some ended (sym some_are) ended_is) in
    record { kept_are = sym c.fields; same = record { seen = λ r n. sym (c.seen.seen r n) } }

-- ---- the message

-- octets that reach the position after EOT are a complete message
pub ended_reader : LayerLemmas → (reader : Option Message) (place : Place) (o text : List ℕ) → MessageReaderIsAt reader place
    → ReachesSavedState o text place.message
    → place.message.part ≡ part.AfterEnd → wire.IsCompleteMessage reader
ended_reader laws reader place o text stands leads last =
    let (at, is, here) = stands o text leads in
    let one = (laws.one_place o text text at leads.0 here leads.1).1 in
    let ended = ended_after at (ap (λ (m : Message). (saved m).part) one ∙ ap (λ (m : MessagePlace). m.part) leads.2 ∙ last) in
    grind (arith, is, ended)

pub text_led : LayerLemmas → (reader : Option Message) (place : Place) (o text : List ℕ) → MessageReaderIsAt reader place
    → ReachesSavedState o text place.message
    → wire.MessageReaderHasRead reader o (text_so_far o)
text_led laws reader place o text stands leads =
    rw (laws.texts o text leads.0 leads.1) at (stands o text leads)

-- ---- between datasets, or in a tag, or at the end

-- the lemma above with the partial dataset selected by a test
abbrev pub TagPhase : Bool → List ℕ → Phase
TagPhase b held = if b then AllEnded else PartialTag held

pub base_tag : (b : Bool) (section heads : ℕ) (held : List ℕ) (fields : List Dataset) (numbers : Numbers)
    → plain fields numbers (zero_or_one (heads - partial_subfiles section (TagPhase b held))) [] (phase_has_ended (TagPhase b held)) ≡ plain fields numbers
    (zero_or_one heads) [] b
base_tag b section heads held fields numbers = grind arith

pub live_tag : (b : Bool) (section : ℕ) (held : List ℕ) (ds : List Dataset) → RecordsAreViable section (TagPhase b held) ds → AreViableSections ds
live_tag b section held ds live = live_alive section (TagPhase b held) ds live

pub reader_at_tag : (b : Bool) (fields : records.FieldsPlace) (section : ℕ) (held : List ℕ) (ds : List Dataset) → RecordsReaderIsAt fields section
    (TagPhase b held) ds
    → records.HasReadDatasets fields ds
reader_at_tag b fields section held ds stand = grind arith

pub present_tag : (b : Bool) (section : ℕ) (held : List ℕ) (ds : List Dataset) → nat_eq (section_after ds) 9 ≡ b → RecordsAreViable section (TagPhase b held) ds
    → section_after ds ≡ section
present_tag b section held ds ended live = grind arith

pub object_tag : (b : Bool) (reader : Option State) (numbers : List (Option ℕ)) (section taken heads : ℕ) (held : List ℕ) (p q : objects.Place)
    → ((p : objects.Place) → PlaceHasNumbers numbers taken (partial_subfile_of section (TagPhase b held)) heads p
    → IsPossible (object_after section (TagPhase b held) taken p) → reading.ObjectReaderStandsAt reader (object_after section (TagPhase b held) taken p))
    → PlaceHasNumbers numbers taken None heads p → (if b then place_after (place_after p ObjectEnded) (Confirmed taken) else p) ≡ q → IsPossible q
    → reading.ObjectReaderStandsAt reader q
object_tag b reader numbers section taken heads held p q stands at is possible = grind arith

pub ending_tag : LayerLemmas → (limits : Limits) (ds : List Dataset) → CanContinue limits ds → (b : Bool) → nat_eq (section_after ds) 9 ≡ b
    → (if b then place_after (place_after (record (place_after_datasets ds) { ending = NotEnded }) ObjectEnded) (Confirmed (length (object_of ds))) else
    record (place_after_datasets ds) { ending = NotEnded }) ≡ place_after_datasets ds
ending_tag laws limits ds goes true is = ended_place laws ds true is goes.records goes.within.subfiles goes.object
ending_tag laws limits ds goes false is = ended_place laws ds false is goes.records goes.within.subfiles goes.object

pub object_data : LayerLemmas → (limits : Limits) (reader : Option State) (ds : List Dataset) (h : Head) (xs : List ℕ) → CanContinueAt limits ds h
    → nat_eq (section_after ds) 9 ≡ false → length xs < h.count
    → ((p : objects.Place) → PlaceHasNumbers (stated_numbers (numbers_of (of_record 7 ds))) (length (object_of ds ++ (if nat_eq h.rec 8 then xs else [])))
    (if nat_eq h.rec 8 then Some (h.count, h.count - length xs) else None)
    (length (of_record 8 ds) + (if nat_eq h.rec 8 then 1 else 0)) p → IsPossible (if nat_eq h.rec 9 then place_after p ObjectEnded else p)
    → reading.ObjectReaderStandsAt reader (if nat_eq h.rec 9 then place_after p ObjectEnded else p))
    → reading.ObjectReaderStandsAt reader (place_at ds h)
object_data laws limits reader ds h xs goes open' less stands =
    let none = nine_ended laws ds (head_alive ds h goes.records) open' in
    let (p, at, is) = reached_at laws limits ds h xs goes none less in
    let possible = possible_at laws ds h goes.records goes.within.subfiles goes.room.subfiles goes.object in
    subst (reading.ObjectReaderStandsAt reader) is (stands p at (subst IsPossible (sym is) possible))

-- ---- the reader of tags

keeps_tag : (b : Bool) (place : DatasetPlace) (section : ℕ) (held : List ℕ) → b ≡ false → place ≡ tag_place section (TagPhase b held)
    → StoresPartial place (InTag held)
keeps_tag b place section held e is = grind arith

pub keeps : (place : DatasetPlace) (p : List ℕ) (ds : List Dataset) (b : PartialDataset) → ReadsAsDatasets count_octets p ds b → nat_eq (section_after ds) 9
    ≡ false
    → place ≡ tag_place (section ds b) (phase_of ds b) → StoresPartial place b
keeps place p ds b reads open' is = grind (arith, keeps_tag)

-- ---- whether an octet was received

received_tag : (b : Bool) (ds : List Dataset) (held : List ℕ) → b ≡ false → AreViableSections ds
    → has_received_octet (section_after ds) (TagPhase b held) ≡ has_partial ds (InTag held)
received_tag b ds held e alive = grind (arith, none_present, ne_eqb)

pub come : (p : List ℕ) (ds : List Dataset) (b : PartialDataset) → ReadsAsDatasets count_octets p ds b → nat_eq (section_after ds) 9 ≡ false
    → AreViableSections ds
    → has_received_octet (section ds b) (phase_of ds b) ≡ has_partial ds b
come p ds b reads open' alive = grind (arith, received_tag)

pub between_tag : (b : Bool) (place : DatasetPlace) (section : ℕ) → b ≡ true → place ≡ tag_place section (TagPhase b []) → place ≡ between
between_tag b place section e is = grind arith
