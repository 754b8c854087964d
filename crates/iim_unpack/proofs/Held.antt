-- An unpacker stores few octets and entries. The ticket written for an unpacker is that of its
-- position; its length.
use Rattle.iim_unpack.proofs.Words.{PartialDataset, Dataset, DatasetPlace, EventsDetermineTheDatasets, Head, StoresFew, InData, InTag, Inside, IsDoneWith, StoresPartial, IsReachedBy, IsTicketOf, ReachesSavedState, List, MessagePlace, Option, Parts, Place, ReadsAsDatasets, Some, HasRead, HasReadDatasets, PartsAreAt, IsReadingDataset, IsReachable, Tag, Unpacking, [], ap, arith, current_head, current_head_of, cases_Bool, count_octets, count_of, false, has_ended, if◌then◌else◌, inl, inr, is_kept, kept, length, limits_in, nat_eq, numbers_of, object_of, object_so_far, of_record, place_after_datasets, place_at, place_of, present_version, refl, section, section_after, stated_numbers, subst, sym, ℕ, ◌*◌, ◌+◌, ◌-◌, ◌<◌, ◌∙◌, ◌≡◌, ◌≤◌, ◌⊎◌}
use Rattle.iim_fields.specs.Format.Causes.{joined}
use Rattle.iim_places.proofs.{Bounds.is_one, Tickets.heads_by, Tickets.message_at, Tickets.stated_by, Tickets.taken_by, Tickets.total_of}
use Rattle.iim_places.proofs.TicketLengths.{AreShortIn, data_length, held_length, none_taken, numbers_length, rest_length, some_taken, tag_begun_length, texts_at, texts_short}
use Rattle.iim_dataset.specs.declared.place.DatasetPlace.TheVariants as tags
use Rattle.wire_message.specs.States.Reading as wire
use Rattle.wire_message.specs.States.Reading.{saved, IsMessageState}
use Rattle.wire_message.specs.declared.place.Place.{Place as Message}
use Rattle.wire_message.specs.declared.place.Place.TheVariants as at
use Rattle.iim_unpack.specs.States.Unpacking.{partial_entries, buffered_message, pending_returns, tag_held}
use Rattle.iim_unpack.specs.Steps.{IsEncoded, phase_in}
use Rattle.iim_unpack.proofs.Sequences.{ended_by_record, reached_of, reached, unended_inside}
use Rattle.iim_places.specs.Format.Tickets.{heads_of, phase_octets, phase_of, ticket_of}

-- ---- the message

few_returns : (place : Message) → IsMessageState place → pending_returns place ≤ 2
few_returns (at.Text h' (Some held)) (k, (m, is, few)) = let same : held ≡ m = cc in omega (arith, same, few)
few_returns other h = omega arith

few_of_message : (reader : Option Message) (octets text : List ℕ) → wire.MessageReaderHasRead reader octets text → buffered_message reader ≤ 161
few_of_message reader octets text (place, is, leads) =
    let short : AreShortIn (saved place) = texts_at place leads.is_place in
    let returns = few_returns place leads.is_place in
    let all : buffered_message (Some place) ≤ 161 =
    omega (arith, short.source, short.number, short.priority, short.category, short.words, short.info, short.trailer, returns) in
    subst (λ (o : Option Message). buffered_message o ≤ 161) (sym is) all

-- ---- the tag

few_of_tag : (place : DatasetPlace) (begun : PartialDataset) (p : List ℕ) (ds : List Dataset) → StoresPartial place begun
    → ReadsAsDatasets count_octets p ds begun
    → tag_held place ≤ 12
few_of_tag (tags.Tag held) (InTag octets) p ds keeps reads = let few = held_length p ds octets reads in omega (arith, few, ap length keeps)
few_of_tag (tags.Tag held) (InData h taken) p ds keeps reads = absurd keeps
few_of_tag (tags.Inside head left) begun p ds keeps reads = omega arith

-- ---- the records

-- what the records store
record FewFields (parts : Parts) : Type 0 where
  octets : length (joined parts.fields.kept) + length parts.fields.taken ≤ parts.fields.limits.octets + 8
  entries : length parts.fields.kept + partial_entries (current_head_of parts.fields) ≤ parts.fields.limits.fields

few_after : (parts : Parts) (ds : List Dataset) → HasReadDatasets parts.fields ds → FewFields parts
few_after parts ds at' =
    let none : partial_entries (current_head_of parts.fields) ≡ 0 = ap partial_entries (ap current_head at'.between.between) in
    let octets = ap (λ (xs : List Dataset). length (joined xs)) at'.kept_are in
    let entries = ap length at'.kept_are in
    let nothing = ap length at'.taken_are in
    record { octets = omega (arith, octets, nothing, at'.within.octets_in); entries = omega (arith, none, entries, at'.within.fields_in) }

few_entries : (parts : Parts) (ds : List Dataset) (h : Head) (taken : List ℕ) → IsReadingDataset parts.fields ds h (if nat_eq h.rec 8 then [] else taken)
    → length parts.fields.kept + partial_entries (current_head_of parts.fields) ≤ parts.fields.limits.fields
few_entries parts ds h taken at' =
    let one : partial_entries (current_head_of parts.fields) ≡ (if is_kept h.rec then 1 else 0) = ap partial_entries
    (ap current_head at'.inside.1.head.inside) in
    let entries = ap length at'.kept_are in
    elim (cases_Bool (is_kept h.rec)) [
      | inl kept ↦ let room = at'.within kept in let is = (rw kept at one) in omega (arith, is, entries, room.fields_in)
      | inr other ↦ let is = (rw other at one) in omega (arith, is, entries, at'.others.fields_in)
    ]

few_in : (parts : Parts) (ds : List Dataset) (h : Head) (taken : List ℕ) → IsReadingDataset parts.fields ds h (if nat_eq h.rec 8 then [] else taken)
    → length taken < h.count → FewFields parts
few_in parts ds h taken at' less =
    let octets = ap (λ (xs : List Dataset). length (joined xs)) at'.kept_are in
    let now = ap length at'.taken_are in
    let part = some_taken (nat_eq h.rec 8) taken in
    let all : length (joined parts.fields.kept) + length parts.fields.taken ≤ parts.fields.limits.octets + 8 = elim (is_one ds h at'.alive) [
      | inl keeps ↦ let room = at'.within keeps in omega (arith, octets, now, part, less, room.octets_in)
      | inr (inl eight) ↦ let zero' = none_taken h.rec taken eight in omega (arith, octets, now, zero', at'.others.octets_in)
      | inr (inr few) ↦ omega (arith, octets, now, part, less, few, at'.others.octets_in)
    ] in
    record { octets = all; entries = few_entries parts ds h taken at' }

-- ---- all of it

pub holds_few : EventsDetermineTheDatasets → (u : Unpacking) → IsReachable u → StoresFew u
holds_few tell u (p, a, stood) =
    let led = reached_of stood in
    let r = reached tell led.leads led.led in
    by r.whole r.begun r.reads r.stands (few_of_tag u.reader.place r.begun p r.whole r.keeps r.reads)
  where
    sum : FewFields u.parts → tag_held u.reader.place ≤ 12 → buffered_message u.parts.message ≤ 161 → StoresFew u
    sum few tag message = record { octets = (let octets = few.octets in omega (arith, octets, tag, message)); entries = few.entries }

    by : (ds : List Dataset) (begun : PartialDataset) → ReadsAsDatasets count_octets p ds begun → PartsAreAt u.parts ds begun → tag_held u.reader.place ≤ 12
        → StoresFew u
    by ds (InTag held) reads stands tag = sum (few_after u.parts ds stands.fields) tag (few_of_message u.parts.message _ _ stands.message)
    by ds (InData h taken) reads stands tag =
        sum (few_in u.parts ds h taken stands.fields reads.is_rest.2) tag (few_of_message u.parts.message _ _ stands.message)

-- ---- the position

-- The states of the readers, part by part, after complete datasets and a partial one.
record Parted (place : DatasetPlace) (parts : Parts) (ticket : List ℕ) (s : IsEncoded place parts ticket) (whole : List Dataset)
    (begun : PartialDataset) : Type 0 where
  pub section : s.section ≡ section whole begun
  pub phase : phase_in place parts ≡ phase_of whole begun
  pub fields : parts.fields.kept ≡ kept whole
  pub numbers : s.numbers ≡ stated_numbers (numbers_of (of_record 7 whole))
  pub taken : s.taken ≡ length (object_so_far whole begun)
  pub heads : s.heads ≡ heads_of whole begun
  pub text : List ℕ
  pub leads : ReachesSavedState (object_so_far whole begun) text s.message

parted : (parts : Parts) (ticket : List ℕ) (whole : List Dataset) (begun : PartialDataset) (place : DatasetPlace) (s : IsEncoded place parts ticket)
    → StoresPartial place begun → PartsAreAt parts whole begun
    → Parted place parts ticket s whole begun
parted parts ticket ds (InTag held) (Tag octets) s keeps at = record {
  section = s.after ds at.fields;
  phase = rw (ended_by_record parts ds at.fields, keeps) refl;
  fields = at.fields.kept_are;
  numbers = (s.object (place_after_datasets ds) at.object).0;
  taken = let is = (s.object (place_after_datasets ds) at.object).1 in let total = total_of (of_record 8 ds) in omega (arith, is, total);
  heads = (s.object (place_after_datasets ds) at.object).2 ∙ count_of (of_record 8 ds);
  text = _;
  leads = message_at parts.message (object_of ds) _ s.message at.message s.message_is;
}
parted parts ticket ds (InData h given) (Inside g left) s (is, many) at =
    let ended : has_ended parts ≡ false = unended_inside parts h at.fields.inside.0 at.fields.inside.1 in
    let rest : left ≡ h.count - length given = omega (arith, many) in
    record {
      section = s.inside ds h _ at.fields;
      phase = rw (ended, is, rest, at.fields.taken_are) refl;
      fields = at.fields.kept_are;
      numbers = (s.object (place_at ds h) at.object).0 ∙ ap stated_numbers (stated_by (nat_eq h.rec 8) (nat_eq h.rec 9) ds h.count);
      taken = (s.object (place_at ds h) at.object).1 ∙ rw is (taken_by (nat_eq h.rec 8) (nat_eq h.rec 9) ds given h.count left many);
      heads = (s.object (place_at ds h) at.object).2 ∙ heads_by (nat_eq h.rec 8) (nat_eq h.rec 9) ds h.count;
      text = _;
      leads = message_at parts.message (object_so_far ds (InData h given)) _ s.message at.message s.message_is;
    }
parted parts ticket ds begun place s keeps at = absurd keeps

-- the position that is encoded
abbrev told_place : (place : DatasetPlace) (parts : Parts) (ticket : List ℕ) → IsEncoded place parts ticket → Place
told_place place parts ticket s = record {
  section = s.section;
  phase = phase_in place parts;
  fields = parts.fields.kept;
  numbers = s.numbers;
  taken = s.taken;
  heads = s.heads;
  message = s.message;
}

-- The ticket is that of the octets consumed.
pub record Placed (u : Unpacking) (p ticket : List ℕ) : Type 0 where
  pub whole : List Dataset
  pub begun : PartialDataset
  pub reads : ReadsAsDatasets count_octets p whole begun
  pub stands : PartsAreAt u.parts whole begun
  pub text : List ℕ
  pub message : MessagePlace
  pub leads : ReachesSavedState (object_so_far whole begun) text message
  pub spelled : ticket ≡ ticket_of (place_of whole begun message)

pub placed : EventsDetermineTheDatasets → (u : Unpacking) (p ticket : List ℕ) → IsEncoded u.reader.place u.parts ticket → IsReachedBy u p → Placed u p ticket
placed tell u p ticket s led =
    let r = reached tell led.leads led.led in
    let by = parted u.parts ticket r.whole r.begun u.reader.place s r.keeps r.stands in
    let same : told_place u.reader.place u.parts ticket s ≡ place_of r.whole r.begun s.message = λ i. record {
      section = by.section i;
      phase = by.phase i;
      fields = by.fields i;
      numbers = by.numbers i;
      taken = by.taken i;
      heads = by.heads i;
      message = s.message;
    } in
    record {
      whole = r.whole;
      begun = r.begun;
      reads = r.reads;
      stands = r.stands;
      text = by.text;
      message = s.message;
      leads = by.leads;
      spelled = s.spelled ∙ ap ticket_of same;
    }

pub ticket_by : EventsDetermineTheDatasets → (u : Unpacking) (p ticket : List ℕ) (a : ℕ) → IsEncoded u.reader.place u.parts ticket
    → HasRead u p a ⊎ IsDoneWith u p a → IsTicketOf p ticket
ticket_by tell u p ticket a s stood =
    let by = placed tell u p ticket s (reached_of stood) in
    record {
      place = place_of by.whole by.begun by.message;
      is_place = record { whole = by.whole; begun = by.begun; reads = by.reads; text = by.text; message = by.message; leads = by.leads; is_place = refl };
      spelled = by.spelled;
    }

-- ---- a ticket

-- With the stored datasets, the partial one is within the limits plus some octets.
begun_length : (parts : Parts) (p : List ℕ) (ds : List Dataset) (b : PartialDataset) → ReadsAsDatasets count_octets p ds b → PartsAreAt parts ds b
    → length (phase_octets present_version (phase_of ds b)) + (6 * length (kept ds) + length (joined (kept ds))) ≤ 26
    + (parts.fields.limits.octets + 6 * parts.fields.limits.fields)
begun_length parts p ds (InTag held) reads stands =
    let phase = tag_begun_length (nat_eq (section_after ds) 9) held (held_length p ds held reads) in
    omega (arith, phase, stands.fields.within.octets_in, stands.fields.within.fields_in)
begun_length parts p ds (InData h taken) reads stands =
    let phase = data_length h.set h.count (h.count - length taken) (if nat_eq h.rec 8 then [] else taken) in
    let some = some_taken (nat_eq h.rec 8) taken in
    let less = reads.is_rest.2 in
    elim (is_one ds h stands.fields.alive) [
      | inl keeps ↦ let room = stands.fields.within keeps in omega (arith, phase, some, less, room.octets_in, room.fields_in)
      | inr (inl eight) ↦ let zero = none_taken h.rec taken eight in omega (arith, phase, zero, stands.fields.others.octets_in, stands.fields.others.fields_in)
      | inr (inr few) ↦ omega (arith, phase, some, less, few, stands.fields.others.octets_in, stands.fields.others.fields_in)
    ]

-- The ticket of an unpacker is short in every state.
pub short_ticket : EventsDetermineTheDatasets → (u : Unpacking) (ticket : List ℕ) → IsEncoded u.reader.place u.parts ticket → IsReachable u
    → length ticket ≤ (limits_in u).octets + 6 * (limits_in u).fields + 256
short_ticket tell u ticket s (p, a, stood) =
    let by = placed tell u p ticket s (reached_of stood) in
    let rest = rest_length (place_of by.whole by.begun by.message) (numbers_length _ _ _ _) (texts_short _ by.text by.message by.leads) in
    let begun = begun_length u.parts p by.whole by.begun by.reads by.stands in
    let is = ap length by.spelled in
    omega (arith, is, rest, begun)
