-- The contents of a ticket: its parts and their offsets, what is in progress, and the octets that
-- are accepted next.
use Rattle.std.specs.Prelude.{◌≡◌, ℕ, ◌+◌, ◌≤◌, ◌⊎◌, Bool, false, List, [], ◌∷◌, length, get_or, take, drop, None, is_some, ◌≢◌, ◌-◌, ◌==◌, if◌then◌else◌, ◌++◌, ◌<◌, ◌/◌, ◌%◌, ◌↔◌, replicate, ⊤, nat_le}
use Rattle.std.specs.{Option.unwrap_or, Int.bit_at}
use Rattle.iim_dataset.specs.Format.Datasets.{Dataset, EncodesTag, count_octets, head_of, PartialDataset, InTag, InData, ReadsAsDatasets}
use Rattle.iim_places.specs.Format.TicketForm.{Contents, HasContents, IsTicketFormFault}
use Rattle.iim_places.specs.Format.Causes.{Token, AtOctet, AtHead, AtValue, partial_record, partial_number}
use Rattle.iim_places.specs.Format.Tickets.{Phase, PartialTag, PartialData, AllEnded}
use Rattle.iim_places.specs.{Format.Open.RefusesNext, Format.Open.IsIncomplete, Format.Admitted.Value}
use Rattle.iim_places.specs.{Format.Streams.IsEnvelopeWithin, Format.Streams.RefusesOctet, States.Restored.IsRestoreFault}
use Rattle.iim_places.specs.declared.{ticket.fault.TicketFault.TicketFault, fault.TokenFault.TokenFault}
use Rattle.iim_c.specs.Format.{Answers.status_answer, Answers.ticket_answer, Answers.IimAnswer, Feeding.HoldsForTicket}
use Rattle.iim_c.specs.declared.{field.IimDataset.IimDataset, header.IimMessage.IimMessage, sizes.IimObject.IimObject}
use Rattle.iim_c.specs.declared.{begun.IimBegun.IimBegun, so_far.IimSoFar.IimSoFar}
use Rattle.iim_c.specs.Format.Statuses as status
use Rattle.iim_fields.specs.{Format.Causes.section_after, declared.limits.Limits.Limits}
use Rattle.wire_story.specs.Format.Texts.{WordsSoFar}
use Rattle.iim_audit.specs.Format.{no_words_counted}
pub use Rattle.iim_c.specs.declared.span.IimSpan.{IimSpan}

-- ---- slices of a ticket

-- The slice of the ticket has these octets.
pub record HasOctetsAt (ticket : List ℕ) (span : IimSpan) (octets : List ℕ) : Type 0 where
  pub within : span.offset + span.count ≤ length ticket
  pub octets_are : take span.count (drop span.offset ticket) ≡ octets

abbrev pub no_span : IimSpan
no_span = record { offset = 0; count = 0 }

-- The octets are not a ticket, and the answer has the cause.
abbrev pub IsNoTicket : List ℕ → IimAnswer → Type 0
IsNoTicket ticket told = (fault : TicketFault) × IsTicketFormFault ticket fault × (told ≡ ticket_answer fault)

-- ---- datasets

-- `found` has the record and the number of the dataset with the index n, and the slice of the
-- ticket that has its data.
pub record IsFieldAt (ticket : List ℕ) (s : Contents) (n : ℕ) (found : IimDataset) : Type 0 where
  pub field : Dataset
  pub after : List Dataset
  pub is_next : drop n s.fields ≡ field ∷ after
  pub rec_is : found.rec ≡ field.rec
  pub set_is : found.set ≡ field.set
  pub stands : HasOctetsAt ticket found.data field.octets

abbrev pub no_dataset : IimDataset
no_dataset = record { rec = 0; set = 0; «data» = no_span }

-- The ticket has more than n datasets, and `found` is the one with the index n; or it has no more
-- than n; or the octets are not a ticket.
abbrev pub ReturnsField : List ℕ → ℕ → IimDataset → IimAnswer → Type 0
ReturnsField ticket n found told =
    ((s : Contents) × HasContents ticket s × IsFieldAt ticket s n found × (told ≡ status_answer status.done))
    ⊎ ((s : Contents) × HasContents ticket s × (length s.fields ≤ n) × (found ≡ no_dataset) × (told ≡ status_answer status.none))
    ⊎ (IsNoTicket ticket told × (found ≡ no_dataset))

-- The array begins with the datasets from the index `from` on, of the first `count` datasets, as
-- many as fit; its other entries are unchanged.
pub record ArrayHasFields (ticket : List ℕ) (s : Contents) (from count : ℕ) (old new : List IimDataset) : Type 0 where
  pub each : (k : ℕ) → k < count → k < length old → IsFieldAt ticket s (from + k) (get_or new k no_dataset)
  pub others : drop count new ≡ drop count old

-- the answer for `count` datasets and an array of the capacity `room`
abbrev pub fields_answer : (count room : ℕ) → IimAnswer
fields_answer count room = record (status_answer (if nat_le count room then status.done else status.short)) { written = count }

-- The array has the datasets from the index `from` on, and the answer has the number of all
-- datasets; or the octets are not a ticket, and the array is unchanged.
abbrev pub ReturnsFields : List ℕ → ℕ → List IimDataset → List IimDataset → IimAnswer → Type 0
ReturnsFields ticket from old new told =
    ((s : Contents) × HasContents ticket s × ArrayHasFields ticket s from (length s.fields - from) old new
    × (told ≡ fields_answer (length s.fields - from) (length old)))
    ⊎ (IsNoTicket ticket told × (new ≡ old))

-- ---- header and trailer

-- The slice of the ticket has the text with this index.
abbrev pub HasTextAt : List ℕ → Contents → ℕ → IimSpan → Type 0
HasTextAt ticket s n span = HasOctetsAt ticket span (get_or s.texts n [])

-- The part is that of the contents, and the slices of the message have its texts.
abbrev pub IsMessageOf : List ℕ → Contents → IimMessage → Type 0
IsMessageOf ticket s m =
    (m.part ≡ s.part) × HasTextAt ticket s 0 m.source × HasTextAt ticket s 1 m.number × HasTextAt ticket s 2 m.priority
    × HasTextAt ticket s 3 m.category × HasTextAt ticket s 4 m.words × HasTextAt ticket s 5 m.info × HasTextAt ticket s 6 m.trailer

abbrev pub no_message : IimMessage
no_message = record {
  part = 0;
  source = no_span;
  number = no_span;
  priority = no_span;
  category = no_span;
  words = no_span;
  info = no_span;
  trailer = no_span;
}

-- The ticket has this header and trailer; or the octets are not a ticket.
abbrev pub ReturnsHeader : List ℕ → IimMessage → IimAnswer → Type 0
ReturnsHeader ticket m told =
    ((s : Contents) × HasContents ticket s × IsMessageOf ticket s m × (told ≡ status_answer status.done)) ⊎ (IsNoTicket ticket told × (m ≡ no_message))

-- ---- sizes

-- The number with this index is this one; or it was not received, and 0 is returned for it.
abbrev pub IsNumber : Contents → ℕ → Bool → ℕ → Type 0
IsNumber s n has number = (has ≡ is_some (get_or s.numbers n None)) × (number ≡ unwrap_or (get_or s.numbers n None) 0)

abbrev pub IsObjectOf : Contents → IimObject → Type 0
IsObjectOf s o =
    IsNumber s 0 o.has_mode o.mode × IsNumber s 1 o.has_subfile o.subfile × IsNumber s 2 o.has_announced o.announced
    × IsNumber s 3 o.has_maximum o.maximum × (o.subfiles ≡ s.heads) × (o.octets ≡ s.taken)

abbrev pub no_object : IimObject
no_object = record {
  has_mode = false;
  has_subfile = false;
  has_announced = false;
  has_maximum = false;
  mode = 0;
  subfile = 0;
  announced = 0;
  maximum = 0;
  subfiles = 0;
  octets = 0;
}

-- The ticket has these sizes; or the octets are not a ticket.
abbrev pub ReturnsSizes : List ℕ → IimObject → IimAnswer → Type 0
ReturnsSizes ticket o told =
    ((s : Contents) × HasContents ticket s × IsObjectOf s o × (told ≡ status_answer status.done)) ⊎ (IsNoTicket ticket told × (o ≡ no_object))

-- ---- the number of what is in progress

-- the kind for a tag: nothing in progress, between datasets; or a tag of which some octets were
-- received
abbrev pub kind_of_tag : List ℕ → ℕ
kind_of_tag [] = 0
kind_of_tag (x ∷ held) = 1

-- the kind for the data of a dataset
abbrev pub in_data : ℕ
in_data = 2

-- the kind for a complete envelope
abbrev pub ended : ℕ
ended = 3

-- ---- the part of a ticket that encodes what is in progress

-- the received octets of the tag or value in progress that the ticket stores
abbrev pub kept_of : Phase → List ℕ
kept_of (PartialTag held) = held
kept_of (PartialData set count left taken) = taken
kept_of AllEnded = []

abbrev pub no_begun : IimBegun
no_begun = record {
  kind = 0;
  section = 0;
  rec = 0;
  set = 0;
  part = 0;
  counter = 0;
  flag = 0;
  count = 0;
  came = 0;
  left = 0;
  first = 0;
  token = 0;
  octets = no_span;
}

-- What is in progress in the record `section` after `at` octets. `span` is the slice of the ticket
-- with the octets stored of it. Its first octet is `at` minus the number of octets received of it.
-- The next token begins at the same offset, except in a subfile, where each octet is a token.
abbrev pub begun_by : (at section : ℕ) → Phase → IimSpan → IimBegun
begun_by at section (PartialTag held) span =
    record no_begun {
      kind = kind_of_tag held;
      rec = get_or held 1 0;
      set = get_or held 2 0;
      came = length held;
      first = at - length held;
      token = at - length held;
      octets = span;
    }
begun_by at section (PartialData set count left taken) span =
    record no_begun {
      kind = in_data;
      rec = section;
      set = set;
      count = count;
      came = count - left;
      left = left;
      first = at - (count - left);
      token = if section == 8 then at else at - (count - left);
      octets = span;
    }
begun_by at section AllEnded span = record no_begun { kind = ended; first = at; token = at; octets = span }

-- the same, with the record of the last head, and with the part of the message, its counter and its
-- flag
abbrev pub begun_of : ℕ → Contents → IimSpan → IimBegun
begun_of at s span = record (begun_by at s.section s.phase span) { section = s.section; part = s.part; counter = s.counter; flag = s.flag }

pub record IsProgressOf (ticket : List ℕ) (at : ℕ) (s : Contents) (found : IimBegun) : Type 0 where
  pub stand : HasOctetsAt ticket found.octets (kept_of s.phase)
  pub is : found ≡ begun_of at s found.octets

-- The ticket encodes this progress; or the octets are not a ticket.
abbrev pub ReturnsProgress : List ℕ → ℕ → IimBegun → IimAnswer → Type 0
ReturnsProgress ticket at found told =
    ((s : Contents) × HasContents ticket s × IsProgressOf ticket at s found × (told ≡ status_answer status.done)) ⊎ (IsNoTicket ticket told × (found ≡ no_begun))

-- ---- what is in progress after octets that reach the state

-- The number of octets received of what is in progress, the number that remain, and the offset at
-- which it began, after `at` octets. The length of a partial tag is unknown, so the number that
-- remain is 0. The next token is a tag, a value or, in the object, the next octet alone.
abbrev pub IsInProgress : ℕ → PartialDataset → IimBegun → Type 0
IsInProgress at (InTag held) found =
    (found.rec ≡ partial_record (InTag held)) × (found.set ≡ partial_number (InTag held)) × (found.came ≡ length held) × (found.left ≡ 0)
    × (found.first ≡ at - length held) × (found.token ≡ at - length held)
IsInProgress at (InData h taken) found =
    (found.rec ≡ h.rec) × (found.set ≡ h.set) × (found.came ≡ length taken) × (found.left ≡ h.count - length taken)
    × (found.first ≡ at - length taken) × (found.token ≡ (if h.rec == 8 then at else at - length taken))

-- The last dataset is complete: its record is 9, and no dataset is in progress.
abbrev pub IsCompleteEnvelope : List Dataset → PartialDataset → Type 0
IsCompleteEnvelope whole (InTag held) = section_after whole ≡ 9
IsCompleteEnvelope whole (InData h taken) = ⊥

-- `found` is what is in progress after the octets so far, or states that the envelope is complete.
pub record HasProgressOf (p : List ℕ) (at : ℕ) (found : IimBegun) : Type 0 where
  pub whole : List Dataset
  pub begun : PartialDataset
  pub reads : ReadsAsDatasets count_octets p whole begun
  pub tells : ((found.kind ≡ ended) × IsCompleteEnvelope whole begun) ⊎ IsInProgress at begun found

-- ---- the rejected token

-- The octets of a token. If no tag can continue with an octet, they are those of the partial tag
-- and that octet. For a head, they are its tag. For an octet of the object, they are that octet.
-- For a value, they are its data or, if these are empty, its tag.
abbrev pub AreOctetsOf : Token → List ℕ → Type 0
AreOctetsOf (AtOctet (InTag held) octet) xs = xs ≡ held ++ octet ∷ []
AreOctetsOf (AtOctet (InData h taken) octet) xs = xs ≡ octet ∷ []
AreOctetsOf (AtHead h) xs = EncodesTag count_octets h xs
AreOctetsOf (AtValue d) xs = ((d.octets ≢ []) × (xs ≡ d.octets)) ⊎ ((d.octets ≡ []) × EncodesTag count_octets (head_of d) xs)

-- If the next octet is rejected, the octets from the offset `token` up to it are those of the
-- rejected token.
abbrev pub HasTokenOf : List ℕ → ℕ → IimBegun → Type 0
HasTokenOf p at found = (limits : Limits) (next : ℕ) (fault : TokenFault) → (refused : RefusesNext limits p next fault) → at ≡ length p
    → AreOctetsOf refused.token (drop found.token (p ++ next ∷ []))

-- the bit of an octet in the 32 octets of a set, each of which has the bits of eight octets, lowest
-- first
abbrev pub bit_of : List ℕ → ℕ → ℕ
bit_of bits octet = bit_at (get_or bits (octet / 8) 0) (octet % 8)

-- the empty set
abbrev pub no_octets : List ℕ
no_octets = replicate 32 0

-- The octet is accepted next: with it the envelope can continue or is complete.
abbrev pub IsAccepted : Limits → List ℕ → ℕ → Type 0
IsAccepted limits p next = IsIncomplete limits (p ++ next ∷ []) ⊎ ((value : Value) × IsEnvelopeWithin limits (p ++ next ∷ []) value)

-- The bit is set if the octet is accepted, and is not set if some layer rejects it.
pub record BitIsAcceptance (limits : Limits) (p : List ℕ) (next bit : ℕ) : Type 0 where
  pub taken : (bit ≡ 1) ↔ IsAccepted limits p next
  pub refused : (bit ≡ 0) ↔ ((fault : TokenFault) × RefusesOctet limits p next fault)

-- All octets that reach the ticket's state are a viable prefix, and the bits are those of the
-- octets accepted next.
abbrev pub BitsAreAccepted : Limits → List ℕ → List ℕ → Type 0
BitsAreAccepted limits ticket bits = HoldsForTicket limits ticket 0 (λ p a. (next : ℕ) → next < 256 → BitIsAcceptance limits p next (bit_of bits next)) (λ p a. ⊥)

-- All octets that reach the ticket's state are an envelope.
abbrev pub TicketIsComplete : Limits → List ℕ → Type 0
TicketIsComplete limits ticket = HoldsForTicket limits ticket 0 (λ p a. ⊥) (λ p a. ⊤)

-- The result: the octets that are accepted next; or the envelope is complete, and the set is empty;
-- or the ticket is invalid; or an allocation failed.
abbrev pub ReturnsNext : Limits → List ℕ → List ℕ → IimAnswer → Type 0
ReturnsNext limits ticket bits told =
    (BitsAreAccepted limits ticket bits × (told ≡ status_answer status.more))
    ⊎ (TicketIsComplete limits ticket × (bits ≡ no_octets) × (told ≡ status_answer status.done))
    ⊎ ((fault : TicketFault) × (ticket ≢ []) × IsRestoreFault limits ticket fault × (bits ≡ no_octets) × (told ≡ ticket_answer fault))
    ⊎ ((bits ≡ no_octets) × (told ≡ status_answer status.no_memory))

-- the count of words in the state beside the ticket, which is zero without a ticket
abbrev pub words_so_far : List ℕ → IimSoFar → WordsSoFar
words_so_far [] so_far = no_words_counted
words_so_far (x ∷ xs) so_far = record { words = so_far.words; inside = so_far.inside }

-- the state at the beginning of an envelope
abbrev pub state_at_start : ℕ → IimSoFar
state_at_start at = record { at = at; octets = 0; words = 0; inside = false }
