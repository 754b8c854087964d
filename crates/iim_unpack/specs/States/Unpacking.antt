-- The states of an unpacker and of its parts, what it stores, and what it returns.
use Rattle.std.specs.Prelude.{◌≡◌, ℕ, ◌<◌, ◌≤◌, ◌==◌, ◌&&◌, if◌then◌else◌, Bool, List, [], length, is_none, true, false, ◌++◌, take, slice_index, Option, None, ◌+◌, Some}
use Rattle.iim_dataset.specs.Format.Octets.{Octets, CounterRose}
use Rattle.iim_dataset.specs.Format.Datasets.{Dataset, of_record, PartialDataset, InTag, InData, count_octets}
use Rattle.iim_dataset.specs.States.Reading.{DatasetEvent, emitted_events, ReachesDatasetState, between, Reader}
use Rattle.iim_dataset.specs.declared.{head.Head.Head, place.DatasetPlace.DatasetPlace}
use Rattle.iim_fields.specs.Format.Causes.{section_after, is_kept, joined}
use Rattle.iim_fields.specs.States.Standing.{limits_of, reader_capacity, current_head_of}
use Rattle.iim_fields.specs.{States.Stores.Room, declared.limits.Limits.Limits}
use Rattle.iim_fields.specs.States.Standing as records
use Rattle.iim_object.specs.Format.Objects.{max_subfiles, place_after_datasets}
use Rattle.iim_object.specs.States.Reading as objects
use Rattle.wire_message.specs.{Format.Messages.text_so_far, States.Reading.saved}
use Rattle.wire_message.specs.declared.{fault.MessageCause.TheVariants.Sink, place.Place.Place}
use Rattle.wire_message.specs.declared.{place.Place.TheVariants.Text}
use Rattle.wire_message.specs.States.Reading as wire
use Rattle.iim_places.specs.Format.Admitted.{object_of, Value, Admits, AreWithinLimits}
use Rattle.iim_places.specs.Format.Causes.{place_at, refusal_at}
use Rattle.iim_places.specs.Format.Open.{object_so_far, IsTextOf, Delivers, IsIncomplete, RefusesNext}
use Rattle.iim_places.specs.Format.Streams.{is_non_empty, sum_capped}
use Rattle.iim_places.specs.declared.refusal.Cause.TheVariants.{Message, Failed}
use Rattle.iim_places.specs.declared.{refusal.Cause.Cause, fault.TokenFault.TokenFault, refusal.Refusal.Refusal}
use Rattle.wire_story.specs.Format.Texts as story
pub use Rattle.iim_unpack.specs.declared.{parts.Parts.Parts, unpacker.Progress.Progress}
pub use Rattle.iim_unpack.specs.declared.unpacker.Progress.TheVariants.{More, Done}
use Rattle.iim_places.specs.declared.refusal.Layer.TheVariants as layers
use Rattle.iim_dataset.specs.declared.place.DatasetPlace.TheVariants as tags

-- The parts have consumed exactly these datasets.
pub record PartsAreAfter (parts : Parts) (ds : List Dataset) : Type 0 where
  pub fields : records.HasReadDatasets parts.fields ds
  pub object : objects.ObjectReaderStandsAt parts.object (place_after_datasets ds)
  pub few : length (of_record 8 ds) ≤ max_subfiles
  pub message : wire.MessageReaderHasRead parts.message (object_of ds) (text_so_far (object_of ds))
  pub ended : section_after ds ≡ 9 → wire.IsCompleteMessage parts.message

-- The parts have consumed these datasets, then this head and the data `taken`.
pub record PartsAreIn (parts : Parts) (ds : List Dataset) (h : Head) (taken : List ℕ) : Type 0 where
  pub octets : Octets taken
  pub fields : records.IsReadingDataset parts.fields ds h (if h.rec == 8 then [] else taken)
  pub object : objects.ObjectReaderStandsAt parts.object (place_at ds h)
  pub few : length (of_record 8 ds) ≤ max_subfiles
  pub room : h.rec ≡ 8 → length (of_record 8 ds) < max_subfiles
  pub message : wire.MessageReaderHasRead parts.message (object_so_far ds (InData h taken)) (text_so_far (object_so_far ds (InData h taken)))
  pub ended : h.rec ≡ 9 → wire.IsCompleteMessage parts.message

abbrev pub PartsAreAt : Parts → List Dataset → PartialDataset → Type 0
PartsAreAt parts ds (InTag held) = PartsAreAfter parts ds
PartsAreAt parts ds (InData h taken) = PartsAreIn parts ds h taken

-- The parts have consumed the events, and `text` is the text in them.
pub record AreReachedBy (parts : Parts) (events : List DatasetEvent) (text : List ℕ) : Type 0 where
  pub whole : List Dataset
  pub begun : PartialDataset
  pub told : events ≡ emitted_events whole begun
  pub stands : PartsAreAt parts whole begun
  pub is_text : text ≡ text_so_far (object_so_far whole begun)

-- The last dataset has ended: the current record is 9, and no dataset is in progress.
unfoldable pub has_ended : Parts → Bool
has_ended parts = (records.section_of parts.fields == 9) && is_none (records.current_head_of parts.fields)

-- The sink's count of failures increased if and only if the sink caused the refusal.
abbrev pub CountsSinkFailure : Cause → ℕ → ℕ → Type 0
CountsSinkFailure (Message Sink) old new = CounterRose old new
CountsSinkFailure _ old new = new ≡ old

-- ---- The state of an unpacker, and what it returns.

pub record Unpacking : Type 0 where
  pub reader : Reader
  pub parts : Parts
  pub octets : ℕ
  pub begun : Bool
  pub refused : Option ℕ

abbrev pub limits_in : Unpacking → Limits
limits_in u = limits_of u.parts.fields

-- the capacity of the reader of records
abbrev pub capacity_in : Unpacking → Room
capacity_in u = reader_capacity u.parts.fields

-- The reader of tags and the parts have consumed exactly these octets.
pub record IsReachedBy (u : Unpacking) (p : List ℕ) : Type 0 where
  pub events : List DatasetEvent
  pub text : List ℕ
  pub leads : ReachesDatasetState count_octets p events u.reader.place
  pub led : AreReachedBy u.parts events text

-- The unpacker has consumed exactly these octets, which are incomplete. Its count of octets is `a`.
pub record HasRead (u : Unpacking) (p : List ℕ) (a : ℕ) : Type 0 where
  pub taking : u.refused ≡ None
  pub unended : has_ended u.parts ≡ false
  pub counts : u.octets ≡ a
  pub begun : u.begun ≡ is_non_empty p
  pub is_led : IsReachedBy u p
  pub is_open : IsIncomplete (limits_in u) p

-- The unpacker has consumed exactly these octets, which are an envelope. Its count of octets is
-- `a`.
pub record IsDoneWith (u : Unpacking) (p : List ℕ) (a : ℕ) : Type 0 where
  pub taking : u.refused ≡ None
  pub ended : has_ended u.parts ≡ true
  pub place : u.reader.place ≡ between
  pub counts : u.octets ≡ a
  pub is_led : IsReachedBy u p
  pub value : Value
  pub admits : Admits p value
  pub within : AreWithinLimits (limits_in u) admits.datasets

abbrev pub IsDone : Unpacking → Type 0
IsDone u = (u.refused ≡ None) × (has_ended u.parts ≡ true)

-- The progress that is returned for a chunk, after the octets consumed before.
abbrev pub Progresses : Unpacking → List ℕ → ℕ → List ℕ → List story.StoryEvent → Progress → Type 0
Progresses v p a piece more More = HasRead v (p ++ piece) (sum_capped a (length piece)) × Delivers p piece more
Progresses v p a piece more (Done used) = (used ≤ length piece) × IsDoneWith v (p ++ take used piece) (sum_capped a used) × Delivers p (take used piece) more

-- Octet k of the chunk is rejected, and the events `more` are delivered for the octets before it.
pub record IsRefusedIn (limits : Limits) (p : List ℕ) (a : ℕ) (piece : List ℕ) (more : List story.StoryEvent) (e : Refusal) : Type 0 where
  pub k : ℕ
  pub within : k < length piece
  pub fault : TokenFault
  pub refusal : e ≡ refusal_at (sum_capped a k) fault
  pub added : List ℕ
  pub delivers : more ≡ story.delivered added
  pub adds : (text : List ℕ) → IsTextOf p text → IsTextOf (p ++ take k piece) (text ++ added)
  pub refuses : RefusesNext limits (p ++ take k piece) (slice_index piece k) fault

-- the refusal of a call after a refusal
abbrev pub failed_at : ℕ → Refusal
failed_at octet = record { layer = layers.Outside; rec = 0; set = 0; octet = octet; cause = Failed }

-- Unpacker and sink are unchanged.
abbrev pub AreSame : {S : Type 0} → Unpacking → S → Unpacking → S → Type 0
AreSame old a new b = (new ≡ old) × (b ≡ a)

-- the number of octets of a partial tag
abbrev pub tag_held : DatasetPlace → ℕ
tag_held (tags.Tag held) = length held.items
tag_held (tags.Inside head left) = 0

-- the number of pending CR
abbrev pub pending_returns : Place → ℕ
pending_returns (Text head (Some held)) = held
pending_returns _ = 0

-- the number of stored octets of a message: those of the header and the trailer so far, and pending
-- CR
abbrev pub buffered_message : Option Place → ℕ
buffered_message None = 0
buffered_message (Some place) =
    let m = saved place in
    length m.source.items + length m.number.items + length m.priority.items + length m.category.items + length m.words.items + length m.info.items
    + length m.trailer.items + pending_returns place

-- one if a dataset of record 1 or 2 is in progress, otherwise 0
abbrev pub partial_entries : Option Head → ℕ
partial_entries None = 0
partial_entries (Some h) = if is_kept h.rec then 1 else 0

-- The unpacker stores at most 256 octets more than its limits allow, and no more entries than they
-- allow.
pub record StoresFew (u : Unpacking) : Type 0 where
  -- The stored octets: the data of records 1 and 2, the data received of a value in progress of
  -- record 1, 2, 7 or 9, a partial tag, the texts of the message, and pending CR.
  pub octets : length (joined u.parts.fields.kept) + length u.parts.fields.taken + (tag_held u.reader.place + buffered_message u.parts.message)
      ≤ (limits_in u).octets + 256
  -- The stored entries: the heads of records 1 and 2.
  pub entries : length u.parts.fields.kept + partial_entries (current_head_of u.parts.fields) ≤ (limits_in u).fields
