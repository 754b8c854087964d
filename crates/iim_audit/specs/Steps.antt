-- The steps of an audit: the result for one envelope, the count of its words, and finding the rows
-- that repeat an earlier one.
use Rattle.std.specs.Prelude.{◌≡◌, ◌≢◌, ℕ, ◌≤◌, List, length, None, ◌+◌, ◌*◌, ◌/◌, ◌%◌, ◌^◌, ◌<◌, [], ◌∷◌, map, take, slice_index_or, ℤ, Option, Some}
use Rattle.std.specs.{Option.option_cmp, List.Sorted.IsSortedBy, declared.cmp.Ordering.Ordering, Io.KnownBytes.IsAtEnd}
use Rattle.std.specs.List.{All, Contains, slice_get}
use Rattle.std.specs.Ordering.{is_lt, nat_cmp, on, then_cmp}
use Rattle.wire_story.specs.Format.Texts.{StoryEvent, WordsSoFar, CountsWords}
use Rattle.iim_unpack.specs.States.Unpacking.{Unpacking, HasRead, Progresses, IsDone, IsRefusedIn, limits_in, IsDoneWith}
use Rattle.iim_unpack.specs.{Format.Pieces.HasBorrowedParts, declared.unpacker.Progress.Progress}
use Rattle.iim_unpack.specs.{declared.unpacker.Progress.TheVariants.Done, declared.intake.IntakeFault.IntakeFault}
use Rattle.iim_fields.specs.Format.Records.{Identity, id_cmp}
use Rattle.iim_audit.specs.Format.{first_with_id, row_with_first_of, counted_words, IoFault, Limits, AuditCause}
use Rattle.iim_audit.specs.declared.{row.AuditRow.AuditRow, ledger.Ledger.Ledger, row.EnvelopeParts.EnvelopeParts}
use Rattle.iim_places.specs.Format.{Admitted.Value, Open.IsIncomplete}
use Rattle.iim_places.specs.Format.Streams.{Listed, IsListed, IsRefusedAfter, sum_capped}
use Rattle.iim_places.specs.declared.refusal.{Cause.TheVariants.Message, Refusal.Refusal}
use Rattle.iim_dataset.specs.States.Devices.{Device, ReadsGave, ReadFailedAfter}
use Rattle.wire_message.specs.declared.fault.MessageCause.TheVariants.{Sink}
use Rattle.iim_unpack.specs.declared.intake.IntakeFault.TheVariants as intakes
use Rattle.iim_audit.specs.declared.fault.AuditCause.TheVariants as causes
use Rattle.iim_dataset.specs.declared.device.IoFault.TheVariants as io

-- The unpacker consumed a chunk, and the words in its text were counted. At the end of an envelope,
-- it consumed at most as many octets as the chunk has.
pub record FeedsAndCounts (u : Unpacking) (old : WordsSoFar) (piece : List ℕ) (v : Unpacking) (new : WordsSoFar) (progress : Progress) : Type 0 where
  pub more : List StoryEvent
  pub counts : CountsWords old more new
  pub goes : (p : List ℕ) (a : ℕ) → HasRead u p a → Progresses v p a piece more progress
  pub alive : v.refused ≡ None
  pub ends : (used : ℕ) → progress ≡ Done used → IsDone v × (used ≤ length piece)

-- An octet of the chunk was rejected by a layer, and not by the sink.
pub record ChunkIsRejected (u : Unpacking) (piece : List ℕ) (e : Refusal) : Type 0 where
  pub more : List StoryEvent
  pub refuses : (p : List ℕ) (a : ℕ) → HasRead u p a → IsRefusedIn (limits_in u) p a piece more e
  pub by_octets : e.cause ≢ Message Sink

-- ---- Which rows repeat an earlier one, and the sort order that finds them.

-- the ids of rows
abbrev pub ids_of : List AuditRow → List Identity
ids_of rows = map (λ row. row.id) rows

-- compares the ids at two indices; an index that is out of range is less than every id
abbrev pub id_at_index_cmp : (Identity → Identity → Ordering) → List Identity → ℕ → ℕ → Ordering
id_at_index_cmp cmp ids = on (slice_get ids) (option_cmp cmp)

-- compares two indices by their ids, and by the indices themselves if the ids are equal
abbrev pub id_then_index_cmp : (Identity → Identity → Ordering) → List Identity → ℕ → ℕ → Ordering
id_then_index_cmp cmp ids = then_cmp (id_at_index_cmp cmp ids) nat_cmp

-- appends to a key the low four bits of each octet
abbrev pub id_key_after : ℕ → List ℕ → ℕ
id_key_after key [] = key
id_key_after key (b ∷ number) = id_key_after ((key * 16 % 2 ^ 32 + b % 16) % 2 ^ 32) number

-- the key of an id: the low four bits of each octet of its number
abbrev pub id_key_of : Identity → ℕ
id_key_of id = id_key_after 0 id.number

-- the sort key of the row at an index: the key of its id, and the index in 32 bits
abbrev pub sort_key_of : Identity → ℕ → ℕ
sort_key_of id index = id_key_of id * 2 ^ 32 + index

abbrev pub id_key_at : ℕ → ℕ
id_key_at place = place / 2 ^ 32

abbrev pub index_at : ℕ → ℕ
index_at place = place % 2 ^ 32

-- the sort keys of rows with these ids, whose indices begin at a given index
abbrev pub sort_keys_of : ℕ → List Identity → List ℕ
sort_keys_of index [] = []
sort_keys_of index (id ∷ ids) = sort_key_of id index ∷ sort_keys_of (index + 1) ids

-- compares sort keys by the keys of their ids, and by the rows if these are equal
abbrev pub sort_key_cmp : List Identity → ℕ → ℕ → Ordering
sort_key_cmp ids = then_cmp (on id_key_at nat_cmp) (on index_at (id_then_index_cmp id_cmp ids))

-- The number is the sort key of one of the rows with these ids.
pub record IsSortKey (ids : List Identity) (place : ℕ) : Type 0 where
  pub below : index_at place < length ids
  pub key : (d : Identity) → id_key_at place ≡ id_key_of (slice_index_or ids (index_at place) d)

-- compares ids by their keys, and by the ids themselves if the keys are equal
abbrev pub id_key_then_id_cmp : Identity → Identity → Ordering
id_key_then_id_cmp = then_cmp (on id_key_of nat_cmp) id_cmp

-- The list has the indices of all ids, sorted by the ids.
pub record IsIdOrder (ids : List Identity) (order : List ℕ) : Type 0 where
  pub below : All (λ i. i < length ids) order
  pub each : (i : ℕ) → i < length ids → Contains order i
  pub sorted : IsSortedBy (λ a b. is_lt (id_then_index_cmp id_key_then_id_cmp ids a b)) order

-- `first` is unset in each row.
abbrev pub HaveNoFirst : List AuditRow → Type 0
HaveNoFirst rows = All (λ row. row.first ≡ None) rows

-- the row at index i, with `first` set to the number of the first earlier row with its id
abbrev pub filled : List AuditRow → ℕ → AuditRow → AuditRow
filled rows i row = record row { first = first_with_id 1 row.id (take i (ids_of rows)) }

-- Each new row is the old row with `first` set, as `filled` defines.
pub record HaveFirsts (old new : List AuditRow) : Type 0 where
  pub len : length new ≡ length old
  pub rows : (i : ℕ) (d : AuditRow) → i < length old → slice_index_or new i d ≡ filled old i (slice_index_or old i d)

-- The texts of an id are no longer than an envelope allows.
abbrev pub IsShort : Identity → Type 0
IsShort id = (length id.service ≤ 10) × (length id.number ≤ 8) × (length id.date_sent ≤ 8)

-- The ids of all rows are short.
abbrev pub HaveShortIds : List AuditRow → Type 0
HaveShortIds rows = All IsShort (ids_of rows)

-- ---- The result for one envelope at the start of an intake's unread input.

-- the cause of an audit's error for an error of its intake
abbrev pub audit_cause_of : IntakeFault → AuditCause
audit_cause_of (intakes.Refused e) = causes.Refused e
audit_cause_of intakes.Read = causes.Read
audit_cause_of intakes.Interrupted = causes.Interrupted

-- The ledger has the rows of the envelopes so far, with `first` unset.
pub record HasRowsOf (now : ℤ) (ledger : Ledger) (values : List Value) : Type 0 where
  pub rows : ledger.rows.items ≡ map (λ v. row_with_first_of now v None) values

-- `got` has the parts of the value, and the number of words of its lines.
pub record ArePartsOf (got : EnvelopeParts) (v : Value) : Type 0 where
  pub parts : HasBorrowedParts got.unpacked v
  pub words : got.words ≡ counted_words v

-- Exactly one envelope was read, and the unpacker has completed it. `told` is its length in octets,
-- and `words` is the number of words of its lines.
pub record ReadsOneEnvelope (limits : Limits) (old new : Device) (u : Unpacking) (told words : ℕ) : Type 0 where
  pub envelope : Listed
  pub listed : IsListed limits envelope
  pub given : ReadsGave old new envelope.octets
  pub counts : told ≡ sum_capped 0 (length envelope.octets)
  pub done : IsDoneWith u envelope.octets told
  pub same : limits_in u ≡ limits
  pub counted : words ≡ counted_words envelope.value

-- One envelope was read; or no octet was read, because the input has ended.
abbrev pub ReadsEnvelopeOrEnd : Limits → Device → Device → Unpacking → ℕ → Option ℕ → Type 0
ReadsEnvelopeOrEnd limits old new u told (Some words) = ReadsOneEnvelope limits old new u told words
ReadsEnvelopeOrEnd limits old new u told None = ReadsGave old new [] × IsAtEnd new.octets × (told ≡ 0)

-- The octets that were read are rejected: one of them or, if none of them, the end of the input
-- after them.
pub record AuditRefusalIsRead (limits : Limits) (old new : Device) (e : Refusal) : Type 0 where
  pub rest : List ℕ
  pub given : ReadsGave old new rest
  pub k : ℕ
  pub refused : IsRefusedAfter limits rest k e
  pub at_end : k ≡ length rest → IsAtEnd new.octets

-- The octets that were read are a viable prefix, and then the reader returned this error. The
-- intake stores the number of these octets.
pub record AuditReadFails (limits : Limits) (old new : Device) (kept : Option ℕ) (fault : IoFault) : Type 0 where
  pub rest : List ℕ
  pub missed : ReadFailedAfter old new rest fault
  pub is_open : IsIncomplete limits rest
  pub keeps : kept ≡ Some (sum_capped 0 (length rest))

-- The reason why no envelope was read, and the octets that were read. (The arguments are the count
-- before, and then what the intake stores and counts afterwards.)
abbrev pub ReadsNoEnvelope : Limits → Device → Device → ℕ → Option ℕ → ℕ → AuditCause → Type 0
ReadsNoEnvelope limits old new before kept told (causes.Refused e) = AuditRefusalIsRead limits old new e × (kept ≡ Some e.octet) × (told ≡ 0)
ReadsNoEnvelope limits old new before kept told causes.Read = AuditReadFails limits old new kept io.Failed × (told ≡ 0)
ReadsNoEnvelope limits old new before kept told causes.Interrupted = AuditReadFails limits old new kept io.Interrupted × (told ≡ 0)
ReadsNoEnvelope limits old new before kept told _ = ⊥
