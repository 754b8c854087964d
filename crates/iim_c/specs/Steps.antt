-- The steps of the calls: saving a state, feeding and auditing a chunk, reading a ticket.
use Rattle.std.specs.Prelude.{◌≡◌, ℕ, ◌<◌, ◌≤◌, ◌⊎◌, List, length, ◌≢◌, [], ◌∷◌, ◌+◌, ◌*◌, None, ℤ, ◌++◌, take, drop}
use Rattle.iim_places.specs.Format.Tickets.{Phase, PartialTag, PartialData, AllEnded, width}
use Rattle.iim_places.specs.Format.Streams.{sum_capped}
use Rattle.iim_unpack.specs.States.Unpacking.{Unpacking, HasRead, limits_in}
use Rattle.iim_unpack.specs.States.Restored.{IsRestored, WritesTicketOf}
use Rattle.iim_c.specs.Format.Answers.{status_answer, short_answer, IimAnswer}
use Rattle.iim_c.specs.Format.Tickets.{no_span, IimSpan, bit_of}
use Rattle.iim_c.specs.Format.Auditing.{AreRowsOfEnvelopes, CurrentEnvelope, IimAuditRow, IimSoFar}
use Rattle.iim_c.specs.declared.finding.Ending.TheVariants.{Used, Full, Refused}
use Rattle.iim_c.specs.declared.finding.{Ending.Ending, Found.Found}
use Rattle.iim_c.specs.Format.Packing as packing
use Rattle.iim_c.specs.Format.Statuses as status
use Rattle.iim_fields.specs.declared.limits.Limits.{Limits}
use Rattle.iim_audit.specs.{Format.RejectsChunk, Format.AuditHasConsumed, declared.pieces.PieceAudit.PieceAudit}
use Rattle.iim_pack_script.specs.declared.packing.PackFault.{PackFault}
use Rattle.iim_pack_script.specs.declared.packing.PackFault.TheVariants as faults

-- ---- The result of saving the state of an unpacker.

-- The text or the rows fit, and so does the ticket, and this is the answer; or one of the buffers
-- is too short.
abbrev pub FitsOrIsShort : (written room ticket ticket_room : ℕ) → IimAnswer → IimAnswer → Type 0
FitsOrIsShort written room ticket ticket_room answer told =
    ((written ≤ room) × (ticket ≤ ticket_room) × (told ≡ answer)) ⊎ (((room < written) ⊎ (ticket_room < ticket)) × (told ≡ short_answer written ticket))

-- The buffer has the unpacker's ticket, if it fits, and the answer has the progress.
abbrev pub IsSaved : Unpacking → ℕ × ℕ → ℕ → ℕ → List ℕ → IimAnswer → Type 0
IsSaved u told written room out answer =
    (count : ℕ) × WritesTicketOf u out count
    × FitsOrIsShort written room count (length out) (record (status_answer told.0) { octet = u.octets; used = told.1; written = written; ticket = count }) answer

-- The unpacker for a ticket: in the initial state if the ticket is empty, otherwise restored from
-- the ticket.
abbrev pub IsBegun : Limits → List ℕ → ℕ → Unpacking → Type 0
IsBegun limits [] at u = HasRead u [] 0 × (limits_in u ≡ limits)
IsBegun limits (x ∷ xs) at u = IsRestored limits (x ∷ xs) at u

-- ---- The steps of the calls that read a state.

-- The bit of the octet is `bit`, and the bits of all other octets are unchanged.
pub record IsSet (old new : List ℕ) (octet bit : ℕ) : Type 0 where
  pub set : bit_of new octet ≡ bit
  pub others : (other : ℕ) → other ≢ octet → bit_of new other ≡ bit_of old other

-- the slice of the ticket with the stored octets of what is in progress
abbrev pub span_of : ℕ → Phase → IimSpan
span_of version (PartialTag held) = record { offset = 8; count = length held }
span_of version (PartialData set count left taken) = record { offset = 8 + 2 * width version; count = length taken }
span_of version AllEnded = no_span

-- ---- The steps of the calls that read a ticket.

-- the outcome of packing for an error
abbrev pub outcome_of : PackFault → packing.PackOutcome
outcome_of (faults.Refused line number name) = packing.Refused line number
outcome_of (faults.Around fault) = packing.NoMemory

-- ---- The steps of a call that audits a chunk.

-- How the search for rows ended: in this state of the audit, after the current envelope and the
-- remaining octets of the chunk; or because one of these octets is rejected.
abbrev pub AuditEndsBy : Limits → CurrentEnvelope → List ℕ → PieceAudit → Ending → Type 0
AuditEndsBy limits last rest audit Used = AuditHasConsumed audit (last.octets ++ rest) (sum_capped last.count (length rest))
AuditEndsBy limits last rest audit Full = AuditHasConsumed audit last.octets last.count
AuditEndsBy limits last rest audit (Refused e) = RejectsChunk limits last.octets last.count rest e

-- The array begins with the rows of the envelopes that end within the consumed octets of the chunk.
pub record HasFound (limits : Limits) (now : ℤ) (hand : CurrentEnvelope) (piece : List ℕ) (array : List IimAuditRow) (audit : PieceAudit) (found : Found) (ending : Ending) : Type 0 where
  pub last : CurrentEnvelope
  pub rows_are : AreRowsOfEnvelopes limits now hand (take found.used piece) (take found.rows array) last
  pub at_is : last.at ≡ found.at
  pub ends : AuditEndsBy limits last (drop found.used piece) audit ending

-- The number of octets consumed is at most the length of the chunk, and the other rows are
-- unchanged.
pub record IsWithinChunk (piece : List ℕ) (old new : List IimAuditRow) (found : Found) : Type 0 where
  pub used : found.used ≤ length piece
  pub room : found.rows ≤ length old
  pub others : drop found.rows new ≡ drop found.rows old

-- The array has capacity for another row, or is full. Unless an octet is rejected, the audit
-- continues under its limits.
abbrev pub EndsSearchBy : PieceAudit → PieceAudit → (rows room : ℕ) → Ending → Type 0
EndsSearchBy old new rows room Used = (rows < room) × (new.unpacker.refused ≡ None) × (limits_in new.unpacker ≡ limits_in old.unpacker)
EndsSearchBy old new rows room Full = (rows ≡ room) × (new.unpacker.refused ≡ None) × (limits_in new.unpacker ≡ limits_in old.unpacker)
EndsSearchBy old new rows room (Refused e) = rows < room

-- the part of an audit's state that is not in its ticket
abbrev pub kept_of : PieceAudit → Found → IimSoFar
kept_of audit found = record { at = found.at; octets = audit.unpacker.octets; words = audit.count.words; inside = audit.count.inside }

-- The ticket fits and is written, and so is the state beside it; or the ticket does not fit, and
-- the state is unchanged.
pub record SavesAudit (audit : PieceAudit) (found : Found) (told : ℕ × ℕ) (room : ℕ) (old new : IimSoFar) (out : List ℕ) (answer : IimAnswer) : Type 0 where
  pub saved : IsSaved audit.unpacker told found.rows room out answer
  pub keeps : answer.status ≡ told.0 → new ≡ kept_of audit found
  pub stays : answer.status ≢ told.0 → new ≡ old
