-- The result of auditing a chunk in the state of a ticket, and the rows of an audit for C.
use Rattle.std.specs.Prelude.{◌≡◌, ℕ, ◌-◌, ℤ, pos, List, ◌++◌, length, replicate, Option, is_some, ◌<◌, ◌≤◌, ◌⊎◌, [], ◌∷◌, take, drop, None, ⊤}
use Rattle.std.specs.Option.{unwrap_or}
use Rattle.iim_c.specs.Format.Tables.{IsOptionalInstant, IsInstant, IsInstantAt}
use Rattle.iim_c.specs.Format.Answers.{status_answer, short_answer, refusal_answer, IimAnswer, BeginsWith}
use Rattle.iim_c.specs.Format.Feeding.{HoldsForTicket, HasNoState, max_ticket_octets}
use Rattle.iim_c.specs.{Format.Tickets.words_so_far, Format.Tickets.state_at_start, declared.instant.IimInstant.IimInstant}
use Rattle.iim_fields.specs.Format.Records.{instant_of_release, instant_of_expiration}
use Rattle.iim_places.specs.{Format.Admitted.Value, Format.Open.IsIncomplete, Format.Streams.IsEnvelopeWithin}
use Rattle.iim_places.specs.{Format.Streams.sum_capped, Format.Tickets.IsTicketOf, declared.refusal.Refusal.Refusal}
use Rattle.iim_audit.specs.Format.{WordsAreCounted, RejectsChunk, row_with_first_of}
use Rattle.iim_audit.specs.declared.copy.CopyState.TheVariants.{Held, Expired, Free}
use Rattle.iim_audit.specs.declared.{copy.CopyState.CopyState, row.AuditRow.AuditRow}
use Rattle.iim_c.specs.Format.Statuses as status
use Rattle.iim_fields.specs.declared.limits.Limits.{Limits}
pub use Rattle.iim_c.specs.declared.{row.IimAuditRow.IimAuditRow, so_far.IimSoFar.IimSoFar}

-- octets, padded with zeros to a given length
abbrev pub padded : ℕ → List ℕ → List ℕ
padded room octets = octets ++ replicate (room - length octets) 0

-- the numbers of the copy states
abbrev pub copy_number : CopyState → ℕ
copy_number Free = 0
copy_number Held = 1
copy_number Expired = 2

-- The row of an envelope of this length, which begins at this offset of the input. It has the
-- values of an audit's row, except the earlier envelope that it repeats, and the instants of the
-- copy.
pub record IsRowFor (at octets : ℕ) (told : AuditRow) (release expires : Option ℤ) (row : IimAuditRow) : Type 0 where
  pub at_is : row.at ≡ at
  pub octets_are : row.octets ≡ octets
  pub service : row.service ≡ padded 10 told.id.service
  pub service_octets : row.service_octets ≡ length told.id.service
  pub number : row.number ≡ padded 8 told.id.number
  pub date_sent : row.date_sent ≡ padded 8 told.id.date_sent
  pub priority : row.priority ≡ unwrap_or told.priority 0
  pub size : row.size ≡ told.size
  pub subfiles : row.subfiles ≡ told.subfiles
  pub announced : row.announced ≡ told.announced
  pub counted : row.counted ≡ told.counted
  pub has_age : row.has_age ≡ is_some told.age
  pub age : row.age ≡ unwrap_or told.age (pos 0)
  pub copy : row.copy ≡ copy_number told.copy
  pub release_is : IsOptionalInstant release row.has_release row.release
  pub expires_is : IsOptionalInstant expires row.has_expires row.expires

-- ---- rows

-- the current envelope: the offset in the input at which it begins, its octets so far, and their
-- number
pub record CurrentEnvelope : Type 0 where
  pub at : ℕ
  pub octets : List ℕ
  pub count : ℕ

-- the same envelope after more octets
abbrev pub with_more : CurrentEnvelope → List ℕ → CurrentEnvelope
with_more hand more = record { at = hand.at; octets = hand.octets ++ more; count = sum_capped hand.count (length more) }

-- the envelope after the current one, if that is complete
abbrev pub after : CurrentEnvelope → CurrentEnvelope
after hand = record { at = sum_capped hand.at hand.count; octets = []; count = 0 }

-- The octets of the current envelope are complete, and this is its row.
pub record IsRow (limits : Limits) (now : ℤ) (hand : CurrentEnvelope) (row : IimAuditRow) : Type 0 where
  pub value : Value
  pub envelope : IsEnvelopeWithin limits hand.octets value
  pub tells : IsRowFor hand.at hand.count (row_with_first_of now value None) (instant_of_release value.fields) (instant_of_expiration value.fields) row

-- These octets complete the current envelope and further ones, and the rows are those of these
-- envelopes, in order. `next` is the current envelope afterwards.
abbrev pub AreRowsOfEnvelopes : Limits → ℤ → CurrentEnvelope → List ℕ → List IimAuditRow → CurrentEnvelope → Type 0
AreRowsOfEnvelopes limits now hand octets [] next = (octets ≡ []) × (next ≡ hand)
AreRowsOfEnvelopes limits now hand octets (row ∷ rows) next =
    (ended : List ℕ) × (others : List ℕ) × (octets ≡ ended ++ others) × IsRow limits now (with_more hand ended) row
    × AreRowsOfEnvelopes limits now (after (with_more hand ended)) others rows next

-- ---- the state after the rows

-- The octets of the current envelope are a viable prefix, the ticket encodes the state after them,
-- and `kept` is the rest of the audit's state.
pub record CanContinueAfter (limits : Limits) (hand : CurrentEnvelope) (next : List ℕ) (kept : IimSoFar) : Type 0 where
  pub is_open : IsIncomplete limits hand.octets
  pub ticket : IsTicketOf hand.octets next
  pub at : kept.at ≡ hand.at
  pub octets : kept.octets ≡ hand.count
  pub words : WordsAreCounted hand.octets (record { words = kept.words; inside = kept.inside })

-- the result for a chunk: the rows, the next ticket and the state beside it, and the answer if the
-- ticket fits
pub record ChunkOutcome : Type 0 where
  pub rows : List IimAuditRow
  pub next : List ℕ
  pub kept : IimSoFar
  pub answer : IimAnswer

-- The octets complete the envelopes of the rows, and `said` holds for the current envelope
-- afterwards.
abbrev pub CompleteRowsThen : Limits → ℤ → List ℕ → List IimAuditRow → (CurrentEnvelope → Type 0) → CurrentEnvelope → Type 0
CompleteRowsThen limits now octets rows said hand = (last : CurrentEnvelope) × AreRowsOfEnvelopes limits now hand octets rows last × said last

-- The chunk completes the envelopes of the rows, and the rest of it belongs to the next envelope.
abbrev pub ConsumesAll : Limits → ℤ → List ℕ → ChunkOutcome → CurrentEnvelope → Type 0
ConsumesAll limits now piece o hand = (used : ℕ) × (used ≤ length piece)
    × CompleteRowsThen limits now (take used piece) o.rows (λ last. CanContinueAfter limits (with_more last (drop used piece)) o.next o.kept) hand

-- The first `used` octets complete exactly these envelopes.
abbrev pub ConsumesSome : Limits → ℤ → List ℕ → ℕ → ChunkOutcome → CurrentEnvelope → Type 0
ConsumesSome limits now piece used o = CompleteRowsThen limits now (take used piece) o.rows (λ last. CanContinueAfter limits last o.next o.kept)

-- An octet after the envelopes of the rows is rejected.
abbrev pub RejectsAfterRows : Limits → ℤ → List ℕ → ℕ → Refusal → ChunkOutcome → CurrentEnvelope → Type 0
RejectsAfterRows limits now piece used e o =
    CompleteRowsThen limits now (take used piece) o.rows (λ last. RejectsChunk limits last.octets last.count (drop used piece) e × (o.kept ≡ state_at_start last.at))

-- ---- the result for a chunk

-- There are octets that reach the ticket's state and are a viable prefix. `said` holds for all such
-- octets whose words are as counted in `so_far`.
abbrev pub HoldsForAudit : Limits → List ℕ → IimSoFar → (CurrentEnvelope → Type 0) → Type 0
HoldsForAudit limits ticket so_far said =
    HoldsForTicket limits ticket so_far.octets
    (λ p a. WordsAreCounted p (words_so_far ticket so_far) → said (record { at = so_far.at; octets = p; count = a })) (λ p a. ⊥)

-- the answer if the audit can continue
abbrev pub continuing_answer : (state used : ℕ) → ChunkOutcome → IimAnswer
continuing_answer state used o = record (status_answer state) { octet = o.kept.octets; used = used; written = length o.rows; ticket = length o.next }

-- The result for a chunk and an array of the capacity `room`: the whole chunk is consumed; or the
-- part of it that gives `room` rows is consumed; or one of its octets is rejected.
abbrev pub IsOutcome : Limits → ℤ → List ℕ → IimSoFar → List ℕ → ℕ → ChunkOutcome → Type 0
IsOutcome limits now ticket so_far piece room o =
    (HoldsForAudit limits ticket so_far (ConsumesAll limits now piece o) × (length o.rows < room) × (o.answer ≡ continuing_answer status.more (length piece) o))
    ⊎ ((used : ℕ) × HoldsForAudit limits ticket so_far (ConsumesSome limits now piece used o) × (used ≤ length piece) × (length o.rows ≡ room)
    × (o.answer ≡ continuing_answer status.done used o))
    ⊎ ((used : ℕ) × (e : Refusal) × HoldsForAudit limits ticket so_far (RejectsAfterRows limits now piece used e o) × (used ≤ length piece) × (length o.rows < room)
    × (o.next ≡ []) × (o.answer ≡ record (refusal_answer status.refused e) { used = used; written = length o.rows }))

-- ---- the answer

-- The array begins with the rows, and its other entries are unchanged. Either the ticket fits into
-- its buffer and is written, and so is the state beside it; or the ticket does not fit, and the
-- state is unchanged.
abbrev pub IsAnswered : ChunkOutcome → List IimAuditRow → List IimAuditRow → List ℕ → IimSoFar → IimSoFar → IimAnswer → Type 0
IsAnswered o array array_new ticket_out old new told = (array_new ≡ o.rows ++ drop (length o.rows) array)
    × ((BeginsWith ticket_out o.next × (new ≡ o.kept) × (told ≡ o.answer))
    ⊎ ((length ticket_out < length o.next) × (new ≡ old) × (told ≡ short_answer (length o.rows) (length o.next))))

-- The chunk is audited at an instant in the state of the ticket, and the answer has the result. A
-- buffer of the length that the limits allow is never too short. Or the audit cannot continue, and
-- writes no row: the envelope of the ticket is complete, the ticket is invalid, or an allocation
-- fails.
abbrev pub ReturnsAuditedAt : Limits → List ℕ → IimSoFar → List ℕ → ℤ → List IimAuditRow → List IimAuditRow → List ℕ → IimSoFar → IimAnswer → Type 0
ReturnsAuditedAt limits ticket old piece now array array_new ticket_out new told =
    ((o : ChunkOutcome) × IsOutcome limits now ticket old piece (length array) o × (length o.next ≤ max_ticket_octets limits)
    × IsAnswered o array array_new ticket_out old new told)
    ⊎ (HoldsForTicket limits ticket old.octets (λ p a. ⊥) (λ p a. ⊤) × (array_new ≡ array) × (new ≡ old) × (told ≡ status_answer status.bad_ticket))
    ⊎ (HasNoState limits ticket told × (array_new ≡ array) × (new ≡ old))

-- The instant is invalid, and nothing changes.
pub record IsInvalidInstant (now : IimInstant) (array array_new : List IimAuditRow) (old new : IimSoFar) (told : IimAnswer) : Type 0 where
  pub none : IsInstant now → ⊥
  pub array_is : array_new ≡ array
  pub keeps : new ≡ old
  pub answer : told ≡ status_answer status.bad_instant

-- The chunk is audited at the given instant, or the instant is invalid.
abbrev pub IsAudited : Limits → List ℕ → IimSoFar → List ℕ → IimInstant → List IimAuditRow → List IimAuditRow → List ℕ → IimSoFar → IimAnswer → Type 0
IsAudited limits ticket old piece now array array_new ticket_out new told =
    ((nanosecond : ℤ) × IsInstantAt now nanosecond × ReturnsAuditedAt limits ticket old piece nanosecond array array_new ticket_out new told)
    ⊎ IsInvalidInstant now array array_new old new told
