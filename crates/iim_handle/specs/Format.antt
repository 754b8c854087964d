-- The results of calls with a handle, and the state of the handle afterwards. The model of a handle
-- is the state of its unpacker, or None if the handle is closed.
use Rattle.std.specs.Prelude.{◌≡◌, ℕ, ◌<◌, ◌≤◌, ◌⊎◌, List, [], length}
use Rattle.std.specs.declared.option.Option.{Option}
use Rattle.std.specs.declared.option.Option.TheVariants.{None, Some}
use Rattle.iim_fields.specs.declared.limits.Limits.{Limits}
use Rattle.iim_fields.specs.States.Standing.{room_for}
use Rattle.iim_places.specs.Format.Open.{IsTruncatedAt}
use Rattle.iim_places.specs.States.Restored.{IsRestoreFault}
use Rattle.iim_places.specs.declared.refusal.Refusal.{Refusal}
use Rattle.iim_places.specs.declared.ticket.fault.TicketFault.{TicketFault}
use Rattle.iim_unpack.specs.States.Unpacking.{Unpacking, HasRead, IsDone, failed_at, limits_in, capacity_in}
use Rattle.iim_unpack.specs.States.Restored.{WritesTicketOf, IsRestored}
use Rattle.iim_unpack.specs.declared.unpacker.Progress.{Progress, TheVariants.Done}
use Rattle.iim_c.specs.Format.Answers.{status_answer, refusal_answer, short_answer, ticket_answer}
use Rattle.iim_c.specs.declared.answer.IimAnswer.{IimAnswer}
use Rattle.iim_c.specs.Format.Statuses as status
use Rattle.iim_c.specs.Format.Chunks.{HasFedText, HasRefusedText, progress_status}

-- the status of a call with a closed handle, and of opening an open handle
abbrev pub bad_handle : ℕ
bad_handle = 10

-- the status of saving a state after an octet was rejected
abbrev pub failed : ℕ
failed = 11

-- ---- opening

-- The unpacker is at the beginning of an envelope, under these limits and with the capacity that
-- they require.
pub record BeginsEnvelope (limits : Limits) (v : Unpacking) : Type 0 where
  pub begins : HasRead v [] 0
  pub limits_are : limits_in v ≡ limits
  pub capacity : capacity_in v ≡ room_for limits

-- An open handle is unchanged. A closed handle is opened with a new unpacker, or the allocation
-- fails.
abbrev pub HandleIsOpened : Limits → Option Unpacking → Option Unpacking → ℕ → Type 0
HandleIsOpened limits (Some u) new returned = (new ≡ Some u) × (returned ≡ bad_handle)
HandleIsOpened limits None (Some v) returned = BeginsEnvelope limits v × (returned ≡ status.done)
HandleIsOpened limits None None returned = returned ≡ status.no_memory

-- The unpacker of an open handle is at the beginning of an envelope, with the same limits and
-- capacity as before.
abbrev pub HandleIsReset : Option Unpacking → Option Unpacking → ℕ → Type 0
HandleIsReset (Some u) (Some v) returned = HasRead v [] 0 × (limits_in v ≡ limits_in u) × (capacity_in v ≡ capacity_in u) × (returned ≡ status.done)
HandleIsReset (Some u) None returned = ⊥
HandleIsReset None new returned = (new ≡ None) × (returned ≡ bad_handle)

-- ---- feeding

-- The unpacker has consumed the chunk, or the part of it up to the end of an envelope, after any
-- octets that reach its old state. The buffer has the text in the octets consumed, and the capacity
-- is unchanged. After the end of an envelope nothing is consumed.
pub record ConsumesChunk (u : Unpacking) (piece out : List ℕ) (v : Unpacking) (answer : IimAnswer) : Type 0 where
  pub progress : Progress
  pub accepts : u.refused ≡ None
  pub text : HasFedText u v piece out answer.written progress
  pub fits : (p : List ℕ) (a : ℕ) → HasRead u p a → answer.written ≤ length piece
  pub ended : IsDone u → (progress ≡ Done 0) × (v ≡ u) × (answer.written ≡ 0)
  pub limits_are : limits_in v ≡ limits_in u
  pub capacity : capacity_in v ≡ capacity_in u
  pub answer_is : answer ≡ record (status_answer (progress_status progress (length piece)).0)
      { octet = v.octets; used = (progress_status progress (length piece)).1; written = answer.written }

-- An octet of the chunk is rejected. The buffer has the text in the octets before it, and the
-- unpacker has failed.
pub record RejectsAndFails (u : Unpacking) (piece out : List ℕ) (v : Unpacking) (answer : IimAnswer) : Type 0 where
  pub refusal : Refusal
  pub accepts : u.refused ≡ None
  pub unended : IsDone u → ⊥
  pub text : HasRefusedText u piece out answer.written refusal
  pub fits : (p : List ℕ) (a : ℕ) → HasRead u p a → answer.written ≤ length piece
  pub fails : v.refused ≡ Some refusal.octet
  pub capacity : capacity_in v ≡ capacity_in u
  pub answer_is : answer ≡ record (refusal_answer status.refused refusal) { written = answer.written }

-- An octet was rejected earlier, and nothing changes.
pub record StaysFailed (u v : Unpacking) (answer : IimAnswer) : Type 0 where
  pub octet : ℕ
  pub was : u.refused ≡ Some octet
  pub same : v ≡ u
  pub answer_is : answer ≡ refusal_answer status.refused (failed_at octet)

abbrev pub UnpackerIsFed : Unpacking → List ℕ → List ℕ → Unpacking → IimAnswer → Type 0
UnpackerIsFed u piece out v answer = ConsumesChunk u piece out v answer ⊎ RejectsAndFails u piece out v answer ⊎ StaysFailed u v answer

-- A chunk was fed to a handle. If the handle is closed, or the buffer is shorter than the chunk,
-- nothing changes.
abbrev pub HandleIsFed : Option Unpacking → List ℕ → List ℕ → List ℕ → Option Unpacking → IimAnswer → Type 0
HandleIsFed (Some u) piece before out new answer =
    ((length before < length piece) × (new ≡ Some u) × (out ≡ before) × (answer ≡ short_answer (length piece) 0))
    ⊎ ((length piece ≤ length before) × ((v : Unpacking) × (new ≡ Some v) × UnpackerIsFed u piece out v answer))
HandleIsFed None piece before out new answer = (new ≡ None) × (out ≡ before) × (answer ≡ status_answer bad_handle)

-- ---- saving

-- The buffer has the ticket of the state; or the buffer is too short, and the answer has the length
-- of the ticket; or an octet was rejected earlier.
abbrev pub UnpackerIsSaved : Unpacking → List ℕ → IimAnswer → Type 0
UnpackerIsSaved u out answer =
    ((octet : ℕ) × (u.refused ≡ Some octet) × (answer ≡ status_answer failed))
    ⊎ ((count : ℕ) × (u.refused ≡ None) × WritesTicketOf u out count
    × (((count ≤ length out) × (answer ≡ record (status_answer status.done) { octet = u.octets; ticket = count }))
    ⊎ ((length out < count) × (answer ≡ short_answer 0 count))))

-- The handle is unchanged.
abbrev pub HandleIsSaved : Option Unpacking → Option Unpacking → List ℕ → List ℕ → IimAnswer → Type 0
HandleIsSaved (Some u) new before out answer = (new ≡ Some u) × UnpackerIsSaved u out answer
HandleIsSaved None new before out answer = (new ≡ None) × (out ≡ before) × (answer ≡ status_answer bad_handle)

-- A closed handle is opened with the unpacker that the ticket encodes, with the capacity that the
-- limits require; or the ticket is invalid; or the allocation fails. An open handle is unchanged.
abbrev pub HandleIsRestored : Limits → List ℕ → ℕ → Option Unpacking → Option Unpacking → IimAnswer → Type 0
HandleIsRestored limits ticket at (Some u) new answer = (new ≡ Some u) × (answer ≡ status_answer bad_handle)
HandleIsRestored limits ticket at None (Some v) answer =
    IsRestored limits ticket at v × (capacity_in v ≡ room_for limits) × (answer ≡ status_answer status.done)
HandleIsRestored limits ticket at None None answer =
    ((fault : TicketFault) × IsRestoreFault limits ticket fault × (answer ≡ ticket_answer fault)) ⊎ (answer ≡ status_answer status.no_memory)

-- ---- the end of the input

-- An envelope has ended; or an octet was rejected earlier; or the octets so far are truncated.
pub record UnpackerHasEnd (u : Unpacking) (answer : IimAnswer) : Type 0 where
  pub done : IsDone u → answer ≡ record (status_answer status.done) { octet = u.octets }
  pub failed : (octet : ℕ) → u.refused ≡ Some octet → answer ≡ refusal_answer status.refused (failed_at octet)
  pub truncated : (p : List ℕ) (a : ℕ) → HasRead u p a → (e : Refusal) × IsTruncatedAt p a e × (answer ≡ refusal_answer status.truncated e)

abbrev pub HandleHasEnd : Option Unpacking → Option Unpacking → IimAnswer → Type 0
HandleHasEnd (Some u) new answer = (new ≡ Some u) × UnpackerHasEnd u answer
HandleHasEnd None new answer = (new ≡ None) × (answer ≡ status_answer bad_handle)
