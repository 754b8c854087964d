-- The remaining input of an intake, and the results of its calls.
use Rattle.std.specs.Prelude.{◌≡◌, ◌≢◌, ℕ, ◌+◌, ◌<◌, ◌⊎◌, false, List, [], ◌++◌, length, take, slice_index, Option, None, Some, Bool, true, Result, IfOk, IfErr}
use Rattle.std.specs.Io.KnownBytes.{IsAtEnd}
use Rattle.iim_dataset.specs.States.Devices.{Device, ReadsGave, ReadFailedAfter, WithinInterruptionLimit}
use Rattle.iim_dataset.specs.declared.device.IoFault.{IoFault}
use Rattle.iim_dataset.specs.declared.device.IoFault.TheVariants as io
use Rattle.iim_fields.specs.declared.limits.Limits.{Limits}
use Rattle.wire_story.specs.Format.Texts as story
use Rattle.iim_places.specs.Format.{Admitted.Value, Causes.refusal_at, Streams.sum_capped, Streams.IsEnvelopeWithin}
use Rattle.iim_places.specs.Format.Open.{IsIncomplete, Delivers, RefusesNext, IsTruncatedAt}
use Rattle.iim_places.specs.declared.{fault.TokenFault.TokenFault, refusal.Refusal.Refusal}
use Rattle.iim_unpack.specs.{States.Blocks.with_unread, Format.Pieces.HasParts, Format.Pieces.Unpacked}
use Rattle.iim_unpack.specs.States.Unpacking.{CountsSinkFailure, has_ended, Unpacking, HasRead, IsDoneWith, AreSame, limits_in}
use Rattle.iim_unpack.specs.declared.intake.{Fed.Fed, Intake.Intake, IntakeFault.IntakeFault}
use Rattle.iim_unpack.specs.declared.intake.IntakeFault.TheVariants.{Refused, Read, Interrupted}
use Rattle.iim_unpack.specs.declared.intake.Fed.TheVariants as piece

-- the remaining input of an intake, modelled as a source: the octets of the block, then those of
-- the reader
abbrev pub input_of : {R : Type 0} → (R → Device) → Intake R → Device
input_of state i = with_unread i.block (state i.reader)

-- The unpacker has neither completed an envelope nor failed.
abbrev pub AcceptsInput : Unpacking → Type 0
AcceptsInput u = (u.refused ≡ None) × (has_ended u.parts ≡ false)

-- Exactly these octets were removed from the remaining input, and the sink received these events.
-- At most a million interruptions occurred for each octet, plus a million.
pub record ReadsInput {S : Type 0} (goes : S → List story.StoryEvent → S → Type 0) (old new : Device) (a b : S) (octets : List ℕ) (more : List story.StoryEvent) : Type 0 where
  pub given : ReadsGave old new octets
  pub told : goes a more b
  pub retry_limit : WithinInterruptionLimit (length octets + 1) old new

-- No octet was consumed, no input remains, and the unpacker has never consumed an octet. At most a
-- million interruptions occurred.
pub record HasEnded {S : Type 0} (old new : Device) (u : Unpacking) (a b : S) : Type 0 where
  pub given : ReadsGave old new []
  pub at_end : IsAtEnd new.octets
  pub retry_limit : WithinInterruptionLimit 1 old new
  pub still : b ≡ a
  pub none : (p : List ℕ) (n : ℕ) → HasRead u p n → p ≡ []

-- The unpacker has consumed these octets after those before, and the events `more` are delivered
-- for these octets.
abbrev pub HasReadOn : Unpacking → Unpacking → List ℕ → List story.StoryEvent → Type 0
HasReadOn u v octets more = (p : List ℕ) (a : ℕ) → HasRead u p a → HasRead v (p ++ octets) (sum_capped a (length octets)) × Delivers p octets more

-- Octets were consumed, after which the envelope is incomplete. `used` is their number. At most a
-- million interruptions occurred for each octet.
pub record HasFed {S : Type 0} (goes : S → List story.StoryEvent → S → Type 0) (old new : Device) (u v : Unpacking) (a b : S) (used : ℕ) : Type 0 where
  pub octets : List ℕ
  pub more : List story.StoryEvent
  pub came : ReadsInput goes old new a b octets more
  pub retry_limit : WithinInterruptionLimit (length octets) old new
  pub counts : used ≡ sum_capped 0 (length octets)
  pub limits : limits_in v ≡ limits_in u
  pub stands : HasReadOn u v octets more

-- Octets were consumed, with which the envelope is complete. `used` is their number.
pub record IsCompleted {S : Type 0} (goes : S → List story.StoryEvent → S → Type 0) (old new : Device) (u v : Unpacking) (a b : S) (used : ℕ) : Type 0 where
  pub octets : List ℕ
  pub more : List story.StoryEvent
  pub came : ReadsInput goes old new a b octets more
  pub limits : limits_in v ≡ limits_in u
  pub counts : used ≡ sum_capped 0 (length octets)
  pub done : (p : List ℕ) (n : ℕ) → HasRead u p n → IsDoneWith v (p ++ octets) (sum_capped n (length octets)) × Delivers p octets more

-- The result of feeding one chunk. A non-empty chunk was consumed, and the unpacker accepts more
-- input; or the envelope is complete; or no input remains, and the unpacker is unchanged and has
-- consumed nothing. (The arguments are the remaining input, the unpacker and the sink, before and
-- after.)
abbrev pub FedChunk : {S : Type 0} → (S → List story.StoryEvent → S → Type 0) → Device × Unpacking × S → Device × Unpacking × S
    → Fed → Type 0
FedChunk goes (old, u, a) (new, v, b) (piece.More used) = (0 < used) × AcceptsInput v × HasFed goes old new u v a b used
FedChunk goes (old, u, a) (new, v, b) (piece.Done used) = IsCompleted goes old new u v a b used
FedChunk goes (old, u, a) (new, v, b) piece.End = (v ≡ u) × HasEnded old new u a b

-- The result of feeding an unpacker up to the end of an envelope. The envelope is complete; or no
-- input remains, and the unpacker is unchanged and has consumed nothing. (The arguments are the
-- remaining input, the unpacker and the sink, before and after, and the number of octets consumed.)
abbrev pub FedEnvelope : {S : Type 0} → (S → List story.StoryEvent → S → Type 0) → Device × Unpacking × S → Device × Unpacking × S
    → ℕ → Bool → Type 0
FedEnvelope goes (old, u, a) (new, v, b) used true = IsCompleted goes old new u v a b used
FedEnvelope goes (old, u, a) (new, v, b) used false = (used ≡ 0) × ((v ≡ u) × HasEnded old new u a b)

-- Octet k of the octets is rejected, and the events `more` are delivered for the octets before it.
pub record IsRefusedAmong (limits : Limits) (p : List ℕ) (a : ℕ) (octets : List ℕ) (more : List story.StoryEvent) (e : Refusal) : Type 0 where
  pub k : ℕ
  pub within : k < length octets
  pub fault : TokenFault
  pub refusal : e ≡ refusal_at (sum_capped a k) fault
  pub adds : Delivers p (take k octets) more
  pub refuses : RefusesNext limits (p ++ take k octets) (slice_index octets k) fault

-- Octets were consumed, one of which the unpacker has rejected.
pub record HasRefused {S : Type 0} (goes : S → List story.StoryEvent → S → Type 0) (failures : S → ℕ) (old new : Device) (u v : Unpacking) (a b : S) (e : Refusal) : Type 0 where
  pub octets : List ℕ
  pub more : List story.StoryEvent
  pub came : ReadsInput goes old new a b octets more
  pub counts : CountsSinkFailure e.cause (failures a) (failures b)
  pub refused : v.refused ≡ Some e.octet
  pub refuses : (p : List ℕ) (n : ℕ) → HasRead u p n → IsRefusedAmong (limits_in u) p n octets more e

-- The octets after `p` are incomplete and non-empty, and the refusal reports that they are
-- truncated.
pub record IsTruncatedIn (limits : Limits) (p : List ℕ) (a : ℕ) (octets : List ℕ) (more : List story.StoryEvent) (e : Refusal) : Type 0 where
  pub is_open : IsIncomplete limits (p ++ octets)
  pub some : p ++ octets ≡ [] → ⊥
  pub adds : Delivers p octets more
  pub truncated : IsTruncatedAt (p ++ octets) (sum_capped a (length octets)) e

-- Octets were consumed, no input remains, and the envelope is truncated.
pub record WasTruncated {S : Type 0} (goes : S → List story.StoryEvent → S → Type 0) (failures : S → ℕ) (old new : Device) (u v : Unpacking) (a b : S) (e : Refusal) : Type 0 where
  pub octets : List ℕ
  pub more : List story.StoryEvent
  pub came : ReadsInput goes old new a b octets more
  pub at_end : IsAtEnd new.octets
  pub no_failure : failures b ≡ failures a
  pub limits : limits_in v ≡ limits_in u
  pub stands : HasReadOn u v octets more
  pub truncated : (p : List ℕ) (n : ℕ) → HasRead u p n → IsTruncatedIn (limits_in u) p n octets more e

-- Octets were consumed, and then the reader failed with this error. `kept` is the unpacker's count
-- of octets. At most a million interruptions occurred for each octet, plus a million.
pub record ReaderFails {S : Type 0} (goes : S → List story.StoryEvent → S → Type 0) (failures : S → ℕ) (old new : Device) (u v : Unpacking) (a b : S) (kept : ℕ) (fault : IoFault) : Type 0 where
  pub octets : List ℕ
  pub more : List story.StoryEvent
  pub missed : ReadFailedAfter old new octets fault
  pub retry_limit : WithinInterruptionLimit (length octets + 1) old new
  pub told : goes a more b
  pub no_failure : failures b ≡ failures a
  pub counts : kept ≡ v.octets
  pub limits : limits_in v ≡ limits_in u
  pub stands : HasReadOn u v octets more

-- Why an intake returns nothing, and the octet that it stores for later calls. (The arguments are
-- the remaining input, the unpacker and the sink, before and after.)
abbrev pub Faults : {S : Type 0} → (S → List story.StoryEvent → S → Type 0) → (S → ℕ) → Device → Device → Unpacking → Unpacking → S → S → ℕ → IntakeFault → Type 0
Faults goes failures old new u v a b kept (Refused e) = (kept ≡ e.octet) × (HasRefused goes failures old new u v a b e ⊎ WasTruncated goes failures old new u v a b e)
Faults goes failures old new u v a b kept Read = ReaderFails goes failures old new u v a b kept io.Failed
Faults goes failures old new u v a b kept Interrupted = ReaderFails goes failures old new u v a b kept io.Interrupted

-- The intake returns nothing for this reason, and stores an octet for later calls. (The arguments
-- are the intake, the unpacker and the sink, before and after.)
abbrev pub ReturnsNone : {R S : Type 0} → (S → List story.StoryEvent → S → Type 0) → (S → ℕ) → (R → Device) → Intake R × Unpacking × S
    → Intake R × Unpacking × S → IntakeFault → Type 0
ReturnsNone goes failures state (old, u, a) (new, v, b) fault = (kept : ℕ) × (new.failed ≡ Some kept)
    × Faults goes failures (input_of state old) (input_of state new) u v a b kept fault

-- Nothing is read if octets are buffered.
pub record ReadsOnlyIfEmpty {R S : Type 0} (old new : Intake R) (u v : Unpacking) (a b : S) (result : Result Fed IntakeFault) : Type 0 where
  -- If octets were buffered, the reader is unchanged.
  pub held : 0 < length old.block → new.reader ≡ old.reader
  -- The end of the input is reported only if no octets were buffered.
  pub ended : IfOk result (λ fed. fed ≡ piece.End → old.block ≡ [])
  -- An error of the reader is reported only if no octets were buffered. Then nothing was fed:
  -- unpacker and sink are unchanged.
  pub unread : IfErr result (λ fault. ((e : Refusal) → fault ≢ Refused e) → (old.block ≡ []) × AreSame u a v b)

-- Octets were consumed, with which the envelope is complete and has this value. `used` is their
-- number.
pub record IsReturned {S : Type 0} (goes : S → List story.StoryEvent → S → Type 0) (old new : Device) (u : Unpacking) (a b : S) (used : ℕ) (got : Unpacked) : Type 0 where
  pub octets : List ℕ
  pub more : List story.StoryEvent
  pub came : ReadsInput goes old new a b octets more
  pub counts : used ≡ sum_capped 0 (length octets)
  pub envelope : (p : List ℕ) (n : ℕ) → HasRead u p n
      → (value : Value) × IsEnvelopeWithin (limits_in u) (p ++ octets) value × HasParts got value × Delivers p octets more

-- The result of an intake. (The arguments are the remaining input and the sink, before and after,
-- the unpacker before, and the number of octets consumed.)
abbrev pub Gives : {S : Type 0} → (S → List story.StoryEvent → S → Type 0) → Device × Unpacking × S → Device × S → ℕ → Option Unpacked
    → Type 0
Gives goes (old, u, a) (new, b) used (Some got) = IsReturned goes old new u a b used got
Gives goes (old, u, a) (new, b) used None = (used ≡ 0) × HasEnded old new u a b
