-- The effects of the parts of `pack`, and a target with a buffer of one block. (Private to proofs.)
use Rattle.std.specs.Prelude.{◌≡◌, ◌<◌, ℕ, ◌-◌, cond, nat_le, List, ◌∷◌, ◌++◌, length, take, Option, Some, None, ◌≢◌, ◌≤◌, codes}
use Rattle.std.specs.Io.KnownBytes.{IsAtEnd}
use Rattle.iim_dataset.specs.States.Devices.{Device, ReadFailed, ReadsGave}
use Rattle.iim_object.specs.{Format.Causes.pack_number, declared.writing.cause.PackCause.PackCause}
use Rattle.iim_script.specs.Format.{Scripts.text_lines, Causes.script_cause_name, Causes.script_cause_number}
use Rattle.iim_script.specs.declared.{fault.ScriptFault.ScriptFault, script.Script.Script}
use Rattle.iim_pack_script.specs.Format.{ScriptContent, CommandFault, CannotRead, CannotWrite, OutOfMemory, PackFault, Refused, Around, IoFault}
use Rattle.iim_pack_script.specs.declared.blocks.BlockTarget.{BlockTarget}
use Rattle.iim_object.specs.declared.writing.cause.PackCause.TheVariants as causes
use Rattle.iim_script.specs.declared.fault.ScriptCause.TheVariants as script

-- the buffered octets
abbrev pub buffer_of : {W : Type 0} → BlockTarget W → List ℕ
buffer_of b = take b.used b.block.now

-- the number of octets that still fit into the block
abbrev pub remaining_capacity : {W : Type 0} → BlockTarget W → ℕ
remaining_capacity b = length b.block.now - b.used

-- The octets of a target, starting with the octets `first` that it had initially, and including
-- those that are buffered. They are preceded by the number of the first octets, so that two targets
-- with equal models started from the same number. They are known if the octets at first and now are
-- known, and the octets now are no fewer.
abbrev pub octets_from : Option (List ℕ) → List ℕ → Option (List ℕ) → Option (List ℕ)
octets_from None held now = None
octets_from (Some first) held None = None
octets_from (Some first) held (Some now) = cond (nat_le (length first) (length now)) (Some (length first ∷ (now ++ held))) None

-- the model of the block target as a plain target
abbrev pub block_device : {W : Type 0} → (W → Device) → BlockTarget W → Device
block_device state b = record {
  octets = octets_from (state b.first.value).octets (buffer_of b) (state b.writer).octets;
  failures = (state b.writer).failures;
  interruptions = (state b.writer).interruptions;
}

-- Nothing is buffered, and nothing was written through the block target.
pub record IsFresh {W : Type 0} (b : BlockTarget W) : Type 0 where
  pub first_is : b.first.value ≡ b.writer
  pub empty : b.used ≡ 0

-- One read, with retries after interruptions, appended `count` octets. The number is 0 only at the
-- end of the input.
pub record ReadsSome (old new : Device) (before after : List ℕ) (count : ℕ) : Type 0 where
  pub more : List ℕ
  pub given : ReadsGave old new more
  pub added : after ≡ before ++ more
  pub counted : count ≡ length more
  pub at_end : count ≡ 0 → IsAtEnd new.octets

-- A read failed; or a read returned octets, no more than fit into the buffer, and the allocation
-- for them failed.
abbrev pub IsFailedRead : Device → Device → ℕ → CommandFault → Type 0
IsFailedRead old new room CannotRead = (fault : IoFault) × ReadFailed old new fault
IsFailedRead old new room CannotWrite = ⊥
IsFailedRead old new room OutOfMemory = (more : List ℕ) × (0 < length more) × (length more ≤ room) × ReadsGave old new more

-- the contents of a parsed script
abbrev pub content_of : Script → ScriptContent
content_of s = record { fields = s.envelope; head = s.head; trailer = s.trailer.items; lines = text_lines s.text.now; text_line = s.text_line }

-- The error is reported with its line, or is a failed allocation.
abbrev pub IsFaultOfScript : ScriptFault → PackFault → Type 0
IsFaultOfScript f (Refused line number name) = (f.cause ≢ script.OutOfMemory) × (line ≡ f.line) × (number ≡ script_cause_number f.cause) × (name.now ≡ script_cause_name f.cause)
IsFaultOfScript f (Around OutOfMemory) = f.cause ≡ script.OutOfMemory
IsFaultOfScript f (Around _) = ⊥

-- The error for a cause of the packer. `text_line` is the number of the line `text` of the script.
abbrev pub IsFaultFor : PackCause → ℕ → PackFault → Type 0
IsFaultFor causes.PastAnnounced text_line (Refused line number name) = (line ≡ text_line) × (number ≡ pack_number causes.PastAnnounced) × (name.now ≡ codes "PastAnnounced")
IsFaultFor causes.OutOfMemory text_line (Around OutOfMemory) = Unit {0}
IsFaultFor causes.Write text_line (Around CannotWrite) = Unit {0}
IsFaultFor _ text_line _ = ⊥
