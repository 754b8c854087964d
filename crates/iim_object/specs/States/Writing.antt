-- A writer of subfiles: what it has received, what it has written, and the results of its calls.
use Rattle.std.specs.Prelude.{◌≡◌, ℕ, ◌+◌, ◌<◌, ◌≤◌, ◌⊎◌, min, nat_le, not, Bool, true, false, if◌then◌else◌, List, [], ◌++◌, length, Option, Some, None}
use Rattle.iim_dataset.specs.States.Devices.{Device, WroteAllOf, FailedOrInterrupted, WithinInterruptionLimit}
use Rattle.std.specs.Io.KnownBytes.{Appends}
use Rattle.iim_dataset.specs.Format.Datasets.{canonical_stream}
use Rattle.iim_object.specs.Format.Objects.{bound_of, is_short, Known}
use Rattle.iim_object.specs.Format.Packing.{AreFull, joined_parts, plan_datasets, subfile_datasets, IsWrittenObject}
use Rattle.iim_object.specs.declared.{plan.Plan.Plan, writing.cause.PackCause.PackCause}
use Rattle.iim_object.specs.declared.writing.cause.PackCause.TheVariants as causes

-- The model of a writer of subfiles: its plan, the buffered octets, its capacity, the number of
-- octets of the object that were written, the number of all octets that were written, whether a
-- write failed, and its target.
pub record Writing (W : Type 0) : Type 0 where
  pub plan : Plan
  pub held : List ℕ
  pub room : ℕ
  pub sent : ℕ
  pub written : ℕ
  pub failed : Bool
  pub writer : W

-- the greatest length of an object under the plan
abbrev pub plan_bound : Plan → ℕ
plan_bound plan = bound_of plan.subfile plan.size

-- the capacity of a writer under the plan: a full subfile or the bound, whichever is less
abbrev pub plan_capacity : Plan → ℕ
plan_capacity plan = min plan.subfile (plan_bound plan)

-- the number of octets of the object so far
abbrev pub total_of : {W : Type 0} → Writing W → ℕ
total_of w = w.sent + length w.held

-- the encoding of the plan in record 7
abbrev pub plan_octets : Plan → List ℕ
plan_octets plan = canonical_stream (plan_datasets plan.subfile plan.size)

-- the octets written after record 7 and these subfiles
abbrev pub octets_written : Plan → List (List ℕ) → List ℕ
octets_written plan parts = canonical_stream (plan_datasets plan.subfile plan.size ++ subfile_datasets parts)

-- The writer has received this object, and has written `out`: record 7 and full subfiles. The data
-- of these and the buffered octets form the object. If nothing is buffered, the object is empty.
pub record HasWritten {W : Type 0} (w : Writing W) (object out : List ℕ) : Type 0 where
  pub unfailed : w.failed ≡ false
  pub parts : List (List ℕ)
  pub are_full : AreFull w.plan.subfile parts
  pub object_is : object ≡ joined_parts parts ++ w.held
  pub some : w.held ≡ [] → object ≡ []
  pub sent : w.sent ≡ length (joined_parts parts)
  pub within : length w.held ≤ plan_capacity w.plan
  pub out_is : out ≡ octets_written w.plan parts
  pub written : w.written ≡ length out

-- The writer received these octets, after any it had received before. It wrote some octets, and
-- each of the writes was interrupted at most a million times in a row.
pub record WriterAccepts {W : Type 0} (state : W → Device) (old new : Writing W) (octets : List ℕ) : Type 0 where
  pub more : List ℕ
  pub wrote : WroteAllOf (state old.writer) (state new.writer) more
  pub retry_limit : WithinInterruptionLimit (length more) (state old.writer) (state new.writer)
  pub plan : new.plan ≡ old.plan
  pub unfailed : new.failed ≡ false
  pub counted : new.written ≡ old.written + length more
  pub total : total_of new ≡ total_of old + length octets
  pub stands : (object out : List ℕ) → HasWritten old object out → HasWritten new (object ++ octets) (out ++ more)

-- xs is a prefix of ys
abbrev pub IsPrefix : List ℕ → List ℕ → Type 0
IsPrefix xs ys = (rest : List ℕ) × (xs ++ rest ≡ ys)

-- A write failed. The octets written before the failure were counted, and each write, including the
-- failed one, was interrupted at most a million times in a row. Whatever the writer had received,
-- what it has written is a prefix of an encoding that `May` allows for the object.
pub record WriterFails {W : Type 0} (state : W → Device) (May : List ℕ → List ℕ → Type 0) (old new : Writing W) : Type 0 where
  pub more : List ℕ
  pub appends : Appends (state old.writer).octets (state new.writer).octets more
  pub broke : FailedOrInterrupted (state old.writer) (state new.writer)
  pub retry_limit : WithinInterruptionLimit (length more + 1) (state old.writer) (state new.writer)
  pub plan : new.plan ≡ old.plan
  pub failed : new.failed ≡ true
  pub counted : new.written ≡ old.written + length more
  pub begins : (object out whole : List ℕ) → HasWritten old object out → May object whole → IsPrefix (out ++ more) whole

-- the octets are the encoding of some object that begins with `front`
abbrev pub IsWrittenFrom : Plan → List ℕ → List ℕ → Type 0
IsWrittenFrom plan front whole = (rest : List ℕ) × IsWrittenObject plan.subfile plan.size (front ++ rest) whole

-- the octets are the encoding of some object that begins with `object ++ octets`
abbrev pub IsWrittenOfMore : Plan → List ℕ → List ℕ → List ℕ → Type 0
IsWrittenOfMore plan octets object whole = IsWrittenFrom plan (object ++ octets) whole

-- the octets are the encoding of the object
abbrev pub IsWrittenOf : Plan → List ℕ → List ℕ → Type 0
IsWrittenOf plan object whole = IsWrittenObject plan.subfile plan.size object whole

-- The encoding of the object under the plan is written. Each write was interrupted at most a
-- million times in a row.
pub record WriterFinishes {W : Type 0} (state : W → Device) (old : Writing W) (writer : W) : Type 0 where
  pub more : List ℕ
  pub wrote : WroteAllOf (state old.writer) (state writer) more
  pub retry_limit : WithinInterruptionLimit (length more) (state old.writer) (state writer)
  pub whole : (object out : List ℕ) → HasWritten old object out → IsWrittenObject old.plan.subfile old.plan.size object (out ++ more)

-- ---- Causes.

-- an object with this number of octets exceeds the bound of the plan
abbrev pub exceeds_plan : Plan → ℕ → Bool
exceeds_plan plan octets = not (nat_le octets (plan_bound plan))

-- An object with this number of octets exceeds the bound of the plan.
abbrev pub ExceedsPlan : Plan → ℕ → Type 0
ExceedsPlan plan octets = plan_bound plan < octets

-- An object with this number of octets is shorter than a known size.
abbrev pub IsBelowKnown : Plan → ℕ → Type 0
IsBelowKnown plan octets = (n : ℕ) × (plan.size ≡ Known n) × (octets < n)

-- The first cause that rejects n more octets: a write failed earlier, or the object would exceed
-- the bound.
abbrev pub write_cause : {W : Type 0} → Writing W → ℕ → Option PackCause
write_cause w n =
    if w.failed then Some causes.Failed
    else if exceeds_plan w.plan (total_of w + n) then Some causes.PastAnnounced
    else None

-- The first cause that rejects the end: a write failed earlier, or the object is shorter than the
-- known size.
abbrev pub finish_cause : {W : Type 0} → Writing W → Option PackCause
finish_cause w =
    if w.failed then Some causes.Failed
    else if is_short w.plan.size (total_of w) then Some causes.ShortOfAnnounced
    else None

-- Why n more octets are rejected, in this order: a write failed earlier; the object would exceed
-- the bound of the plan. The end of the object needs no octets.
abbrev pub RejectsOctets : {W : Type 0} → Writing W → ℕ → PackCause → Type 0
RejectsOctets w n cause = ((w.failed ≡ true) × (cause ≡ causes.Failed))
    ⊎ ((w.failed ≡ false) × ExceedsPlan w.plan (total_of w + n) × (cause ≡ causes.PastAnnounced))

-- Why the end is rejected, in this order: a write failed earlier; the object is shorter than the
-- known size.
abbrev pub RejectsEnd : {W : Type 0} → Writing W → PackCause → Type 0
RejectsEnd w cause = ((w.failed ≡ true) × (cause ≡ causes.Failed))
    ⊎ ((w.failed ≡ false) × IsBelowKnown w.plan (total_of w) × (cause ≡ causes.ShortOfAnnounced))
