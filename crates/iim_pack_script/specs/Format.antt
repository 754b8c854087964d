-- The effect of `pack` on its input, its output and its error output.
use Rattle.std.specs.Prelude.{◌≡◌, ◌≢◌, ℕ, min, ◌+◌, ◌<◌, ◌≤◌, ◌⊎◌, Bool, if◌then◌else◌, List, ◌++◌, length, codes, decimal, Option}
use Rattle.std.specs.{Option.unwrap_or, Io.KnownBytes.IsAtEnd}
use Rattle.iim_dataset.specs.Format.{Octets.greatest_size, Datasets.Dataset}
use Rattle.iim_dataset.specs.States.Devices.{Device, WroteAllOf, WriteFailedAfter, ReadsGave, ReadFailedAfter}
pub use Rattle.iim_dataset.specs.declared.device.IoFault.{IoFault}
use Rattle.iim_object.specs.{Format.Objects.most_in, Format.Causes.pack_number, States.Writing.IsPrefix}
use Rattle.iim_object.specs.declared.{size.Size.TheVariants.Known, size.Size.TheVariants.Unknown, plan.Plan.Plan}
use Rattle.iim_object.specs.declared.writing.cause.PackCause.TheVariants as causes
use Rattle.wire_message.specs.Format.Messages.{Header, canonical}
use Rattle.iim_pack.specs.Format.Packed.{Packed}
use Rattle.iim_script.specs.Format.Causes.{script_cause_name, script_cause_number, IsScriptFault}
use Rattle.iim_script.specs.{declared.fault.ScriptCause.ScriptCause, Format.Scripts.IsScript, Format.Scripts.max_script}
use Rattle.iim_script.specs.declared.fault.ScriptCause.TheVariants as script
pub use Rattle.iim_output.specs.declared.fault.CommandFault.{CommandFault}
pub use Rattle.iim_output.specs.declared.fault.CommandFault.TheVariants.{CannotRead, CannotWrite, OutOfMemory}
pub use Rattle.iim_pack_script.specs.declared.packing.PackFault.{PackFault, TheVariants.Refused, TheVariants.Around}
use Rattle.iim_output.specs.States.Devices.{Devices}
use Rattle.iim_output.specs.Format.{limits, IsPrinted, status_accepted, status_refused}

-- A request: the length of a full subfile in octets; whether the size is left unknown; and in that
-- case the maximum size of the object, if any.
pub record Asked : Type 0 where
  pub subfile : ℕ
  pub unknown : Bool
  pub max : Option ℕ

abbrev pub asked : ℕ → Bool → Option ℕ → Asked
asked subfile unknown max = record { subfile = subfile; unknown = unknown; max = max }

-- The maximum size of an object: the maximum of an unknown size, otherwise the greatest size; but
-- no more than the greatest number of subfiles can contain.
abbrev pub max_object_size : Asked → ℕ
max_object_size a = min (if a.unknown then unwrap_or a.max greatest_size else greatest_size) (most_in a.subfile)

-- The plan is the one that is requested for this object: its size is unknown with the requested
-- maximum, or is the length of the object.
pub record IsRequestedPlan (a : Asked) (object : List ℕ) (plan : Plan) : Type 0 where
  pub subfile_is : plan.subfile ≡ a.subfile
  pub size_is : plan.size ≡ (if a.unknown then Unknown a.max else Known (length object))

-- ---- the contents of a script

pub record ScriptContent : Type 0 where
  pub fields : List Dataset
  pub head : Header
  pub trailer : List ℕ
  pub lines : List (List ℕ)
  pub text_line : ℕ

-- the object of these contents
abbrev pub object_of : ScriptContent → List ℕ
object_of t = canonical t.head t.lines t.trailer

-- The object exceeds the requested size.
abbrev pub IsPast : Asked → ScriptContent → Type 0
IsPast a t = max_object_size a < length (object_of t)

-- The octets are a script, within the limits of the command, with these contents.
abbrev pub IsScriptOf : List ℕ → ScriptContent → Type 0
IsScriptOf octets t = IsScript limits octets t.fields t.head t.trailer t.lines t.text_line

-- The form is the packed form of the contents, under the requested plan.
pub record IsRequestedForm (a : Asked) (t : ScriptContent) (form : List ℕ) : Type 0 where
  pub plan : Plan
  pub is_plan : IsRequestedPlan a (object_of t) plan
  pub packed : Packed t.fields t.head t.lines t.trailer plan form

-- the line that reports a refusal: the number of a line of the script, and the number and the name
-- of a cause
abbrev pub refusal_line : ℕ → ℕ → List ℕ → List ℕ
refusal_line line number name =
    codes "refused: script line " ++ (decimal line ++ (codes " cause " ++ (decimal number ++ (codes " " ++ (name ++ codes "\n")))))

-- Why the octets are not packed, and the line that reports it. Either the octets are not a script,
-- and the line has their first error; or they are a script whose object exceeds the requested size,
-- which is reported for the line `text`.
abbrev pub IsScriptRefusal : Asked → List ℕ → List ℕ → Type 0
IsScriptRefusal a octets text = ((line : ℕ) × (cause : ScriptCause) × IsScriptFault limits octets line cause × (cause ≢ script.OutOfMemory)
    × (text ≡ refusal_line line (script_cause_number cause) (script_cause_name cause)))
    ⊎ ((t : ScriptContent) × IsScriptOf octets t × IsPast a t
    × (text ≡ refusal_line t.text_line (pack_number causes.PastAnnounced) (codes "PastAnnounced")))

-- ---- the input

-- These octets were read, and no read failed: the complete input, or one octet more than a script
-- may have.
abbrev pub IsReadInput : Device → Device → List ℕ → Type 0
IsReadInput old new octets = ReadsGave old new octets × ((IsAtEnd new.octets × (length octets ≤ max_script)) ⊎ (length octets ≡ max_script + 1))

-- Why there is no script: a read failed after at most as many octets as a script may have; or an
-- allocation failed, for octets that were read or at the end of the input. Nothing is allocated
-- before the first octet or the end of the input.
abbrev pub FailsToRead : Device → Device → CommandFault → Type 0
FailsToRead old new CannotRead = (octets : List ℕ) × (fault : IoFault) × (length octets ≤ max_script) × ReadFailedAfter old new octets fault
FailsToRead old new CannotWrite = ⊥
FailsToRead old new OutOfMemory = (octets : List ℕ) × (length octets ≤ max_script + 1) × ReadsGave old new octets
    × ((0 < length octets) ⊎ IsAtEnd new.octets)

-- ---- the output

-- The octets are a script, and the requested packed form of its contents was written.
abbrev pub WritesForm : Asked → List ℕ → Device → Device → Type 0
WritesForm a octets old new = (t : ScriptContent) × (form : List ℕ) × IsScriptOf octets t × IsRequestedForm a t form × WroteAllOf old new form

-- The octets are a script whose object is within the requested size, and a write failed after a
-- prefix of the packed form under the requested plan.
abbrev pub BreaksOffPacking : Asked → List ℕ → Device → Device → Type 0
BreaksOffPacking a octets old new = (t : ScriptContent) × (plan : Plan) × (out : List ℕ) × IsScriptOf octets t × (IsPast a t → ⊥)
    × IsRequestedPlan a (object_of t) plan × WriteFailedAfter old new out × ((form : List ℕ) → Packed t.fields t.head t.lines t.trailer plan form → IsPrefix out form)

-- Why the octets are not packed: they are rejected, and this is the line that reports it; or a
-- write failed; or an allocation failed. Something is written only if a write failed.
abbrev pub FailsToPack : Asked → List ℕ → Device → Device → PackFault → Type 0
FailsToPack a octets old new (Refused line number name) = (new ≡ old) × IsScriptRefusal a octets (refusal_line line number name.now)
FailsToPack a octets old new (Around CannotRead) = ⊥
FailsToPack a octets old new (Around CannotWrite) = BreaksOffPacking a octets old new
FailsToPack a octets old new (Around OutOfMemory) = new ≡ old

-- ---- the effect

-- The envelope of the script is packed, and nothing is printed; or the script is rejected, nothing
-- is written to the output, and the error output has the line that reports it.
abbrev pub CompletesPack : Asked → Devices → Devices → ℕ → Type 0
CompletesPack a old new status = (octets : List ℕ) × IsReadInput old.input new.input octets
    × ((WritesForm a octets old.output new.output × (new.errors ≡ old.errors) × (status ≡ status_accepted))
    ⊎ ((text : List ℕ) × IsScriptRefusal a octets text × (new.output ≡ old.output) × IsPrinted old.errors new.errors text status_refused status))

-- Why no status is returned: the input was not read; or an allocation failed; or a write failed.
-- Something is written only in the last case.
abbrev pub FailsToComplete : Asked → Devices → Devices → CommandFault → Type 0
FailsToComplete a old new CannotWrite = (octets : List ℕ) × IsReadInput old.input new.input octets × BreaksOffPacking a octets old.output new.output
FailsToComplete a old new fault = FailsToRead old.input new.input fault × (new.output ≡ old.output)
