-- The lines that the commands print, their limits, and the exit statuses of the program.
use Rattle.std.specs.Prelude.{ℕ, List, ◌++◌, codes, decimal, ◌≡◌, ◌⊎◌}
use Rattle.iim_fields.specs.{Format.Records.wire_limits, declared.limits.Limits.Limits}
use Rattle.iim_places.specs.{Format.Causes.refusal_text, declared.refusal.Refusal.Refusal}
use Rattle.iim_dataset.specs.States.Devices.{Device, WroteAllOf, WroteOnlyPrefixOf}
pub use Rattle.iim_output.specs.declared.fault.CommandFault.{CommandFault}
pub use Rattle.iim_output.specs.declared.fault.CommandFault.TheVariants.{CannotRead, CannotWrite, OutOfMemory}

-- the limits on records 1 and 2 of an envelope, which are those of wire copy
abbrev pub limits : Limits
limits = wire_limits

-- the line of an accepted envelope, with its number and its length in octets
abbrev pub accepted_line : ℕ → ℕ → List ℕ
accepted_line number used = decimal number ++ (codes " accepted " ++ (decimal used ++ codes " octets\n"))

-- the line of a refusal: the number of the envelope, then the octet, the layer, the dataset and the
-- cause
abbrev pub refused_line : ℕ → Refusal → List ℕ
refused_line number e = decimal number ++ (codes " " ++ (refusal_text e ++ codes "\n"))

-- the line that is printed for the first envelope over the limit
abbrev pub too_many_line : List ℕ
too_many_line = codes "too many envelopes\n"

-- the line of an error
abbrev pub fault_line : CommandFault → List ℕ
fault_line CannotRead = codes "cannot read\n"
fault_line CannotWrite = codes "cannot write\n"
fault_line OutOfMemory = codes "out of memory\n"

-- the whole input is accepted
abbrev pub status_accepted : ℕ
status_accepted = 0

-- octets are rejected, or the input has too many envelopes
abbrev pub status_refused : ℕ
status_refused = 1

-- the arguments are invalid
abbrev pub status_usage : ℕ
status_usage = 2

-- a file, an output or an allocation failed
abbrev pub status_failed : ℕ
status_failed = 3

-- ---- Writing a text without buffering.

-- The text is written, and the status is the requested one; or a write of the text failed, and the
-- status is 3.
abbrev pub IsPrinted : Device → Device → List ℕ → ℕ → ℕ → Type 0
IsPrinted old new text want status = (WroteAllOf old new text × (status ≡ want)) ⊎ ((n : ℕ) × WroteOnlyPrefixOf old new text n × (status ≡ status_failed))

-- A write of the text failed.
abbrev pub WriteFails : Device → Device → List ℕ → CommandFault → Type 0
WriteFails old new text fault = (fault ≡ CannotWrite) × (n : ℕ) × WroteOnlyPrefixOf old new text n
