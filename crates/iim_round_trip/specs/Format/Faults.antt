-- Why nothing was unpacked: the numbers and names of the causes, and their printed forms.
use Rattle.std.specs.Prelude.{ℕ, List, codes}
use Rattle.iim_places.specs.Format.Causes.{cause_number, cause_name, refusal_text}
use Rattle.iim_round_trip.specs.Format.RoundTrip.{UnpackFault, OutOfMemory, Refused}

-- The number of the cause for which nothing was unpacked. For a refusal, it is the number of its
-- cause.
abbrev pub unpack_fault_number : UnpackFault → ℕ
unpack_fault_number OutOfMemory = 70
unpack_fault_number (Refused e) = cause_number e.cause

-- The name of the cause for which nothing was unpacked.
abbrev pub unpack_fault_name : UnpackFault → List ℕ
unpack_fault_name OutOfMemory = codes "OutOfMemory"
unpack_fault_name (Refused e) = cause_name e.cause

-- The printed form: the refusal, or `out of memory`.
abbrev pub unpack_fault_text : UnpackFault → List ℕ
unpack_fault_text OutOfMemory = codes "out of memory"
unpack_fault_text (Refused e) = refusal_text e
