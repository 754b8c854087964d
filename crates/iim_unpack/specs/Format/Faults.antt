-- Numbers and names of the errors of saving an unpacker, and of an intake.
use Rattle.std.specs.Prelude.{ℕ, List, codes}
use Rattle.iim_places.specs.Format.Causes.{cause_number, cause_name}
use Rattle.iim_unpack.specs.declared.{ticket.spelling.SaveFault.SaveFault, intake.IntakeFault.IntakeFault}
use Rattle.iim_unpack.specs.declared.ticket.spelling.SaveFault.TheVariants.{Failed, OutOfMemory}
use Rattle.iim_unpack.specs.declared.intake.IntakeFault.TheVariants.{Refused, Read, Interrupted}

abbrev pub save_number : SaveFault → ℕ
save_number Failed = 61
save_number OutOfMemory = 70

abbrev pub save_name : SaveFault → List ℕ
save_name Failed = codes "Failed"
save_name OutOfMemory = codes "OutOfMemory"

-- The number of an error of an intake. For a refusal, it is the number of its cause.
abbrev pub intake_number : IntakeFault → ℕ
intake_number (Refused refusal) = cause_number refusal.cause
intake_number Read = 71
intake_number Interrupted = 72

abbrev pub intake_name : IntakeFault → List ℕ
intake_name (Refused refusal) = cause_name refusal.cause
intake_name Read = codes "Read"
intake_name Interrupted = codes "Interrupted"
