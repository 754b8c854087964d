-- Why an octet is rejected, and the printed form of the reason.
use Rattle.std.specs.Prelude.{ℕ, List, ◌++◌, codes, decimal}
use Rattle.iim_dataset.specs.declared.{fault.FaultCause.FaultCause, fault.Fault.Fault, stop.Stop.Stop}
use Rattle.iim_dataset.specs.declared.fault.FaultCause.TheVariants.{Marker, CountForm, Stopped}

-- The number of a cause. Number 60 means that the sink stopped.
abbrev pub number_of_dataset_cause : FaultCause → ℕ
number_of_dataset_cause Marker = 1
number_of_dataset_cause CountForm = 2
number_of_dataset_cause Stopped = 60

-- The name of a cause.
abbrev pub name_of_dataset_cause : FaultCause → List ℕ
name_of_dataset_cause Marker = codes "Marker"
name_of_dataset_cause CountForm = codes "CountForm"
name_of_dataset_cause Stopped = codes "Sink"

-- The printed form of a cause: its number and its name.
abbrev pub text_of_dataset_cause : FaultCause → List ℕ
text_of_dataset_cause cause = decimal (number_of_dataset_cause cause) ++ (codes " " ++ name_of_dataset_cause cause)

-- The printed form of a fault: the number of octets before the rejected one, and the cause.
abbrev pub text_of_dataset_fault : Fault → List ℕ
text_of_dataset_fault fault = codes "refused after " ++ (decimal fault.used ++ (codes " octets, cause " ++ text_of_dataset_cause fault.cause))

-- The printed form of a stop: the number of octets that the sink accepted before it.
abbrev pub text_of_stop : Stop → List ℕ
text_of_stop stop = codes "stopped after " ++ (decimal stop.taken ++ codes " octets")
