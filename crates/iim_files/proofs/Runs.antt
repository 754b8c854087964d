-- A command over one of several files.
use Rattle.std.proofs.Common.{◌≡◌, ℕ, Bool, List, Option, subst}
use Rattle.iim_dataset.specs.States.Devices.{Device}
use Rattle.iim_request.specs.declared.request.Job.{Job}
use Rattle.iim_files.specs.States.Runs.{RunsPrefixed}

-- a run between devices that are equal to others
pub run_as : {R : Type 0} (state : R → Device) (leads : R → R → Type 0) (job : Job) (reader : R) (a b output errors : Device)
    (new : Option (List ℕ) × Option (List ℕ)) (broken : Bool) (status : ℕ) → a ≡ output → b ≡ errors → RunsPrefixed state leads job reader
    (a, b) new broken status
    → RunsPrefixed state leads job reader (output, errors) new broken status
run_as state leads job reader a b output errors new broken status e f h = rw (← e, ← f) h
