-- Faults after calls without a failure.
use Rattle.std.proofs.Common.{ℕ, List, ◌++◌, arith, ◌∙◌}
use Rattle.iim_dataset.specs.States.Devices.{FailedForFault, Device, ReadsGave, ReadFailedAfter, CountedNoFailure, FailedOrInterrupted}
use Rattle.iim_dataset.specs.Steps.{consumes_consumes}
use Rattle.iim_dataset.specs.declared.device.IoFault.{IoFault}
use Rattle.iim_dataset.specs.declared.device.IoFault.TheVariants.{Interrupted, Failed}

-- A later failure is a failure of all of the calls.
pub broke_later : (a b c : Device) → CountedNoFailure a b → FailedOrInterrupted b c → FailedOrInterrupted a c
broke_later a b c h k = grind arith

pub broke_for_later : (a b c : Device) (fault : IoFault) → CountedNoFailure a b → FailedForFault b c fault → FailedForFault a c fault
broke_for_later a b c Failed h f = grind arith
broke_for_later a b c Interrupted h i = grind arith

-- A fault after some octets and then others is a fault after all of them.
pub missed_later : (a b c : Device) (xs ys : List ℕ) (fault : IoFault) → ReadsGave a b xs → ReadFailedAfter b c ys fault → ReadFailedAfter a c (xs ++ ys) fault
missed_later a b c xs ys fault given missed =
    (consumes_consumes a.octets b.octets c.octets xs ys given.0 missed.0, broke_for_later a b c fault given.1 missed.1)
