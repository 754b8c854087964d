-- A source with buffered octets.
use Rattle.std.specs.Prelude.{ℕ, List, ◌++◌, Option, None, Some}
use Rattle.iim_dataset.specs.States.Devices.{Device}

-- these octets, prepended to the input of a source, if that is known
abbrev pub prepend_to : List ℕ → Option (List ℕ) → Option (List ℕ)
prepend_to held None = None
prepend_to held (Some rest) = Some (held ++ rest)

-- a source, with these octets prepended to its input
abbrev pub with_unread : List ℕ → Device → Device
with_unread held d = record { octets = prepend_to held d.octets; failures = d.failures; interruptions = d.interruptions }
