-- The input and the outputs of a run.
use Rattle.std.specs.Prelude.{◌≡◌, ⊤, List, ℕ, Option, Some, None}
use Rattle.iim_dataset.specs.States.Devices.{Device}

-- The octets of a reader or writer are known, and are these.
abbrev pub HasOctets : Option (List ℕ) → List ℕ → Type 0
HasOctets None octets = ⊤
HasOctets (Some known) octets = known ≡ octets

-- the input, the output and the error output of a run
pub record Devices : Type 0 where
  pub input : Device
  pub output : Device
  pub errors : Device

abbrev pub devices : Device → Device → Device → Devices
devices input output errors = record { input = input; output = output; errors = errors }
