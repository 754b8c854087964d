use Rattle.std.proofs.Common.{ap}
use Rattle.std.specs.Prelude.{List, ℕ, Option}
use Rattle.iim_dataset.specs.States.Devices.{Device}
use Rattle.iim_files.proofs.Writing.{new_seen}
use Rattle.iim_files.proofs.prefixed.Prefixed.new.Goals as goal

device : Option (List ℕ) → Device
device octets = record { octets = octets; failures = 0; interruptions = 0 }

pub returns : goal.returns
unfolding device
returns g c = ap device (new_seen c.args.prefix.now (g.W.Target.state c.args.writer).octets)
