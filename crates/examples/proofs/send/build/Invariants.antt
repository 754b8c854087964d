use Rattle.std.proofs.Common.{◌≡◌, map, take}
use Rattle.examples.specs.declared.send.TheConstants.{FIELDS}
use Rattle.examples.proofs.send.build.Given as goal

abbrev pub invariant-loop-rec : goal.invariant-loop-rec
invariant-loop-rec l = l.builder.fields ≡ map (λ f. record { rec = f.0; set = f.1; octets = f.2.now }) (take l.rec-index FIELDS)
