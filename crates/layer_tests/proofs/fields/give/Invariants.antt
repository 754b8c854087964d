use Rattle.std.proofs.Common.{◌-◌, length}
use Rattle.iim_fields.specs.States.Standing.{IsInsideDataset}
use Rattle.layer_tests.proofs.fields.give.Given as goal

abbrev pub invariant-loop-octet : goal.invariant-loop-octet
invariant-loop-octet l = IsInsideDataset l.fields l.fn.head (length l.octets - l.octet-index)
