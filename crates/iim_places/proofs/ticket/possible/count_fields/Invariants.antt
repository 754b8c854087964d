use Rattle.std.proofs.Common.{◌≡◌, ◌+◌, length}
use Rattle.iim_fields.specs.Format.Causes.{joined}
use Rattle.iim_places.proofs.ticket.possible.count_fields.Given as goal

-- the octets of the remaining datasets remain to be counted
abbrev pub invariant-loop-data : goal.invariant-loop-data
invariant-loop-data l = record {
  octets : l.octets + length (joined l.fields) ≡ length (joined l.fn.fields);
  count : l.count + length l.fields ≡ length l.fn.fields;
}

abbrev pub decreases-loop-data : goal.decreases-loop-data
decreases-loop-data l = length l.fields
