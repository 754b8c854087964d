use Rattle.iim_audit.proofs.Words.{◌≡◌, ◌<◌, ◌^◌, take, digits_value}
use Rattle.iim_audit.proofs.row.number_of.Given as goal

abbrev pub invariant-loop-digit : goal.invariant-loop-digit
invariant-loop-digit l = (l.number ≡ digits_value 10 (take l.digit-index l.digits)) × (l.number < 10 ^ l.digit-index)
