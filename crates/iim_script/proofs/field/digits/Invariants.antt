use Rattle.iim_script.proofs.Words.{◌≡◌, ℕ, ◌<◌, false, not, get_or, is_digit}
use Rattle.iim_script.proofs.field.digits.Given as goal

abbrev pub invariant-loop-at : goal.invariant-loop-at
invariant-loop-at l = (k : ℕ) → k < l.at → not (is_digit (get_or l.octets k 0)) ≡ false
