use Rattle.iim_script.proofs.Words.{◌≡◌, ◌==◌, ◌≤◌, ◌+◌, ◌-◌, length, count_by, take, drop, IsTrue, list_all}
use Rattle.iim_script.specs.Steps.{is_plain}
use Rattle.iim_script.proofs.text.count_feeds_checked.Given as goal

abbrev pub invariant-loop-at : goal.invariant-loop-at
invariant-loop-at l = record {
  within : l.at ≤ length l.octets;
  plain : IsTrue (list_all is_plain (take l.at l.octets));
  counted : l.count + count_by (λ b. b == 10) (drop l.at l.octets) ≡ count_by (λ b. b == 10) l.octets;
}

abbrev pub decreases-loop-at : goal.decreases-loop-at
decreases-loop-at l = length l.octets - l.at
