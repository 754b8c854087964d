use Rattle.iim_script.proofs.Words.{◌≡◌, ◌+◌, ◌*◌, ◌≤◌, ◌++◌, take, length, shown}
use Rattle.iim_script.proofs.places.put_by_sixteen.Given as goal

-- what was written, and the rest when printed, are what there was and all octets when printed
abbrev pub invariant-loop-rest : goal.invariant-loop-rest
invariant-loop-rest l = (take l.end l.line ++ shown l.rest ≡ take l.at l.fn.line ++ shown l.fn.octets)
    × (l.end + 4 * length l.rest ≤ l.at + 4 * length l.fn.octets)

abbrev pub decreases-loop-rest : goal.decreases-loop-rest
decreases-loop-rest l = length l.rest
