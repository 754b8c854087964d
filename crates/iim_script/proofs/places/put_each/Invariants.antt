use Rattle.iim_script.proofs.Words.{◌≡◌, ◌+◌, ◌*◌, ◌≤◌, ◌++◌, take, flat_map, shown_octet}
use Rattle.iim_script.proofs.places.put_each.Given as goal

abbrev pub invariant-loop-octet : goal.invariant-loop-octet
invariant-loop-octet l = (take l.end l.line ≡ take l.at l.fn.line ++ flat_map shown_octet (take l.octet-index l.octets)) × (l.end ≤ l.at + 4 * l.octet-index)
