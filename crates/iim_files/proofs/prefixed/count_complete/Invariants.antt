use Rattle.std.proofs.Common.{◌≡◌, ◌≤◌, ◌++◌, length, take, drop}
use Rattle.iim_files.specs.Format.{begins_line, prefixed}
use Rattle.iim_files.proofs.prefixed.count_complete.Given as goal

abbrev pub invariant-loop-octet : goal.invariant-loop-octet
invariant-loop-octet l = (l.whole ≡ l.octet-index) × (l.begins ≡ begins_line l.fresh (take l.octet-index l.piece))
    × (l.left ≤ length (prefixed l.prefix l.begins (drop l.octet-index l.piece)))
    × (take l.out (prefixed l.prefix l.fresh l.piece)
    ≡ prefixed l.prefix l.fresh (take l.octet-index l.piece) ++ take l.left (prefixed l.prefix l.begins (drop l.octet-index l.piece)))
