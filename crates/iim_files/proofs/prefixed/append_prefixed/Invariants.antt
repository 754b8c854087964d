use Rattle.std.proofs.Common.{◌≡◌, ◌≤◌, length, take}
use Rattle.iim_files.specs.Format.{begins_line, prefixed}
use Rattle.iim_files.proofs.prefixed.append_prefixed.Given as goal

abbrev pub invariant-loop-octet : goal.invariant-loop-octet
invariant-loop-octet l = (l.taken ≡ l.octet-index) × (l.block.items ≡ prefixed l.prefix l.fresh (take l.octet-index l.piece))
    × (l.begins ≡ begins_line l.fresh (take l.octet-index l.piece)) × (l.block.room ≡ l.initial.block.room) × (length l.block.items ≤ l.block.room)
