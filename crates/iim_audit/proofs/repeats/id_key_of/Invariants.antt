use Rattle.iim_audit.proofs.Words.{◌≡◌, drop, id_key_after}
use Rattle.iim_audit.proofs.repeats.id_key_of.Given as goal

-- the remaining octets complete the same key
abbrev pub invariant-loop-octet : goal.invariant-loop-octet
invariant-loop-octet l = id_key_after l.key (drop l.octet-index l.fn.id.number) ≡ id_key_after 0 l.fn.id.number
