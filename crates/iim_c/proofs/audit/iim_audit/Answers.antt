use Rattle.std.proofs.Common.{inl}
use Rattle.iim_c.proofs.audit.iim_audit.Goals as goal

pub returns-in-Some : goal.returns-in-Some
returns-in-Some c = inl (c.in-Some.now.nanosecond, c.in-Some.ensures.some, rw c.limits.ensures at c.audit_chunk.ensures)
