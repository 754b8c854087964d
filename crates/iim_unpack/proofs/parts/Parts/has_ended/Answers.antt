use Rattle.std.proofs.Common.{arith}
use Rattle.iim_unpack.proofs.Sequences.{ended_by, unended_by}
use Rattle.iim_unpack.proofs.parts.Parts.has_ended.Goals as goal

pub returns-then-section-eq-POST_OBJECT : goal.returns-then-section-eq-POST_OBJECT
returns-then-section-eq-POST_OBJECT c = grind (arith, ended_by, unended_by)

pub returns-else-section-eq-POST_OBJECT : goal.returns-else-section-eq-POST_OBJECT
returns-else-section-eq-POST_OBJECT c = grind (arith, ended_by, unended_by)
