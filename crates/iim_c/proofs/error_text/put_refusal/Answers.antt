use Rattle.std.proofs.Common.{sym, ◌∙◌}
use Rattle.iim_c.specs.TextOutLaws.{octets_joined}
use Rattle.iim_c.proofs.error_text.put_refusal.Goals as goal

pub returns-then-has_refusal : goal.returns-then-has_refusal
returns-then-has_refusal c = rw (sym c.has_refusal.ensures ∙ c.if-has_refusal.true) (octets_joined c.put_place.ensures c.put_reason.ensures)
