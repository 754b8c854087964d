use Rattle.std.proofs.Common.{refl, []}
use Rattle.iim_c.specs.TextOutLaws.{octets_joined}
use Rattle.iim_c.proofs.error_text.put_line.Goals as goal

pub returns-clause-line : goal.returns-clause-line
returns-clause-line c = (octets_joined c.put_refusal.ensures c.put_octet.ensures).taken [] (c.requires, λ _. refl)
