use Rattle.std.proofs.Common.{◌∙◌, inr, sym}
use Rattle.iimwire.proofs.words.usage_error_or.Goals as goal

pub returns : goal.returns
returns c = inr (sym c.requests_text.ensures ∙ c.if-requests_text.false)
