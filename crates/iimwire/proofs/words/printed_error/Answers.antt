use Rattle.std.proofs.Common.{◌∙◌, sym}
use Rattle.iimwire.proofs.Faults.{printed_usage_error}
use Rattle.iimwire.proofs.words.printed_error.Goals as goal

pub returns : goal.returns
returns c = printed_usage_error c.args.error c.printed_usage_error.result (sym c.requests_text.ensures ∙ c.if-requests_text.false) c.printed_usage_error.ensures
