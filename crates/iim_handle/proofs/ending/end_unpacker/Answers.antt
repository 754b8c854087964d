use Rattle.std.proofs.Common.{◌≡◌, sym, ◌∙◌}
use Rattle.iim_handle.proofs.Closed.{closed_none}
use Rattle.iim_handle.proofs.Ends.{ended, truncated}
use Rattle.iim_handle.proofs.ending.end_unpacker.Goals as goal

pub returns-in-Some-2 : goal.returns-in-Some-2
returns-in-Some-2 c =
    truncated c.args.unpacker.now c.in-Some.refusal c.refusal_answer-in-Some-2.result
    (closed_none c.args.unpacker.now.refused (sym c.if-is_failed.false ∙ c.is_failed.ensures)) c.in-Some.ensures.done c.in-Some.ensures.truncated
    c.refusal_answer-in-Some-2.ensures

pub returns-in-None : goal.returns-in-None
returns-in-None c =
    ended c.args.unpacker.now c.octets.result c.status_answer.result c.octets.ensures c.status_answer.ensures c.in-None.ensures.failed
    c.in-None.ensures.truncated
