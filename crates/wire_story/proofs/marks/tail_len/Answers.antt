use Rattle.std.proofs.Common.{sym, ◌∙◌, arith}
use Rattle.wire_story.proofs.Marked.{line_more}
use Rattle.wire_story.proofs.marks.tail_len.Goals as goal

pub loop-at-preserved : goal.loop-at-preserved
loop-at-preserved c =
    (omega arith, line_more c.args.octets.now c.loop-at.at (omega arith) c.loop-at.invariant.1 (sym c.may_be_in_line.ensures ∙ c.if-not-may_be_in_line.false))
