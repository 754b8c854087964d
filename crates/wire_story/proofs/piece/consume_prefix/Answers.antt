use Rattle.std.proofs.Common.{get_or-drop, add-zero, arith}
use Rattle.std.proofs.lemmas.List.{take_rest}
use Rattle.wire_story.proofs.Fronts.{takes_both, refuses_later, front_after}
use Rattle.wire_story.proofs.piece.consume_prefix.Goals as goal

pub consume_marked-requires-clause-mark : goal.consume_marked-requires-clause-mark
consume_marked-requires-clause-mark g c none = rw (take_rest c.args.rest.now c.run_len-run.result.0, get_or-drop, add-zero)
    (c.run_len-run.ensures.longest none (omega arith))

pub returns-in-Ok-consume_marked-clause-front : goal.returns-in-Ok-consume_marked-clause-front
returns-in-Ok-consume_marked-clause-front g c =
    let mark = c.in-Ok-consume_marked.ensures in
    front_after c.args.rest.now c.run_len-run.result.0 c.in-Ok-consume_marked.used c.in-Ok-consume_marked.now c.after.result
    mark.few (omega (arith, mark.short.0)) c.run_len-run.ensures.within mark.short.2 c.after.ensures

pub returns-in-Ok-consume_marked-clause-taken : goal.returns-in-Ok-consume_marked-clause-taken
returns-in-Ok-consume_marked-clause-taken g c =
    takes_both g.met.S.StorySink.joined c.args.rest.now c.run_len-run.result.0 c.in-Ok-consume_marked.used c.in-Ok.ensures.taken
    c.in-Ok-consume_marked.ensures.taken

pub returns-in-Err-consume_marked-clause-refused : goal.returns-in-Err-consume_marked-clause-refused
returns-in-Err-consume_marked-clause-refused g c =
    rw c.after-in-Err-consume_marked.ensures (refuses_later g.met.S.StorySink.joined c.args.rest.now c.run_len-run.result.0 c.in-Ok.ensures.taken
    c.in-Err-consume_marked.ensures.refused)

pub after-requires-clause-marks : goal.after-requires-clause-marks
after-requires-clause-marks g c = rw take_rest c.run_len-run.ensures.marks
