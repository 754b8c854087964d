use Rattle.std.proofs.Common.{List, ℕ, subst, sym, arith, length-drop}
use Rattle.std.proofs.lemmas.List.{take_rest}
use Rattle.wire_story.specs.Steps.{BeginsWithLineEnd}
use Rattle.wire_story.proofs.Fronts.{takes_both, refuses_later}
use Rattle.wire_story.proofs.piece.consume_line.Goals as goal

pub consume_line_end-requires : goal.consume_line_end-requires
consume_line_end-requires g c = subst (λ (xs : List ℕ). BeginsWithLineEnd xs c.end_len-end.result) (sym (take_rest c.args.rest.now c.unmarked_len-run.result))
    (c.end_len-end.ensures (omega arith))

pub returns-in-Ok-consume_line_end-clause-taken : goal.returns-in-Ok-consume_line_end-clause-taken
returns-in-Ok-consume_line_end-clause-taken g c =
    takes_both g.met.S.StorySink.joined c.args.rest.now c.unmarked_len-run.result c.end_len-end.result c.in-Ok.ensures.taken
    c.in-Ok-consume_line_end.ensures.taken

pub returns-in-Err-consume_line_end-clause-refused : goal.returns-in-Err-consume_line_end-clause-refused
returns-in-Err-consume_line_end-clause-refused g c =
    rw c.after.ensures (refuses_later g.met.S.StorySink.joined c.args.rest.now c.unmarked_len-run.result c.in-Ok.ensures.taken
    c.in-Err-consume_line_end.ensures.refused)

pub returns-in-Ok-consume_line_end-clause-within : goal.returns-in-Ok-consume_line_end-clause-within
returns-in-Ok-consume_line_end-clause-within g c = omega (
  arith,
  (c.end_len-end.ensures
      (omega arith)).within,
  length-drop c.unmarked_len-run.result c.args.rest.now,
)
