use Rattle.iim_object.proofs.Outputs.{cuts_later, cuts_more, on_err}
use Rattle.iim_object.proofs.writing.output.Output.put_plan.Goals as goal

pub returns-in-Err-clause-err : goal.returns-in-Err-clause-err
returns-in-Err-clause-err g c = cuts_more _ _ _ _ _ (rw c.mode_of.ensures at c.in-Err.ensures.err)

pub returns-in-Err-put_number-clause-err : goal.returns-in-Err-put_number-clause-err
returns-in-Err-put_number-clause-err g c =
    let first = (rw c.mode_of.ensures at c.in-Ok.ensures.ok) in
    cuts_later _ _ _ _ _ _ c.writes_join.ensures first (cuts_more _ _ _ _ _ c.in-Err-put_number.ensures.err)

pub returns-clause-err : goal.returns-clause-err
returns-clause-err g c =
    let first = (rw c.mode_of.ensures at c.in-Ok.ensures.ok) in
    on_err c.put_size_number.result _ _ (λ q. cuts_later _ _ _ _ _ _ c.writes_join.ensures first
    (cuts_later _ _ _ _ _ _ c.writes_join.ensures c.in-Ok-put_number.ensures.ok q)) c.put_size_number.ensures.err
