use Rattle.iim_script.proofs.Words.{inr}
use Rattle.iim_script.proofs.reading.read_head.Goals as goal

pub returns-in-Ok-None-clause-fault : goal.returns-in-Ok-None-clause-fault
returns-in-Ok-None-clause-fault c = λ limits ds must.
    let found = c.in-Some.ensures.found in
    let none = rw c.in-Ok-None.field-0-is at c.in-Ok-None.ensures.none in
    let wrong = c.fault_after-in-Ok-None.ensures in
    rw wrong.cause (wrong.line, inr (inr (c.in-Some.line.now, c.in-Some.after.now, found, (must _ _ found, none))))
