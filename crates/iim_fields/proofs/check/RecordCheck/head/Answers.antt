use Rattle.std.proofs.Common.{List, Some, sym, ◌∙◌, subst, arith}
use Rattle.iim_fields.proofs.Words.{same_Some, Dataset, HasChecked, HasAcceptedHead, IsRecordPlace}
use Rattle.iim_fields.proofs.Checking.{taken_by, record_fault_by, place_headed}
use Rattle.iim_fields.proofs.check.RecordCheck.head.Goals as goal

-- The state has accepted the head.
takes : (c : goal.After-accept_head) → (ds : List Dataset) → HasChecked (Some c.in-Some.place) ds → HasAcceptedHead (Some c.accept_head.new.self) ds c.args.head
takes c = taken_by c.each_row_has_values.ensures c.in-Some.place c.accept_head.new.self c.args.head c.in-Ok.row (omega arith) c.accept_head.ensures.order
    c.accept_head.ensures.begun c.in-Ok.ensures.row c.in-Ok.ensures.ok

pub returns-in-Ok-clause-stands : goal.returns-in-Ok-clause-stands
returns-in-Ok-clause-stands c = λ ds s. takes c ds (rw (← (sym c.in-Some.is ∙ c.self.view_is)) at s)

pub invariant_of-self : goal.invariant_of-self
invariant_of-self c x same =
    let stands = rw (← (sym c.in-Some.is ∙ c.self.view_is)) at c.requires in
    subst IsRecordPlace (same_Some c.accept_head.new.self x same)
    (place_headed c.in-Some.place c.accept_head.new.self c.args.head stands (c.self.invariant c.in-Some.place c.in-Some.is) (takes c))

pub returns-in-Err-clause-fault : goal.returns-in-Err-clause-fault
returns-in-Err-clause-fault c = λ ds s.
    record_fault_by c.in-Some.place c.args.head c.in-Err.fault c.in-Err.ensures.fault ds (rw (← (sym c.in-Some.is ∙ c.self.view_is)) at s)
