use Rattle.std.proofs.Common.{List, refl, sym, ◌∙◌}
use Rattle.iim_fields.proofs.Words.{handed_on, Dataset, HasReadDatasets, IsHeadFault, limits_of}
use Rattle.iim_fields.proofs.Stand.{fault_of_record, fault_of_room, stands_in, reading_begun}
use Rattle.iim_fields.proofs.fields.Fields.begin.Goals as goal

pub returns-in_err-head-clause-fault : goal.returns-in_err-head-clause-fault
returns-in_err-head-clause-fault c =
    handed_on (λ fault. (ds : List Dataset) → HasReadDatasets c.args.self.now ds → IsHeadFault (limits_of c.args.self.now) ds c.args.head fault)
    c.from_residual.result c.in_err-head.field-0.0 c.from_residual.ensures.1
    (λ ds s. fault_of_record (limits_of c.args.self.now) ds c.args.head c.in_err-head.field-0.0
    (c.in_err-head.ensures.fault ds (rw (← c.self.view_is) at s).checked))

pub returns-in-Some-clause-fault : goal.returns-in-Some-clause-fault
returns-in-Some-clause-fault c =
    fault_of_room c.len-octets.result c.len.result c.self.invariant c.self.view_is c.in_ok-head.ensures.stands c.len-octets.ensures c.len.ensures
    (sym c.in-Some.is ∙ c.room_fault.ensures)

pub returns-clause-stands : goal.returns-clause-stands
returns-clause-stands c =
    stands_in c.len-octets.result c.len.result c.self.invariant c.self.view_is c.in_ok-head.ensures.inside c.in_ok-head.ensures.stands
    c.len-octets.ensures c.len.ensures (sym c.in_default.is ∙ c.room_fault.ensures)

pub invariant_of-self-in_default : goal.invariant_of-self-in_default
invariant_of-self-in_default c =
    reading_begun c.self.invariant (rw (← c.self.view_is) at c.requires)
    (stands_in c.len-octets.result c.len.result c.self.invariant refl c.in_ok-head.ensures.inside c.in_ok-head.ensures.stands
    c.len-octets.ensures c.len.ensures (sym c.in_default.is ∙ c.room_fault.ensures))
