use Rattle.std.proofs.Common.{sym, ◌∙◌, arith, refl}
use Rattle.iim_fields.proofs.Checking.{checked_value, value_fault_by, awaited_count}
use Rattle.iim_fields.proofs.check.RecordCheck.value.Goals as goal

pub returns-in-Ok-clause-stands : goal.returns-in-Ok-clause-stands
returns-in-Ok-clause-stands c = λ ds h s.
    let (g, inside, other, count) = rw (← (sym c.in-Some.is ∙ c.self.view_is)) at c.requires in
    checked_value c.each_row_has_values.ensures c.in-Some.place _ c.unwrap-begun.result c.args.octets.now c.in-Ok.number c.unwrap-begun.ensures refl refl
    (awaited_count c.in-Some.place c.unwrap-begun.result c.unwrap-begun.ensures g inside ∙ count) (λ i. omega (arith, c.type_inv.octets i))
    c.in-Ok.ensures.ok c.in-Ok.ensures.number ds h (rw (← (sym c.in-Some.is ∙ c.self.view_is)) at s)

pub returns-in-Err-clause-fault : goal.returns-in-Err-clause-fault
returns-in-Err-clause-fault c = λ ds h s.
    value_fault_by c.in-Some.place c.unwrap-begun.result c.args.octets.now c.in-Err.fault c.unwrap-begun.ensures c.in-Err.ensures.fault ds h
    (rw (← (sym c.in-Some.is ∙ c.self.view_is)) at s)
