use Rattle.iim_unpack.proofs.Words.{IfErr-weaker, on_ok_weaker, refl, sym, ◌∙◌}
use Rattle.iim_unpack.proofs.Closing.{closed_number, closed_silent, not_closed_field, not_closed_number}
use Rattle.iim_unpack.proofs.parts.Parts.close.Goals as goal

pub returns-in-Ok-Some-clause-closed : goal.returns-in-Ok-Some-clause-closed
returns-in-Ok-Some-clause-closed c =
    let begun = sym c.current_head.ensures.head ∙ c.in-Some.is in
    on_ok_weaker c.pass_number.result
    (λ goes. closed_number c.layer_lemmas.ensures c.args.self.now c.in-Some.head begun _ c.in-Ok-Some.number c.close.ensures.bounds.limits
    (rw c.in-Ok-Some.field-0-is at c.in-Ok-Some.ensures.stands) goes refl)
    c.pass_number.ensures.leads_on

pub returns-in-Ok-Some-clause-refused : goal.returns-in-Ok-Some-clause-refused
returns-in-Ok-Some-clause-refused c =
    let begun = sym c.current_head.ensures.head ∙ c.in-Some.is in
    IfErr-weaker c.pass_number.result _ _
    (λ fault bad. not_closed_number c.layer_lemmas.ensures c.args.self.now c.in-Some.head begun c.close.new.self c.in-Ok-Some.number fault
    (rw c.in-Ok-Some.field-0-is at c.in-Ok-Some.ensures.stands) bad)
    c.pass_number.ensures.refused

pub returns-in-Ok-None-clause-closed : goal.returns-in-Ok-None-clause-closed
returns-in-Ok-None-clause-closed c =
    let begun = sym c.current_head.ensures.head ∙ c.in-Some.is in
    closed_silent c.layer_lemmas.ensures c.args.self.now c.in-Some.head begun c.close.new.self c.close.ensures.bounds.limits
    (rw c.in-Ok-None.field-0-is at c.in-Ok-None.ensures.stands)

pub returns-in-Err-clause-refused : goal.returns-in-Err-clause-refused
returns-in-Err-clause-refused c =
    let begun = sym c.current_head.ensures.head ∙ c.in-Some.is in
    rw c.fault_of_record.ensures (not_closed_field c.layer_lemmas.ensures c.args.self.now c.in-Some.head begun c.in-Err.fault c.in-Err.ensures.fault)
