use Rattle.std.proofs.Common.{◌≡◌, sym, ◌∙◌, subst, Some, None}
use Rattle.iim_fields.proofs.{Words.BuilderView, Words.missing_field_fault, Finish.finish_is, Finish.envelope_store}
use Rattle.iim_fields.proofs.builder.EnvelopeBuilder.finish.Goals as goal

pub invariant_of-result : goal.invariant_of-result
invariant_of-result c = envelope_store c.each_row_has_values.ensures c.self.invariant c.end_fault.ensures c.in-None.is

pub returns-in-Some-clause-fault : goal.returns-in-Some-clause-fault
returns-in-Some-clause-fault c =
    subst (λ (b : BuilderView). missing_field_fault b.fields ≡ Some c.in-Some.fault) c.self.view_is (sym
    (finish_is c.self.invariant c.end_fault.ensures) ∙ c.in-Some.is)

pub returns-in-None-clause-whole : goal.returns-in-None-clause-whole
returns-in-None-clause-whole c =
    subst (λ (b : BuilderView). missing_field_fault b.fields ≡ None) c.self.view_is (sym (finish_is c.self.invariant c.end_fault.ensures) ∙ c.in-None.is)
