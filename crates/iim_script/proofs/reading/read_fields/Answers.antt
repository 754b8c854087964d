use Rattle.iim_script.proofs.Words.{sym, ◌∙◌, arith, InFields, HasNoForm, DescribesField}
use Rattle.iim_script.proofs.Fronts.{field_added, next_fault, describes_no_field, describes_no_head, next_wrong, next_must_be, must_be_none}
use Rattle.iim_script.proofs.reading.read_fields.Goals as goal

pub returns-clause-all : goal.returns-clause-all
returns-clause-all c = must_be_none (HasNoForm DescribesField) c.in_default.ensures.none

pub returns-then-not-begins_field-clause-all : goal.returns-then-not-begins_field-clause-all
returns-then-not-begins_field-clause-all c =
    next_must_be (HasNoForm DescribesField) c.in-Some.ensures.found
    (describes_no_field c.in-Some.line.now (sym c.begins_field.ensures ∙ c.if-not-begins_field.true))

pub loop-line-preserved : goal.loop-line-preserved
loop-line-preserved c =
    let old = c.loop-line.invariant in
    record {
      same = c.in-Ok.ensures.limits ∙ old.same;
      stands = field_added c.loop-line.builder c.add_line.new.builder old.same old.stands c.in-Some.ensures.found c.in-Ok.ensures.added;
      short = omega (arith, old.short, c.in-Some.ensures.shorter);
    }

pub returns-in-Err-clause-fault : goal.returns-in-Err-clause-fault
returns-in-Err-clause-fault c =
    let old = c.loop-line.invariant in
    let no_head = describes_no_head c.in-Some.line.now (sym c.begins_field.ensures ∙ c.if-not-begins_field.false) in
    let refused = rw old.same at (c.in-Err.ensures.refused no_head) in
    rw c.fault_after.ensures.cause (next_fault _ c.in-Err.cause c.requires.short old.stands c.fault_after.ensures.line
    (next_wrong _ (InFields c.loop-line.builder.fields) c.in-Some.ensures.found refused))
