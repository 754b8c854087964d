use Rattle.std.proofs.Common.{[], subst, inl}
use Rattle.iim_fields.proofs.{Words.same_Some, Words.IsRecordPlace, Checking.checked_start}
use Rattle.iim_fields.proofs.check.RecordCheck.new.Goals as goal

pub invariant_of-result : goal.invariant_of-result
invariant_of-result c x same =
    subst IsRecordPlace (same_Some _ x same) (inl ([], checked_start c.each_row_has_values.ensures c.new.result c.new.ensures.rec c.new.ensures.seen))

pub returns-clause-stands : goal.returns-clause-stands
returns-clause-stands c = checked_start c.each_row_has_values.ensures c.new.result c.new.ensures.rec c.new.ensures.seen
