use Rattle.std.proofs.Common.{◌∙◌, sym}
use Rattle.iim_object.proofs.Staying.{ends_as, no_end, not_confirmed}
use Rattle.iim_object.proofs.reading.reader.ObjectReader.may_end.Goals as goal

pub returns-then-is_none-clause-ends : goal.returns-then-is_none-clause-ends
returns-then-is_none-clause-ends c = λ t.
    rw (sym c.self.view_is ∙ c.in-Some.is)
    (ends_as c.in-Some.state c.args.number (rw (c.end_cause.ensures, c.if-is_none.true) at c.is_none.ensures)
    (rw (c.confirmed_cause.ensures, t) at c.is_none-then-is_none.ensures))

pub returns-then-is_none-clause-refused : goal.returns-then-is_none-clause-refused
returns-then-is_none-clause-refused c = λ f.
    rw (sym c.self.view_is ∙ c.in-Some.is)
    (not_confirmed c.in-Some.state c.args.number (rw (c.end_cause.ensures, c.if-is_none.true) at c.is_none.ensures)
    (rw (c.confirmed_cause.ensures, f) at c.is_none-then-is_none.ensures))

pub returns-else-is_none-clause-refused : goal.returns-else-is_none-clause-refused
returns-else-is_none-clause-refused c = λ f. rw (sym c.self.view_is ∙ c.in-Some.is)
    (no_end c.in-Some.state c.args.number (rw (c.end_cause.ensures, f) at c.is_none.ensures))
