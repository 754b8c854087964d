use Rattle.iim_audit.proofs.Words.{◌≡◌, ◌∙◌, with_items_is, HaveFirsts, HaveNoFirst}
use Rattle.iim_audit.proofs.Lines.{bare_rows, fresh_bare, filled_rows_are_report}
use Rattle.iim_audit.proofs.ledger.Ledger.into_report.Goals as goal

pub set_repeats-requires-clause-few : goal.set_repeats-requires-clause-few
set_repeats-requires-clause-few c = rw c.deref_mut.ensures.value c.requires.few

pub set_repeats-requires-clause-places : goal.set_repeats-requires-clause-places
set_repeats-requires-clause-places c = rw (c.deref_mut.ensures.value, c.deref_mut-2.ensures.value) c.requires.places

pub returns : goal.returns
returns c = λ now values keeps.
    let same : c.deref_mut.result.now ≡ bare_rows now values = c.deref_mut.ensures.value ∙ keeps.rows in
    let fresh : HaveNoFirst c.deref_mut.result.now = rw same (fresh_bare now values) in
    let are : HaveFirsts c.deref_mut.result.now c.set_repeats.new.rows = c.set_repeats.ensures.filled fresh in
    with_items_is c.args.self.rows c.set_repeats.new.rows (are.len ∙ c.deref_mut.ensures.len)
    ∙ filled_rows_are_report now values c.deref_mut.result.now c.set_repeats.new.rows same are
