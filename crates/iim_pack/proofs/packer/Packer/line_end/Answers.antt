use Rattle.std.proofs.Common.{arith}
use Rattle.iim_pack.proofs.Orders.{line_end_order}
use Rattle.iim_pack.proofs.Words.{[], ◌∷◌, sym, ◌∙◌, on_ok_weaker, on_err_weaker, if_none, LineEnd, line_end_cause}
use Rattle.iim_object.specs.States.Writing as object
use Rattle.iim_pack.proofs.{Goings.of_none, Goings.lengthened, Goings.broken, Goings.may_write, Beginnings.packed_on}
use Rattle.iim_pack.proofs.packer.Packer.line_end.Goals as goal

pub returns-clause-ok : goal.returns-clause-ok
returns-clause-ok g c =
    rw (← c.self.view_is)
    (on_ok_weaker c.write.result (lengthened g.W.Target.state c.self.inside.before c.self.inside.object c.write.new.self (LineEnd ∷ []) (tt, tt))
    c.write.ensures.ok)

pub returns-clause-broke : goal.returns-clause-broke
returns-clause-broke g c =
    let old = c.self.inside.object in
    let may = may_write old 2 2 (sym c.is_failed.ensures ∙ c.if-is_failed.false)
    (rw (c.plan.ensures, c.total.ensures.total) at (sym c.exceeds_plan.ensures ∙ c.if-exceeds_plan.false)) in
    if_none (line_end_cause c.args.self.now) _
    (rw (← c.self.view_is)
    (on_err_weaker c.write.result (broken g.W.Target.state c.self.inside.before old c.write.new.self (LineEnd ∷ []) c.lines_are_packed_as_their_events.ensures)
    (of_none (object.write_cause old 2) _ may c.write.ensures.broke)))

pub returns-clause-begun : goal.returns-clause-begun
returns-clause-begun g c =
    on_ok_weaker c.write.result (packed_on g.W.Target.state c.args.self.now _ (LineEnd ∷ []) c.writes_join.ensures) (returns-clause-ok g c)

pub returns-then-is_failed-clause-order : goal.returns-then-is_failed-clause-order
returns-then-is_failed-clause-order g c = grind (arith, line_end_order)

pub returns-then-exceeds_plan-clause-order : goal.returns-then-exceeds_plan-clause-order
returns-then-exceeds_plan-clause-order g c = grind (arith, line_end_order)
