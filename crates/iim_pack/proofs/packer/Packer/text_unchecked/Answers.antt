use Rattle.std.proofs.Common.{arith}
use Rattle.iim_pack.proofs.Orders.{text_order}
use Rattle.iim_pack.proofs.Words.{ℕ, List, length, map, sym, ◌∙◌, on_ok_weaker, on_err_weaker, if_none, LineOctet, AreStoryEvents, line_packed, text_cause}
use Rattle.iim_object.specs.States.Writing as object
use Rattle.iim_pack.proofs.{Goings.of_none, Goings.line_events, Goings.lengthened, Goings.broken, Goings.may_write, Beginnings.packed_on}
use Rattle.iim_pack.proofs.packer.Packer.text_unchecked.Goals as goal

pub returns-clause-ok : goal.returns-clause-ok
returns-clause-ok g c =
    let xs : List ℕ = c.args.octets.now in
    let are : AreStoryEvents (map LineOctet xs) = line_events xs c.requires in
    rw (← c.self.view_is)
    (on_ok_weaker c.write.result (lengthened g.W.Target.state c.self.inside.before c.self.inside.object c.write.new.self (map LineOctet xs) are)
    (rw line_packed c.write.ensures.ok))

pub returns-clause-broke : goal.returns-clause-broke
returns-clause-broke g c =
    let xs : List ℕ = c.args.octets.now in
    let old = c.self.inside.object in
    let may = may_write old (length xs) 2 (sym c.is_failed.ensures ∙ c.if-is_failed.false)
    (rw (c.plan.ensures, c.total.ensures.total) at (sym c.exceeds_plan.ensures ∙ c.if-exceeds_plan.false)) in
    if_none (text_cause c.args.self.now xs) _
    (rw (← c.self.view_is)
    (on_err_weaker c.write.result (broken g.W.Target.state c.self.inside.before old c.write.new.self (map LineOctet xs)
    c.lines_are_packed_as_their_events.ensures)
    (rw line_packed (of_none (object.write_cause old (length xs)) _ may c.write.ensures.broke))))

pub returns-clause-begun : goal.returns-clause-begun
returns-clause-begun g c =
    on_ok_weaker c.write.result (packed_on g.W.Target.state c.args.self.now _ (map LineOctet c.args.octets.now) c.writes_join.ensures) (returns-clause-ok g c)

pub returns-then-is_failed-clause-order : goal.returns-then-is_failed-clause-order
returns-then-is_failed-clause-order g c = grind (arith, text_order)

pub returns-then-exceeds_plan-clause-order : goal.returns-then-exceeds_plan-clause-order
returns-then-exceeds_plan-clause-order g c = grind (arith, text_order)
