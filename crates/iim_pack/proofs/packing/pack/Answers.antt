use Rattle.std.proofs.Common.{arith}
use Rattle.iim_pack.proofs.Orders.{pack_order}
use Rattle.iim_pack.proofs.Words.{List, ℕ, inr, sym, ◌∙◌, if_none, pack_cause, start_cause}
use Rattle.iim_pack.specs.States.Packing.{finish_cause}
use Rattle.iim_pack.proofs.Goings.{of_none}
use Rattle.iim_pack.proofs.Wholes.{lines_again, packs, lines_broke, finish_broke, not_started, may_pack, may_start, lines_fit, may_finish}
use Rattle.iim_pack.proofs.packing.pack.Goals as goal

pub returns-in-Err-clause-fault : goal.returns-in-Err-clause-fault
returns-in-Err-clause-fault g c =
    let may = may_pack c.lines_are_packed_as_their_events.ensures c.args.head.now c.args.lines.now.lines c.args.trailer.now c.args.plan
    (sym {b = pack_cause c.args.head.now c.args.lines.now.lines c.args.trailer.now c.args.plan} c.pack_cause.ensures ∙ c.in_default.is) in
    if_none (pack_cause c.args.head.now c.args.lines.now.lines c.args.trailer.now c.args.plan) _
    (not_started g.W.Target.state c.args.writer c.args.envelope.now c.args.head.now c.args.lines.now.lines c.args.trailer.now c.args.plan c.in-Err.fault
    (of_none (start_cause c.args.head.now c.args.plan) _ (may_start c.args.head.now c.args.lines.now.lines c.args.trailer.now c.args.plan may)
    c.in-Err.ensures.fault))

pub put_lines-requires-clause-fits : goal.put_lines-requires-clause-fits
put_lines-requires-clause-fits g c =
    let may = may_pack c.lines_are_packed_as_their_events.ensures c.args.head.now c.args.lines.now.lines c.args.trailer.now c.args.plan
    (sym {b = pack_cause c.args.head.now c.args.lines.now.lines c.args.trailer.now c.args.plan} c.pack_cause.ensures ∙ c.in_default.is) in
    lines_fit g.W.Target.state c.args.writer c.args.envelope.now c.args.head.now c.args.lines.now.lines c.args.trailer.now c.args.plan c.in-Ok.packer may
    c.in-Ok.ensures.ok

pub returns-in-Err-put_lines-clause-fault : goal.returns-in-Err-put_lines-clause-fault
returns-in-Err-put_lines-clause-fault g c =
    if_none (pack_cause c.args.head.now c.args.lines.now.lines c.args.trailer.now c.args.plan) _
    (inr (lines_broke g.W.Target.state c.args.writer c.args.envelope.now c.args.head.now c.args.lines.now.lines c.args.trailer.now c.args.plan c.in-Ok.packer
    c.put_lines.new.packer c.write_fault.result c.writes_join.ensures
    c.in-Ok.ensures.ok c.in-Err-put_lines.ensures.broke (c.write_fault.ensures.cause ∙ c.in-Err-put_lines.ensures.cause) c.write_fault.ensures.writer
    c.write_fault.ensures.written))

pub returns-in-Ok-finish-clause-ok : goal.returns-in-Ok-finish-clause-ok
returns-in-Ok-finish-clause-ok g c =
    let again = lines_again c.story_laws.ensures.packed_lines_are_a_text c.texts_are_delivered_as_lines.ensures
    c.story_laws.ensures.texts_are_collected_as_lines c.args.lines.now.lines c.put_lines.ensures.made in
    packs g.W.Target.state c.args.writer c.in-Ok-finish.writer c.args.envelope.now c.args.head.now c.args.lines.now.lines c.args.trailer.now c.args.plan
    c.in-Ok.packer c.put_lines.new.packer c.writes_join.ensures again
    c.in-Ok.ensures.ok c.in-Ok-put_lines.ensures.ok c.in-Ok-finish.ensures.ok

pub returns-in-Err-finish-clause-fault : goal.returns-in-Err-finish-clause-fault
returns-in-Err-finish-clause-fault g c =
    let lines : List (List ℕ) = c.args.lines.now.lines in
    let again = lines_again c.story_laws.ensures.packed_lines_are_a_text c.texts_are_delivered_as_lines.ensures
    c.story_laws.ensures.texts_are_collected_as_lines lines c.put_lines.ensures.made in
    let may = may_pack c.lines_are_packed_as_their_events.ensures c.args.head.now lines c.args.trailer.now c.args.plan
    (sym {b = pack_cause c.args.head.now lines c.args.trailer.now c.args.plan} c.pack_cause.ensures ∙ c.in_default.is) in
    let none = may_finish g.W.Target.state c.args.writer c.args.envelope.now c.args.head.now lines c.args.trailer.now c.args.plan c.in-Ok.packer
    c.put_lines.new.packer may c.in-Ok.ensures.ok c.in-Ok-put_lines.ensures.ok in
    let broke = of_none (finish_cause c.put_lines.new.packer c.args.trailer.now) _ none c.in-Err-finish.ensures.broke in
    let cause = of_none (finish_cause c.put_lines.new.packer c.args.trailer.now) _ none c.in-Err-finish.ensures.cause in
    if_none (pack_cause c.args.head.now lines c.args.trailer.now c.args.plan) _
    (inr (finish_broke g.W.Target.state c.args.writer c.args.envelope.now c.args.head.now lines c.args.trailer.now c.args.plan c.in-Ok.packer
    c.put_lines.new.packer c.in-Err-finish.packer c.write_fault-in-Err-finish.result c.writes_join.ensures again
    c.in-Ok.ensures.ok c.in-Ok-put_lines.ensures.ok broke (c.write_fault-in-Err-finish.ensures.cause ∙ cause) c.write_fault-in-Err-finish.ensures.writer
    c.write_fault-in-Err-finish.ensures.written))

pub returns-in-Some-clause-order : goal.returns-in-Some-clause-order
returns-in-Some-clause-order g c = grind (arith, pack_order)

pub returns-in-Err-put_lines-clause-order : goal.returns-in-Err-put_lines-clause-order
returns-in-Err-put_lines-clause-order g c = grind (arith, pack_order)

pub returns-in-Ok-finish-clause-order : goal.returns-in-Ok-finish-clause-order
returns-in-Ok-finish-clause-order g c = grind (arith, pack_order)

pub returns-in-Err-finish-clause-order : goal.returns-in-Err-finish-clause-order
returns-in-Err-finish-clause-order g c = grind (arith, pack_order)
