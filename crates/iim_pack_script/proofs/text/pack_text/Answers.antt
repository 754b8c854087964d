use Rattle.iim_pack_script.proofs.Words.{inr, ◌∙◌, text_lines, start_cause, finish_cause, of_none}
use Rattle.iim_pack.proofs.Wholes.{packs, lines_broke, finish_broke, not_started, may_pack, may_start, lines_fit, may_finish}
use Rattle.iim_pack_script.proofs.Lines.{again}
use Rattle.iim_pack_script.proofs.text.pack_text.Goals as goal

pub returns-in-Err-clause-fault : goal.returns-in-Err-clause-fault
returns-in-Err-clause-fault g c =
    let lines = text_lines c.args.text.now in
    let may = may_pack c.lines_are_packed_as_their_events.ensures c.args.head.now lines c.args.trailer.now c.args.plan c.requires.fits in
    not_started g.W.Target.state c.args.writer c.args.envelope.now c.args.head.now lines c.args.trailer.now c.args.plan c.in-Err.fault
    (of_none (start_cause c.args.head.now c.args.plan) _ (may_start c.args.head.now lines c.args.trailer.now c.args.plan may) c.in-Err.ensures.fault)

pub put_text-requires-clause-fits : goal.put_text-requires-clause-fits
put_text-requires-clause-fits g c =
    let lines = text_lines c.args.text.now in
    let may = may_pack c.lines_are_packed_as_their_events.ensures c.args.head.now lines c.args.trailer.now c.args.plan c.requires.fits in
    lines_fit g.W.Target.state c.args.writer c.args.envelope.now c.args.head.now lines c.args.trailer.now c.args.plan c.in-Ok.packer may c.in-Ok.ensures.ok

pub returns-in-Err-put_text-clause-fault : goal.returns-in-Err-put_text-clause-fault
returns-in-Err-put_text-clause-fault g c =
    let lines = text_lines c.args.text.now in
    inr (lines_broke g.W.Target.state c.args.writer c.args.envelope.now c.args.head.now lines c.args.trailer.now c.args.plan c.in-Ok.packer
    c.put_text.new.packer c.write_fault.result c.writes_join.ensures
    c.in-Ok.ensures.ok c.in-Err-put_text.ensures.broke (c.write_fault.ensures.cause ∙ c.in-Err-put_text.ensures.cause) c.write_fault.ensures.writer
    c.write_fault.ensures.written)

pub returns-in-Ok-finish-clause-ok : goal.returns-in-Ok-finish-clause-ok
returns-in-Ok-finish-clause-ok g c =
    let lines = text_lines c.args.text.now in
    packs g.W.Target.state c.args.writer c.in-Ok-finish.writer c.args.envelope.now c.args.head.now lines c.args.trailer.now c.args.plan c.in-Ok.packer
    c.put_text.new.packer c.writes_join.ensures
    (again c.texts_are_delivered_as_lines.ensures c.args.text.now lines c.requires.text) c.in-Ok.ensures.ok c.in-Ok-put_text.ensures.ok
    c.in-Ok-finish.ensures.ok

pub returns-in-Err-finish-clause-fault : goal.returns-in-Err-finish-clause-fault
returns-in-Err-finish-clause-fault g c =
    let lines = text_lines c.args.text.now in
    let may = may_pack c.lines_are_packed_as_their_events.ensures c.args.head.now lines c.args.trailer.now c.args.plan c.requires.fits in
    let none = may_finish g.W.Target.state c.args.writer c.args.envelope.now c.args.head.now lines c.args.trailer.now c.args.plan c.in-Ok.packer
    c.put_text.new.packer may c.in-Ok.ensures.ok c.in-Ok-put_text.ensures.ok in
    let broke = of_none (finish_cause c.put_text.new.packer c.args.trailer.now) _ none c.in-Err-finish.ensures.broke in
    let cause = of_none (finish_cause c.put_text.new.packer c.args.trailer.now) _ none c.in-Err-finish.ensures.cause in
    inr (finish_broke g.W.Target.state c.args.writer c.args.envelope.now c.args.head.now lines c.args.trailer.now c.args.plan c.in-Ok.packer
    c.put_text.new.packer c.in-Err-finish.packer c.write_fault-in-Err-finish.result c.writes_join.ensures
    (again c.texts_are_delivered_as_lines.ensures c.args.text.now lines c.requires.text) c.in-Ok.ensures.ok c.in-Ok-put_text.ensures.ok broke
    (c.write_fault-in-Err-finish.ensures.cause ∙ cause) c.write_fault-in-Err-finish.ensures.writer c.write_fault-in-Err-finish.ensures.written)
