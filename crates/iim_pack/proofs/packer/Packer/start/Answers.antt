use Rattle.std.proofs.Common.{arith}
use Rattle.iim_pack.proofs.Orders.{start_order}
use Rattle.iim_pack.proofs.Words.{◌+◌, inr, refl, ◌∙◌, if_none, start_cause}
use Rattle.iim_object.specs.declared.writing.cause.PackCause.TheVariants as causes
use Rattle.iim_pack.proofs.Startings.{fields_broke, object_broke, started}
use Rattle.iim_pack.proofs.packer.Packer.start.Goals as goal

pub returns-in-Err-put_fields-clause-fault : goal.returns-in-Err-put_fields-clause-fault
returns-in-Err-put_fields-clause-fault g c =
    if_none (start_cause c.args.head.now c.args.plan) _
    (rw c.start_fault-in-Err-put_fields.ensures
    (inr (fields_broke g.W.Target.state c.args.writer c.args.envelope.now c.args.head.now c.args.plan (record {
      cause = causes.Write;
      writer = c.put_fields.new.writer;
      written = c.in-Err-put_fields.written;
    }) refl c.in-Err-put_fields.ensures.err c.in-Err-put_fields.ensures.given_up)))

pub returns-in-Ok-open_object-clause-ok : goal.returns-in-Ok-open_object-clause-ok
returns-in-Ok-open_object-clause-ok g c =
    let state = g.W.Target.state in
    let front = c.as_slice-front.ensures.value ∙ c.head_text-text.ensures.octets in
    let opens = rw (c.in-Ok.ensures, front) at c.in-Ok-open_object.ensures.ok in
    started state c.args.writer c.put_fields.new.writer c.args.envelope.now c.args.head.now c.args.plan c.in-Ok-put_fields.before c.in-Ok-open_object.object
    c.writes_join.ensures
    c.put_fields.ensures.envelope c.head_text-text.ensures.header c.in-Ok-put_fields.ensures.ok c.in-Ok-put_fields.ensures.all
    c.in-Ok-put_fields.ensures.retry_limit opens

pub returns-in-Err-open_object-clause-fault : goal.returns-in-Err-open_object-clause-fault
returns-in-Err-open_object-clause-fault g c =
    let state = g.W.Target.state in
    let fault = c.in-Err-open_object.fault in
    let front = c.as_slice-front.ensures.value ∙ c.head_text-text.ensures.octets in
    let halts = rw (c.in-Ok.ensures, front) at c.in-Err-open_object.ensures.err in
    if_none (start_cause c.args.head.now c.args.plan) _
    (rw c.start_fault-in-Err-open_object.ensures
    (inr (object_broke state c.args.writer c.put_fields.new.writer c.args.envelope.now c.args.head.now c.args.plan c.in-Ok-put_fields.before fault
    (record {
      cause = fault.cause;
      writer = fault.writer;
      written = c.in-Ok-put_fields.before + fault.written;
    }) c.writes_join.ensures c.in-Ok-put_fields.ensures.ok c.in-Ok-put_fields.ensures.all c.in-Ok-put_fields.ensures.retry_limit halts refl refl refl)))

pub returns-in-Ok-open_object-clause-begun : goal.returns-in-Ok-open_object-clause-begun
returns-in-Ok-open_object-clause-begun g c = (returns-in-Ok-open_object-clause-ok g c).begun

pub returns-then-exceeds_plan-clause-order : goal.returns-then-exceeds_plan-clause-order
returns-then-exceeds_plan-clause-order g c = grind (arith, start_order)

pub returns-in-Ok-open_object-clause-order : goal.returns-in-Ok-open_object-clause-order
returns-in-Ok-open_object-clause-order g c = grind (arith, start_order)
