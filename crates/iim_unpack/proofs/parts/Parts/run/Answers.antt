use Rattle.iim_unpack.proofs.Words.{are_octets, arith, slice_index, sym, take, ◌∙◌}
use Rattle.iim_unpack.proofs.Carrying.{stopped_object, parts_emit_object, parts_emit_other}
use Rattle.iim_unpack.proofs.parts.Parts.run.Goals as goal

pub returns-then-head-ne-OBJECT-clause-takes : goal.returns-then-head-ne-OBJECT-clause-takes
returns-then-head-ne-OBJECT-clause-takes g c = λ left t. record {
  head = t.head;
  fields = c.bytes.ensures.inside t.head left t.fields;
  object = t.object;
  message = t.message;
}

pub returns-then-head-ne-OBJECT-clause-went : goal.returns-then-head-ne-OBJECT-clause-went
returns-then-head-ne-OBJECT-clause-went g c =
    let run = c.args.run.now in
    parts_emit_other c.args.self.now c.in-Some.head (sym c.current_head.ensures.head ∙ c.in-Some.is) run c.bytes.new.self c.if-head-ne-OBJECT.true
    (are_octets run (λ i. omega (arith, c.type_inv.run i))) (g.met.S.StorySink.nothing c.args.sink.now) c.bytes.ensures.bounds.limits c.bytes.ensures.stands

pub returns-in-Ok-clause-went : goal.returns-in-Ok-clause-went
returns-in-Ok-clause-went g c =
    let run = c.args.run.now in
    rw c.in-Ok.ensures.same (parts_emit_object c.args.self.now c.in-Some.head (sym c.current_head.ensures.head ∙ c.in-Some.is) run c.layer_lemmas.ensures
    c.if-head-ne-OBJECT.false (are_octets run (λ i. omega (arith, c.type_inv.run i))) c.in-Ok.ensures.told)

pub returns-in-Err-clause-stopped : goal.returns-in-Err-clause-stopped
returns-in-Err-clause-stopped g c =
    let run = c.args.run.now in
    let f = c.in-Err.fault in
    rw c.rejection_on.ensures (stopped_object c.args.self.now c.in-Some.head (sym c.current_head.ensures.head ∙ c.in-Some.is) (take f.taken run)
    (slice_index run f.taken)
    f.cause c.layer_lemmas.ensures c.if-head-ne-OBJECT.false c.in-Err.ensures.refused)
