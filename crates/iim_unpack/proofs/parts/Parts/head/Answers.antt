use Rattle.iim_unpack.proofs.Words.{IfErr-weaker, [], append-nil, arith, inl, inr, object_of, on_ok_weaker, refl, text_so_far}
use Rattle.iim_unpack.proofs.Heading.{begins_object, begins_other, stopped_by, stopped_field, stopped_subfile, parts_emit_head}
use Rattle.iim_places.proofs.Results.{on_both}
use Rattle.iim_unpack.proofs.parts.Parts.head.Goals as goal

pub returns-in-Err-clause-stopped : goal.returns-in-Err-clause-stopped
returns-in-Err-clause-stopped g c =
    rw c.fault_of_record.ensures (stopped_field c.args.self.now c.args.head c.in-Err.fault (omega (arith, c.well_formed)) c.layer_lemmas.ensures c.requires
    (g.met.S.StorySink.nothing c.args.sink.now) c.in-Err.ensures.fault)

pub returns-then-head-eq-OBJECT-clause-went : goal.returns-then-head-eq-OBJECT-clause-went
returns-then-head-eq-OBJECT-clause-went g c =
    let r = c.subfile.result in
    on_ok_weaker r
    (λ h. parts_emit_head c.args.self.now c.args.head h.1.0.told.0 c.requires c.begin.ensures.bounds.limits h.1.0.told.1 h.1.0.no_failure
    (λ ds at. begins_object c.args.self.now c.args.head c.layer_lemmas.ensures ds c.begin.new.self (inl (omega (arith, c.if-head-eq-OBJECT.true)))
    (λ _. h.1.1) at
    (c.in_default.ensures.stands ds at.fields) h.0 h.1.0))
    (on_both _ _ r c.subfile.ensures.leads_on (on_both _ _ r c.subfile.ensures.told c.subfile.ensures.few))

pub returns-then-head-eq-OBJECT-clause-stopped : goal.returns-then-head-eq-OBJECT-clause-stopped
returns-then-head-eq-OBJECT-clause-stopped g c =
    IfErr-weaker c.subfile.result _ _
    (stopped_subfile c.args.self.now c.args.head c.begin.new.self c.layer_lemmas.ensures c.requires c.in_default.ensures.stands
    (g.met.S.StorySink.nothing c.args.sink.now) (omega (arith, c.if-head-eq-OBJECT.true)))
    c.subfile.ensures.refused

pub returns-then-head-eq-POST_OBJECT-clause-went : goal.returns-then-head-eq-POST_OBJECT-clause-went
returns-then-head-eq-POST_OBJECT-clause-went g c =
    let r = c.pass_head.result in
    on_ok_weaker r
    (λ h. parts_emit_head c.args.self.now c.args.head h.1.told.0 c.requires c.begin.ensures.bounds.limits h.1.told.1 h.1.no_failure
    (λ ds at. begins_object c.args.self.now c.args.head c.layer_lemmas.ensures ds c.begin.new.self (inr (omega (arith, c.if-head-eq-POST_OBJECT.true)))
    (λ eight. absurd (omega (arith, eight, c.if-head-eq-POST_OBJECT.true))) at (c.in_default.ensures.stands ds at.fields) h.0 h.1))
    (on_both _ _ r c.pass_head.ensures.leads_on c.pass_head.ensures.told)

pub returns-then-head-eq-POST_OBJECT-clause-stopped : goal.returns-then-head-eq-POST_OBJECT-clause-stopped
returns-then-head-eq-POST_OBJECT-clause-stopped g c =
    IfErr-weaker c.pass_head.result _ _
    (λ fault bad. stopped_by c.args.self.now c.args.head c.begin.new.self c.layer_lemmas.ensures c.requires c.in_default.ensures.stands fault bad
    (inr (omega (arith, c.if-head-eq-POST_OBJECT.true))) (λ eight. absurd (omega (arith, eight, c.if-head-eq-POST_OBJECT.true))))
    c.pass_head.ensures.refused

pub returns-clause-went : goal.returns-clause-went
returns-clause-went g c =
    parts_emit_head c.args.self.now c.args.head [] c.requires c.begin.ensures.bounds.limits (g.met.S.StorySink.nothing c.args.sink.now) refl
    (λ ds at. (
      begins_other c.args.self.now ds c.args.head c.begin.new.self (λ is. omega (arith, is, c.if-head-eq-OBJECT.false))
          (λ is. omega (arith, is, c.if-head-eq-POST_OBJECT.false)) at (c.in_default.ensures.stands ds at.fields),
      append-nil (text_so_far (object_of ds)),
    ))
