use Rattle.iim_object.proofs.Words.{◌≡◌, [], refl, sym, ap, ◌∙◌, arith, append-nil, length, canonical_stream, plan_datasets, octets_written, Plan}
use Rattle.iim_object.specs.States.Writing.{plan_octets}
use Rattle.iim_object.proofs.PlanParts.{plan_length}
use Rattle.iim_object.proofs.writing.writer.SubfileWriter.start.Goals as goal

-- Nothing but record 7 was written.
only_plan : (plan : Plan) → plan_octets plan ≡ octets_written plan []
only_plan plan = ap canonical_stream (sym (append-nil (plan_datasets plan.subfile plan.size)))

pub invariant_of-result : goal.invariant_of-result
invariant_of-result g c =
    let plan = c.buffer.inside.plan in
    let puts = c.in-Ok.ensures.ok in
    let long = plan_length plan.subfile plan.size in
    let none : length c.buffer.inside.octets.items ≡ 0 = ap length c.buffer.invariant.0 in
    record {
      capacity = omega (arith, c.buffer.invariant.1);
      within = omega (arith, none);
      bound = omega (arith, none);
      parts = 0;
      sent = omega arith;
      count = λ e. omega (arith, puts.counted, long);
      small = omega (arith, puts.counted, long);
    }

pub returns-in-Ok-clause-stands : goal.returns-in-Ok-clause-stands
returns-in-Ok-clause-stands g c =
    let plan = c.buffer.inside.plan in
    let puts = c.in-Ok.ensures.ok in
    let count : c.put_plan.new.self.written ≡ length (plan_octets plan) = omega (arith, puts.counted) in
    record {
      unfailed = refl;
      parts = [];
      are_full = tt;
      object_is = sym c.buffer.invariant.0;
      some = λ empty. refl;
      sent = refl;
      within = omega (arith, ap length c.buffer.invariant.0);
      out_is = ap plan_octets (sym c.buffer.view_is) ∙ only_plan plan;
      written = count ∙ ap (λ (p : Plan). length (plan_octets p)) c.buffer.view_is;
    }

pub returns-in-Err-clause-stopped : goal.returns-in-Err-clause-stopped
returns-in-Err-clause-stopped g c =
    let q = (rw c.buffer.view_is at c.in-Err.ensures.err) in
    let count : q.out ≡ c.put_plan.new.self.written = omega (arith, q.counted) in
    rw count at q.stopped
