use Rattle.iim_pack.proofs.Orders.{finish_order}
use Rattle.iim_pack.proofs.Words.{length, ap, sym, ◌∙◌, arith, if_none}
use Rattle.iim_object.specs.States.Writing as object
use Rattle.iim_pack.specs.States.Packing.{finish_cause}
use Rattle.iim_pack.proofs.{Endings.ends, Finishings.may_end, Finishings.finished, Finishings.unfinished, Beginnings.packed_ends}
use Rattle.iim_pack.proofs.packer.Packer.finish.Goals as goal

pub end_object-requires-clause-fits : goal.end_object-requires-clause-fits
end_object-requires-clause-fits g c =
    let old = c.self.inside.object in
    let octets = rw c.unwrap-tail.ensures at c.tail_text.ensures.octets in
    let may = may_end old.plan (object.total_of old) c.args.trailer.now
    (rw (c.plan.ensures, c.total.ensures.total) at (sym c.ending_cause.ensures ∙ c.in_default.is)) in
    omega (arith, may.fits, ap length (c.as_slice.ensures.value ∙ octets))

pub returns-in-Ok-clause-ok : goal.returns-in-Ok-clause-ok
returns-in-Ok-clause-ok g c =
    let old = c.self.inside.object in
    let octets = rw c.unwrap-tail.ensures at c.tail_text.ensures.octets in
    let may = may_end old.plan (object.total_of old) c.args.trailer.now
    (rw (c.plan.ensures, c.total.ensures.total) at (sym c.ending_cause.ensures ∙ c.in_default.is)) in
    let (last, lengthens, finishes) = rw (c.as_slice.ensures.value ∙ octets) at c.in-Ok.ensures.ok in
    rw (← c.self.view_is)
    (finished g.W.Target.state c.self.inside.before old c.args.trailer.now c.in-Ok.writer c.story_laws.ensures.events_are_packed_as_lines
    c.message_laws.ensures.canonical_objects_are_messages may
    (ends g.W.Target.state old last _ c.in-Ok.writer c.writes_join.ensures lengthens finishes))

pub returns-in-Err-clause-broke : goal.returns-in-Err-clause-broke
returns-in-Err-clause-broke g c =
    let octets = rw c.unwrap-tail.ensures at c.tail_text.ensures.octets in
    if_none (finish_cause c.args.self c.args.trailer.now) _
    (rw (← c.self.view_is)
    (unfinished g.W.Target.state c.self.inside.before c.self.inside.object c.in-Err.object c.args.trailer.now c.story_laws.ensures.events_are_packed_as_lines
    (rw (c.as_slice.ensures.value ∙ octets) at c.in-Err.ensures.broke)))

pub returns-in-Ok-clause-begun : goal.returns-in-Ok-clause-begun
returns-in-Ok-clause-begun g c = packed_ends g.W.Target.state c.args.self c.args.trailer.now c.in-Ok.writer c.writes_join.ensures (returns-in-Ok-clause-ok g c)

pub returns-then-is_failed-clause-order : goal.returns-then-is_failed-clause-order
returns-then-is_failed-clause-order g c = grind (arith, finish_order)

pub returns-in-Some-clause-order : goal.returns-in-Some-clause-order
returns-in-Some-clause-order g c = grind (arith, finish_order)

pub returns-in-Ok-clause-order : goal.returns-in-Ok-clause-order
returns-in-Ok-clause-order g c = grind (arith, finish_order)

pub returns-in-Err-clause-order : goal.returns-in-Err-clause-order
returns-in-Err-clause-order g c = grind (arith, finish_order)
