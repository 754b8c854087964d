use Rattle.std.proofs.Common.{◌+◌, drop, refl, sym, ◌∙◌, arith}
use Rattle.wire_story.proofs.Marked.{calm_to, calm_after, some_left}
use Rattle.wire_story.proofs.marks.Marks.run_len.Goals as goal

pub loop-left-init : goal.loop-left-init
loop-left-init c =
    calm_to {at = 0} (λ k. (c.type_inv.octets k).fits) (record {
      within = omega arith;
      line = refl;
      marks = c.requires;
    }) c.first_marked-first.ensures.count c.first_marked-first.ensures.digits (omega arith)

pub loop-left-preserved : goal.loop-left-preserved
loop-left-preserved c =
    calm_after (λ k. (c.type_inv.octets k).fits) c.loop-left.invariant c.if-left-eq1.false (sym c.may_be_in_line.ensures ∙ c.if-not-may_be_in_line.false)
    c.first_marked-next.ensures.count c.first_marked-next.ensures.digits refl

pub loop-left-smaller : goal.loop-left-smaller
loop-left-smaller c =
    let next = loop-left-preserved c in
    omega (arith, next.within, some_left (drop (c.loop-left.at + (1 + c.first_marked-next.result.0)) c.args.octets.now) _ next.marks)
