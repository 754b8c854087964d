use Rattle.std.proofs.Common.{◌≡◌, ◌+◌, ◌/◌, ◌^◌, ap, sym, ◌∙◌, refl, arith}
use Rattle.wire_story.proofs.Marked.{IsUnmarkedTo, calm_block, calm_to, marks_block, mask_small}
use Rattle.wire_story.proofs.marks.next_marks.Goals as goal

pub loop-mask-preserved : goal.loop-mask-preserved
loop-mask-preserved c =
    let i = c.loop-mask.invariant in
    record {
      later = omega (arith, i.later);
      room = omega (arith, i.room, c.if-octets-at.true);
      line = calm_block c.args.octets.now (λ k. (c.type_inv.octets k).fits) c.loop-mask.at i.room (sym i.mask ∙ c.loop-mask-test.true) i.line;
      mask = c.mask_of-mask-in-loop-mask.ensures;
    }

pub overflow_add-mask : goal.overflow_add-mask
overflow_add-mask c = omega (arith, mask_small c.args.octets.now c.loop-mask.at c.loop-mask.invariant.room, c.loop-mask.invariant.mask)

pub returns : goal.returns
returns c =
    let i = c.loop-mask.invariant in
    let marks = marks_block c.args.octets.now c.loop-mask.at c.loop-mask.mask i.room i.mask in
    let found = c.first_marked-calm.ensures in
    let r : IsUnmarkedTo c.args.octets.now (c.loop-mask.at + c.first_marked-calm.result.0) c.first_marked-calm.result.1 =
    calm_to (λ k. (c.type_inv.octets k).fits) (record { within = omega (arith, i.room); line = i.line; marks = marks }) found.count found.digits refl in
    record {
      within = r.within;
      line = r.line;
      marks = r.marks;
      later = omega arith;
      more = λ same.
          let none : c.first_marked-calm.result.0 ≡ 0 = omega arith in
          omega (arith, found.digits ∙ ap (λ n. (c.loop-mask.mask + 65536) / 2 ^ n) (sym found.count ∙ none));
    }
