use Rattle.std.proofs.Common.{◌-◌, drop, length, refl, arith}
use Rattle.wire_story.proofs.Marked.{calm_to, mask_small, marks_last, some_left}
use Rattle.wire_story.proofs.marks.next_low_octet.Goals as goal

pub overflow_add-mask : goal.overflow_add-mask
overflow_add-mask c = omega (arith, mask_small c.args.octets.now (length c.args.octets.now - 16) (omega arith), c.mask_of-mask.ensures)

pub first_marked-calm-requires : goal.first_marked-calm-requires
first_marked-calm-requires c =
    let r = c.requires in
    some_left (drop c.args.from c.args.octets.now) _
    (marks_last c.args.octets.now c.args.from c.mask_of-mask.result r.room r.within r.near c.mask_of-mask.ensures)

pub returns : goal.returns
returns c =
    let r = c.requires in
    let marks = marks_last c.args.octets.now c.args.from c.mask_of-mask.result r.room r.within r.near c.mask_of-mask.ensures in
    let found = c.first_marked-calm.ensures in
    let all = calm_to (λ k. (c.type_inv.octets k).fits) (record { within = r.within; line = r.line; marks = marks }) found.count found.digits refl in
    record { within = all.within; line = all.line }
