use Rattle.std.proofs.Common.{refl, arith}
use Rattle.wire_story.proofs.Marked.{IsUnmarkedTo, calm_to, lowest_few}
use Rattle.wire_story.proofs.marks.Marks.unmarked_len.Goals as goal

pub returns : goal.returns
returns c =
    let found = c.first_marked.ensures in
    let r : IsUnmarkedTo c.args.octets.now c.first_marked.result.0 c.first_marked.result.1 =
    calm_to {at = 0} (λ k. (c.type_inv.octets k).fits) (record {
      within = omega arith;
      line = refl;
      marks = c.requires;
    }) found.count found.digits (omega arith) in
    record { within = r.within; line = r.line; short = omega (arith, found.count, lowest_few c.args.octets.now c.args.self c.requires, c.requires.few) }
