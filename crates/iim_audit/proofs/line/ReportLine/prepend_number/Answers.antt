use Rattle.iim_audit.proofs.Words.{length, length-drop, decimal, drop, ap, arith}
use Rattle.std.proofs.lemmas.List.{length-append}
use Rattle.std.proofs.lemmas.Fmt.{length-decimal-le}
use Rattle.iim_audit.proofs.line.ReportLine.prepend_number.Goals as goal

pub write_digits-self-inside-requires : goal.write_digits-self-inside-requires
write_digits-self-inside-requires c =
    let few = length-decimal-le 20 c.args.number (omega arith) (omega (arith, c.ranges.number.fits)) c.ranges.number.fits in
    let from = c.self.inside.from in
    let held = ap length c.self.view_is in
    (omega (arith, few, held, length-drop from c.self.inside.room, c.requires, c.self.invariant), omega (arith, c.self.invariant))

pub returns-clause-len : goal.returns-clause-len
returns-clause-len c =
    let few = length-decimal-le 20 c.args.number (omega arith) (omega (arith, c.ranges.number.fits)) c.ranges.number.fits in
    let held = ap length c.self.view_is in
    omega (
      arith,
      few,
      held,
      ap length c.write_digits-self-inside.ensures.written,
      length-append (decimal c.args.number) (drop c.self.inside.from c.self.inside.room),
    )
