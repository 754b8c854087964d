use Rattle.std.proofs.Common.{◌≡◌, ◌+◌, ◌-◌, ◌<◌, ◌≤◌, ◌==◌, ap, arith, drop, get_or, length, refl, sym, ◌∷◌}
use Rattle.iim_dataset.specs.Format.Octets.{lf}
use Rattle.iim_files.specs.Format.{front, prefixed}
use Rattle.iim_files.proofs.Lines.{begins_more, rest_at, rest_size, take_front, whole_more}
use Rattle.iim_files.proofs.prefixed.count_complete.Goals as goal

pub returns-then-left-front-clause-parts : goal.returns-then-left-front-clause-parts
returns-then-left-front-clause-parts c =
    let i = c.loop-octet.octet-index in
    let xs = c.args.piece.now in
    let p = c.args.prefix.now in
    let b = c.loop-octet.begins in
    let inv = c.loop-octet.invariant in
    let lt : i < length xs = omega (arith, c.loop-octet-test.true) in
    let le : c.loop-octet.left ≤ length (front p b) = rw (← c.front_of-front.ensures) (omega (arith, c.if-left-front.true)) in
    rw (inv.0, inv.3, rest_at p b xs i lt, take_front p b (get_or xs i 0 ∷ prefixed p (get_or xs i 0 == lf) (drop (i + 1) xs)) c.loop-octet.left le) refl

pub loop-octet-preserved : goal.loop-octet-preserved
loop-octet-preserved c =
    let i = c.loop-octet.octet-index in
    let xs = c.args.piece.now in
    let p = c.args.prefix.now in
    let b = c.loop-octet.begins in
    let inv = c.loop-octet.invariant in
    let lt : i < length xs = omega (arith, c.loop-octet-test.true) in
    let past : length (front p b) < c.loop-octet.left = rw (← c.front_of-front.ensures) (omega (arith, c.if-left-front.false)) in (
      ap (λ n. n + 1) inv.0,
      sym (begins_more c.args.fresh xs i lt),
      omega (arith, inv.2, rest_size p b xs i lt, ap length c.front_of-front.ensures),
      rw c.front_of-front.ensures (whole_more p c.args.fresh b xs i c.loop-octet.left _ lt inv.1 past inv.3),
    )
