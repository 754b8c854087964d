use Rattle.std.proofs.Common.{◌≡◌, ℕ, ◌+◌, ◌-◌, length, subst, arith}
use Rattle.iim_fields.specs.States.Standing.{IsInsideDataset}
use Rattle.vectors.proofs.records.give.Goals as goal

pub returns-then-not-one_by_one : goal.returns-then-not-one_by_one
returns-then-not-one_by_one c =
    let n = length c.args.octets.now in
    let none : n - n ≡ 0 = omega arith in
    subst (λ (k : ℕ). IsInsideDataset c.bytes.new.self c.args.head k) none (c.bytes.ensures.inside c.args.head n c.requires.inside)

pub loop-octet-preserved : goal.loop-octet-preserved
loop-octet-preserved c =
    let n = length c.args.octets.now in
    let at = c.loop-octet.octet-index in
    let one : n - at - 1 ≡ n - (at + 1) = omega arith in
    subst (λ (k : ℕ). IsInsideDataset c.bytes-in-loop-octet.new.self c.args.head k) one
    (c.bytes-in-loop-octet.ensures.inside c.args.head (n - at) c.loop-octet.invariant)
