use Rattle.std.proofs.Common.{◌≡◌, ℕ, ◌-◌, length, subst, arith}
use Rattle.iim_fields.specs.States.Standing.{IsInsideDataset}
use Rattle.envelope_tests.proofs.memory.records.give.Goals as goal

pub returns : goal.returns
returns c =
    let n = length c.args.octets.now in
    let none : n - n ≡ 0 = omega arith in
    subst (λ (k : ℕ). IsInsideDataset c.bytes.new.self c.args.head k) none (c.bytes.ensures.inside c.args.head n c.requires.inside)
