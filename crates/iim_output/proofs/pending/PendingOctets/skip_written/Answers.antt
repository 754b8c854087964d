use Rattle.std.proofs.Common.{◌≤◌, ◌+◌, ap, arith}
use Rattle.iim_output.specs.States.PendingOctets.{Holding}
use Rattle.iim_output.proofs.Holding.{few_out, passes}
use Rattle.iim_output.proofs.pending.PendingOctets.skip_written.Goals as goal

pub overflow_add-self : goal.overflow_add-self
overflow_add-self c =
    let few : c.self.inside.out + c.args.out ≤ 4096 = few_out c.self.inside.out c.args.out c.self.inside.block.room c.self.inside.block.items
    c.args.self.now.octets (ap (λ (h : Holding). h.octets) c.self.view_is) c.requires
    c.self.invariant.0 c.self.invariant.1 c.self.invariant.2 in
    omega (arith, few)

pub returns : goal.returns
returns c = passes c.self.inside.out c.args.out c.self.inside.block.items c.args.self.now.octets (ap (λ (h : Holding). h.octets) c.self.view_is)
