use Rattle.std.proofs.Common.{ap}
use Rattle.iim_output.specs.States.PendingOctets.{Holding}
use Rattle.iim_output.proofs.Holding.{takes}
use Rattle.iim_output.proofs.pending.PendingOctets.take.Goals as goal

pub returns : goal.returns
returns c =
    takes c.self.inside.out c.self.inside.block.items c.take.new.block.items c.args.more.now c.args.self.now.octets
    (ap (λ (h : Holding). h.octets) c.self.view_is) c.take.ensures.items c.self.invariant.0
