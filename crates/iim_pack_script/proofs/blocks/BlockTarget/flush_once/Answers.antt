use Rattle.iim_pack_script.proofs.Words.{◌<◌, ◌≤◌, length, take, ap, sym, arith, length-take, buffer_of}
use Rattle.iim_pack_script.proofs.BlockSteps.{faulted_behind, passed_on}
use Rattle.iim_pack_script.proofs.blocks.BlockTarget.flush_once.Goals as goal

pub returns-in-Ok-clause-ok : goal.returns-in-Ok-clause-ok
returns-in-Ok-clause-ok g c =
    let b = c.args.self.now in
    let h = c.in-Ok.ensures in
    let taken = length-take b.used b.block.now in
    let some : 0 < length (buffer_of b) = omega (arith, taken, c.requires, b.within) in
    let few : c.in-Ok.count ≤ b.used = omega (arith, taken, h.ok.0, b.within) in
    passed_on (g.W.Target.state b.first.value).octets (buffer_of b) _ (g.W.Target.state b.writer) (g.W.Target.state c.write_front.new.writer) c.in-Ok.count _
    h.ok h.rest some
    (λ pos. omega (arith, pos, few, h.room, b.within, b.some))

pub returns-in-Err-clause-err : goal.returns-in-Err-clause-err
returns-in-Err-clause-err g c =
    let b = c.args.self.now in
    faulted_behind (g.W.Target.state b.first.value).octets (buffer_of b) _ (g.W.Target.state b.writer)
    (g.W.Target.state c.write_front.new.writer) c.in-Err.fault
    (ap (take b.used) (sym c.in-Err.ensures.same)) c.in-Err.ensures.err
