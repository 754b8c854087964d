use Rattle.iim_pack_script.proofs.Words.{◌-◌, ◌≤◌, arith, length-take}
use Rattle.iim_pack_script.proofs.BlockSteps.{moved}
use Rattle.iim_pack_script.proofs.blocks.write_front.Goals as goal

pub returns-in-Ok-clause-rest : goal.returns-in-Ok-clause-rest
returns-in-Ok-clause-rest g c =
    let taken = length-take c.args.used c.args.block.now in
    let few : c.in-Ok.count ≤ c.args.used = omega (arith, taken, c.in-Ok.ensures.ok.0, c.requires) in
    moved c.args.block.now c.copy_within.new.self c.args.used c.in-Ok.count (c.args.used - c.in-Ok.count) (omega (arith, few)) c.requires
    c.copy_within.ensures.after
