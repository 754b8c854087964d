use Rattle.iim_pack_script.proofs.{Words.rules, Words.IfErr-weaker, Words.IfOk-weaker, Words.asked, Packings.told_fault}
use Rattle.iim_pack_script.proofs.packing.pack_octets.Goals as goal

pub returns-in-Ok-clause-packed : goal.returns-in-Ok-clause-packed
returns-in-Ok-clause-packed g c =
    IfOk-weaker c.pack_contents.result _ _ (λ last packs. packs c.args.octets.now c.in-Ok.ensures.script) c.pack_contents.ensures.packed

pub returns-in-Ok-clause-unpacked : goal.returns-in-Ok-clause-unpacked
returns-in-Ok-clause-unpacked g c =
    IfErr-weaker c.pack_contents.result _ _ (λ left unpacks. unpacks c.args.octets.now c.in-Ok.ensures.script) c.pack_contents.ensures.unpacked

pub returns-in-Err-clause-unpacked : goal.returns-in-Err-clause-unpacked
returns-in-Err-clause-unpacked g c =
    let a = asked c.args.request.subfile c.args.request.unknown c.args.request.max in
    let told = told_fault a c.args.octets.now (g.W.Target.state c.args.output) c.in-Err.fault in
    search (rules, told)
