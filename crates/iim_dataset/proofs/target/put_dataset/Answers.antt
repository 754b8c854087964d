use Rattle.std.proofs.Common.{List, ℕ, ◌+◌, ◌++◌, ◌∙◌, length, subst}
use Rattle.iim_dataset.specs.States.Devices.{WroteOnlyPrefixOf}
use Rattle.iim_dataset.proofs.StoppedTexts.{stopped_more}
use Rattle.iim_dataset.proofs.target.put_dataset.Goals as goal

pub returns-in-Err-clause-err : goal.returns-in-Err-clause-err
returns-in-Err-clause-err g c =
    let a = g.W.Target.state c.args.writer.now in
    let b = g.W.Target.state c.put.new.writer in
    let tag = c.as_slice-front.ensures.value ∙ c.head_bytes-tag.ensures.canonical in
    rw tag at (stopped_more a b c.as_slice-front.result.now c.args.octets.now c.in-Err.out c.in-Err.ensures.err)

pub returns-in-Err-put-clause-err : goal.returns-in-Err-put-clause-err
returns-in-Err-put-clause-err g c =
    let n = length c.as_slice-front.result.now + c.in-Err-put.out in
    let tag = c.as_slice-front.ensures.value ∙ c.head_bytes-tag.ensures.canonical in
    subst (λ (t : List ℕ). WroteOnlyPrefixOf (g.W.Target.state c.args.writer.now) (g.W.Target.state c.put-2.new.writer) (t ++ c.args.octets.now) n) tag
    (c.writes_join.ensures.stopped _ _ _ c.as_slice-front.result.now c.args.octets.now _ c.in-Ok.ensures.ok c.in-Err-put.ensures.err)
