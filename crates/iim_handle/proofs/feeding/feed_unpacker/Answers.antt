use Rattle.std.proofs.Common.{◌≡◌, sym, ◌∙◌, inl, inr}
use Rattle.iim_handle.proofs.Fed.{consumes, none_or_some, has_failed, none_if_not_some, rejects}
use Rattle.iim_handle.specs.Format.{UnpackerIsFed}
use Rattle.iim_handle.proofs.feeding.feed_unpacker.Goals as goal

pub returns-in-Ok : goal.returns-in-Ok
returns-in-Ok c =
    let r = c.feed_text-fed in
    let accepts = none_if_not_some c.args.unpacker.now.refused (λ octet was. let h = (r.ensures.again octet was).0 in let is = c.in-Ok.is in cc) in
    inl (consumes c.dataset_laws.ensures c.args.unpacker.now r.new.unpacker c.args.piece.now r.new.out r.result.1 c.octets.result c.in-Ok.progress
    c.status_and_used-status.result c.status_answer.result (rw c.in-Ok.is at r.ensures.goes) accepts
    (λ done. let h = r.ensures.done done in let e = sym c.in-Ok.is ∙ h.0 in ((let same = e in cc), h.1, h.2)) (rw c.in-Ok.is at (r.ensures.limits accepts))
    r.ensures.memory c.octets.ensures c.status_and_used-status.ensures c.status_answer.ensures)

pub returns-in-Err : goal.returns-in-Err
returns-in-Err c =
    let r = c.feed_text-fed in
    elim (none_or_some c.args.unpacker.now.refused) as (λ _. UnpackerIsFed c.args.unpacker.now c.args.piece.now r.new.out r.new.unpacker (record
    c.refusal_answer.result { written = r.result.1 })) [
      | inl accepts ↦
          inr (inl (rejects c.dataset_laws.ensures c.args.unpacker.now r.new.unpacker c.args.piece.now r.new.out r.result.1 c.in-Err.refusal
          c.refusal_answer.result (rw c.in-Err.is at r.ensures.refused) accepts
          (λ done. let h = (r.ensures.done done).0 in let is = c.in-Err.is in cc) (rw c.in-Err.is at r.ensures.fails) r.ensures.memory
          c.refusal_answer.ensures))
      | inr was ↦
          (let h = r.ensures.again was.0 was.1 in
          inr (inr (has_failed c.args.unpacker.now r.new.unpacker r.result.1 was.0 c.refusal_answer.result was.1 h.1 h.2 c.in-Err.refusal
          (let same = h.0 in let is = c.in-Err.is in cc) c.refusal_answer.ensures)))
    ]
