use Rattle.std.proofs.Common.{◌≡◌, ◌++◌, List, ap, append_assoc, sym, ◌∙◌}
use Rattle.std.proofs.lemmas.Result.{IfOk-at_ok}
use Rattle.iim_fields.proofs.{Words.Dataset, Words.BuilderView, Words.limit_exceeded_by, Words.limit_exceeded, Words.rest_of, Copying.takes}
use Rattle.iim_fields.proofs.builder.EnvelopeBuilder.from.Goals as goal

pub unwrap-requires : goal.unwrap-requires
unwrap-requires c =
    let d : Dataset = record { rec = c.in-Some-next.rec; set = c.in-Some-next.set; octets = c.in-Some-next.octets.now } in
    let same : limit_exceeded c.args.limits c.totals-octets.result.0 c.totals-octets.result.1 ≡ limit_exceeded_by c.args.limits c.args.envelope.now =
    λ i. limit_exceeded c.args.limits (c.totals-octets.ensures i).0 (c.totals-octets.ensures i).1 in
    takes c.record_laws.ensures.builders_accept_envelopes c.args.limits c.loop-rec.builder.limits c.args.envelope.now c.loop-rec.builder.fields
    (rest_of c.next.new.self) d c.add.result
    c.fields-rest.ensures.envelope (sym same ∙ (sym c.passed.ensures ∙ c.in_default.is)) (c.loop-rec.invariant.limits
    ∙ ap (λ (b : BuilderView). b.limits) c.in_ok-builder.ensures.empty)
    (ap (λ (ds : List Dataset). c.loop-rec.builder.fields ++ ds) (sym c.in-Some-next.ensures.steps)
    ∙ (c.loop-rec.invariant.parts ∙ c.fields-rest.ensures.fields))
    c.add.ensures.fault

pub loop-rec-preserved : goal.loop-rec-preserved
loop-rec-preserved c =
    let added = IfOk-at_ok _ c.unwrap.ensures c.add.ensures.added in
    let rest = append_assoc c.loop-rec.builder.fields _ (rest_of c.next.new.self)
    ∙ ap (λ (ds : List Dataset). c.loop-rec.builder.fields ++ ds) (sym c.in-Some-next.ensures.steps) in
    record { limits = cc; room = cc; parts = ap (λ (b : BuilderView). b.fields ++ rest_of c.next.new.self) added ∙ (rest ∙ c.loop-rec.invariant.parts) }
