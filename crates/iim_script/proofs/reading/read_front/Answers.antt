use Rattle.iim_script.proofs.Words.{ap, BuilderView}
use Rattle.iim_script.proofs.Fronts.{reaches_head, past_trailer, is_front, refused, text_fault, end_fault}
use Rattle.std.proofs.lemmas.Result.{err_from_is_err_and}
use Rattle.iim_script.proofs.reading.read_front.Goals as goal

pub returns-in_err-head-clause-fault : goal.returns-in_err-head-clause-fault
returns-in_err-head-clause-fault c =
    let stands = rw (ap (λ (b : BuilderView). b.limits) c.in-Ok.ensures.empty) at c.in_ok-after_fields.ensures.stands in
    let p = err_from_is_err_and c.from_residual-in_err-head.result c.from_residual-in_err-head.ensures.1 in
    rw (p.1, p.2) (refused _ c.requires stands (c.in_err-head.ensures.fault c.args.limits c.read_fields.new.builder.fields c.in_ok-after_fields.ensures.all))

pub returns-in_err-trailer-clause-fault : goal.returns-in_err-trailer-clause-fault
returns-in_err-trailer-clause-fault c =
    let stands = rw (ap (λ (b : BuilderView). b.limits) c.in-Ok.ensures.empty) at c.in_ok-after_fields.ensures.stands in
    let p = err_from_is_err_and c.from_residual-in_err-trailer.result c.from_residual-in_err-trailer.ensures.1 in
    rw (p.1, p.2) (refused _ c.requires
    (reaches_head stands c.in_ok-head.ensures.told c.in_ok-head.ensures.counted)
    (c.in_err-trailer.ensures.fault c.args.limits c.read_fields.new.builder.fields c.in_ok-head.head))

pub returns-in_err-story-clause-fault : goal.returns-in_err-story-clause-fault
returns-in_err-story-clause-fault c =
    let stands = rw (ap (λ (b : BuilderView). b.limits) c.in-Ok.ensures.empty) at c.in_ok-after_fields.ensures.stands in
    let past = past_trailer (reaches_head stands c.in_ok-head.ensures.told c.in_ok-head.ensures.counted) c.in_ok-trailer.ensures.taken in
    let p = err_from_is_err_and c.from_residual-in_err-story.result c.from_residual-in_err-story.ensures.1 in
    rw (p.1, p.2) (text_fault _ c.requires past c.in_err-story.ensures.fault)

pub returns-in_err-envelope-clause-fault : goal.returns-in_err-envelope-clause-fault
returns-in_err-envelope-clause-fault c =
    let stands = rw (ap (λ (b : BuilderView). b.limits) c.in-Ok.ensures.empty) at c.in_ok-after_fields.ensures.stands in
    let past = past_trailer (reaches_head stands c.in_ok-head.ensures.told c.in_ok-head.ensures.counted) c.in_ok-trailer.ensures.taken in
    let p = err_from_is_err_and c.from_residual-in_err-envelope.result c.from_residual-in_err-envelope.ensures.1 in
    rw (p.1, p.2) (end_fault _ c.requires past c.in_ok-story.ensures.text c.in_err-envelope.ensures.line c.in_err-envelope.ensures.fault)

pub returns-clause-front : goal.returns-clause-front
returns-clause-front c =
    let stands = rw (ap (λ (b : BuilderView). b.limits) c.in-Ok.ensures.empty) at c.in_ok-after_fields.ensures.stands in
    let past = past_trailer (reaches_head stands c.in_ok-head.ensures.told c.in_ok-head.ensures.counted) c.in_ok-trailer.ensures.taken in
    rw c.in_ok-envelope.ensures.envelope (is_front past c.in_ok-story.ensures.text c.in_ok-envelope.ensures.whole c.in_ok-story.ensures.counted)
