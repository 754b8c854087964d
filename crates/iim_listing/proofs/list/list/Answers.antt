use Rattle.iim_listing.proofs.Words.{rules, IfErr, ap, ◌∙◌, Device, input_of, ListingFails, OutOfMemory}
use Rattle.iim_output.proofs.Holding.{between}
use Rattle.iim_listing.proofs.Listings.{listing_without_memory, flushed_after_failure}
use Rattle.iim_listing.proofs.list.list.Goals as goal

pub returns-in-Err-clause-err : goal.returns-in-Err-clause-err
returns-in-Err-clause-err g c =
    let state = g.W.Target.state in
    let name = ap (λ r. r.ghost_name) c.in-Err.ensures.returned_unchanged in
    let out : ListingFails g.P.EnvelopeLines.written (input_of g.R.Source.state c.args.intake.now) (input_of g.R.Source.state c.args.intake.now)
    (state c.args.output.now) (state c.in-Err.same.now) OutOfMemory =
    listing_without_memory c.reads_join.ensures c.writes_join.ensures g.P.EnvelopeLines.written (input_of g.R.Source.state c.args.intake.now)
    (state c.args.output.now)
    (state c.in-Err.same.now)
    (ap (λ r. state r.now) c.in-Err.ensures.returned_unchanged) in
    search rules

pub returns-in-Ok-clause-err : goal.returns-in-Ok-clause-err
returns-in-Ok-clause-err g c =
    let state = g.W.Target.state in
    let text = g.P.EnvelopeLines.written in
    let source = input_of g.R.Source.state c.args.intake.now in
    let rest = input_of g.R.Source.state c.list_texts-answer.new.intake in
    let made = c.in-Ok.made in
    let told = c.list_texts-answer.new.null_sink.output in
    let last = c.flush_after_failure-answer.new.output in
    let answer = c.flush_after_failure-answer.result in
    let name = ap (λ r. r.ghost_name) c.into_writer.ensures ∙ c.flush_after_failure-answer.ensures.same ∙ c.list_texts-answer.ensures.same
    ∙ ap (λ r. r.ghost_name) c.in-Ok.ensures.writer in
    between state (λ (d e : Device). IfErr answer (ListingFails text source rest d e)) made last _ c.into_writer.result c.in-Ok.ensures.writer
    c.into_writer.ensures (search rules)
    (flushed_after_failure state c.writes_join.ensures text source rest made told last c.list_texts-answer.result answer c.in-Ok.ensures.pending
    c.list_texts-answer.ensures.err c.flush_after_failure-answer.ensures.settles)
