use Rattle.iim_listing.proofs.Words.{rules, IfErr, ap, ◌∙◌, Device, input_of, StoriesFail, OutOfMemory}
use Rattle.iim_listing.proofs.{StoryWriting.stories_without_memory, StoryWriters.between}
use Rattle.iim_listing.proofs.story.write_stories.Goals as goal

pub returns-in-Err-clause-err : goal.returns-in-Err-clause-err
returns-in-Err-clause-err g c =
    let state = g.W.Target.state in
    let source = input_of g.R.Source.state c.args.intake.now in
    let errors = g.E.Target.state c.args.errors.now in
    let name = ap (λ r. r.ghost_name) c.in-Err.ensures.returned_unchanged in
    let out : StoriesFail source source (state c.args.output.now) (state c.in-Err.same.now) errors errors OutOfMemory =
    stories_without_memory c.reads_join.ensures c.writes_join.ensures source (state c.args.output.now) (state c.in-Err.same.now) errors
    (ap (λ r. state r.now) c.in-Err.ensures.returned_unchanged) in
    search rules

pub returns-in-Ok-clause-err : goal.returns-in-Ok-clause-err
returns-in-Ok-clause-err g c =
    let source = input_of g.R.Source.state c.args.intake.now in
    let rest = input_of g.R.Source.state c.write_all_stories-answer.new.intake in
    let answer = c.write_all_stories-answer.result in
    let back = c.into_targets-output.result in
    let lent = c.new-story_writer.ensures.output in
    let name = ap (λ r. r.ghost_name) c.into_targets-output.ensures.output ∙ c.write_all_stories-answer.ensures.same.0 ∙ ap (λ b. b.writer.ghost_name) lent
    ∙ ap (λ r. r.ghost_name) c.in-Ok.ensures.writer in
    let errors-name = ap (λ r. r.ghost_name) c.into_targets-output.ensures.errors ∙ c.write_all_stories-answer.ensures.same.1
    ∙ ap (λ r. r.ghost_name) c.new-story_writer.ensures.errors in
    between g.W.Target.state g.E.Target.state (λ (d e f h : Device). IfErr answer (StoriesFail source rest d e f h)) c.new-story_writer.result
    c.write_all_stories-answer.new.story_writer _ back.0 _ back.1
    (ap (λ b. b.writer) lent ∙ c.in-Ok.ensures.writer) c.into_targets-output.ensures.output c.new-story_writer.ensures.errors
    c.into_targets-output.ensures.errors
    (search rules) (search rules) c.write_all_stories-answer.ensures.err
