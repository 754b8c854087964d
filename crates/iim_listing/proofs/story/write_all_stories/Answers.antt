use Rattle.iim_listing.proofs.Words.{refl, arith, input_of, errors_of, output_of, OutOfMemory}
use Rattle.iim_listing.proofs.StoryWriting.{no_stories_yet, stories_without_memory}
use Rattle.iim_dataset.proofs.Lists.{handed_on}
use Rattle.iim_listing.proofs.story.write_all_stories.Goals as goal

pub telling-init : goal.telling-init
telling-init g c = record {
  alive = c.requires.alive;
  same = c.in_ok-unpacker.ensures.limits;
  told = no_stories_yet g.W.Target.state g.E.Target.state c.reads_join.ensures c.writes_join.ensures (input_of g.R.Source.state c.args.intake.now)
      c.args.story_writer.now c.requires.is_flushed c.requires.unbroken;
  leads = λ last h. h;
}

pub returns-in_err-unpacker-clause-err : goal.returns-in_err-unpacker-clause-err
returns-in_err-unpacker-clause-err g c =
    let source = input_of g.R.Source.state c.args.intake.now in
    let old = output_of g.W.Target.state c.args.story_writer.now in
    let errors = errors_of g.E.Target.state c.args.story_writer.now in
    handed_on _ c.from_residual.result OutOfMemory c.from_residual.ensures.1 (stories_without_memory c.reads_join.ensures c.writes_join.ensures source old old
    errors refl)

pub telling-preserved : goal.telling-preserved
telling-preserved g c =
    let next = rw c.in-Ok-None.field-0-is at c.in-Ok-None.ensures.ok in
    record {
      alive = (next.0 refl).0;
      same = (next.0 refl).1;
      told = next.1 (input_of g.R.Source.state c.args.intake.now) c.args.story_writer.now c.telling.invariant.told;
      leads = λ last h. c.telling.invariant.leads last
          (g.met.R.Source.leads_on c.telling.intake.reader c.write_next_story.new.intake.reader last c.write_next_story.ensures.leads h);
    }

pub telling-smaller : goal.telling-smaller
telling-smaller g c =
    let next = rw c.in-Ok-None.field-0-is at c.in-Ok-None.ensures.ok in
    omega (arith, (next.0 refl).2)

pub returns-in-Ok-Some : goal.returns-in-Ok-Some
returns-in-Ok-Some g c =
    let next = rw c.in-Ok-Some.field-0-is at c.in-Ok-Some.ensures.ok in
    let out = next.1 (input_of g.R.Source.state c.args.intake.now) c.args.story_writer.now c.telling.invariant.told in
    record { ok = out.0; err = tt; same = out.1; leads = c.telling.invariant.leads c.write_next_story.new.intake.reader c.write_next_story.ensures.leads }

pub returns-in-Err : goal.returns-in-Err
returns-in-Err g c =
    let out = c.in-Err.ensures.err (input_of g.R.Source.state c.args.intake.now) c.args.story_writer.now c.telling.invariant.told in
    record { ok = tt; err = out.0; same = out.1; leads = c.telling.invariant.leads c.write_next_story.new.intake.reader c.write_next_story.ensures.leads }
