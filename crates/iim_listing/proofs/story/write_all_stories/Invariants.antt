use Rattle.iim_listing.proofs.Words.{◌≡◌, ◌-◌, None, input_of, limits_in, limits, HasWrittenStories}
use Rattle.iim_listing.proofs.story.write_all_stories.Given as goal

abbrev pub invariant-telling : goal.invariant-telling
invariant-telling g l = record {
  alive : l.intake.failed ≡ None;
  same : limits_in l.unpacker ≡ limits;
  told : HasWrittenStories g.W.Target.state g.E.Target.state l.fn.story_writer (input_of g.R.Source.state l.fn.intake)
      (input_of g.R.Source.state l.intake) l.story_writer
      l.count;
  leads : (last : _) → g.R.Source.leads l.intake.reader last → g.R.Source.leads l.fn.intake.reader last;
}

abbrev pub decreases-telling : goal.decreases-telling
decreases-telling g l = 1000000 - l.count
