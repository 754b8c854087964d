use Rattle.iim_listing.proofs.Words.{rules, ◌≡◌, refl, refused_line}
use Rattle.iim_listing.proofs.StoryWriters.{lose_one_more_line, last_line_fails}
use Rattle.iim_listing.proofs.story_writer.StoryWriter.tell_refusal.Goals as goal

pub returns-in_ok-push_refused-in-Ok-clause-err : goal.returns-in_ok-push_refused-in-Ok-clause-err
returns-in_ok-push_refused-in-Ok-clause-err g c =
    let line : c.as_slice.result.now ≡ refused_line c.args.number c.args.refusal = search rules in
    last_line_fails g.W.Target.state g.E.Target.state c.writes_join.ensures c.args.self.now c.flush_all.new.self _ c.as_slice.result.now
    (refused_line c.args.number c.args.refusal) c.write_text.result line c.in-Ok.ensures.out c.in-Ok.ensures.out.text refl c.write_text.ensures.err

pub returns-in-Err-clause-err : goal.returns-in-Err-clause-err
returns-in-Err-clause-err g c =
    lose_one_more_line g.W.Target.state g.E.Target.state c.args.self.now c.flush_all.new.self
    (refused_line c.args.number c.args.refusal) c.in-Err.ensures.write_failed
