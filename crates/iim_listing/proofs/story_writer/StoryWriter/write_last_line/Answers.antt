use Rattle.std.proofs.Common.{refl}
use Rattle.iim_listing.proofs.StoryWriters.{lose_one_more_line, last_line_fails}
use Rattle.iim_listing.proofs.story_writer.StoryWriter.write_last_line.Goals as goal

pub returns-in-Ok-clause-err : goal.returns-in-Ok-clause-err
returns-in-Ok-clause-err g c =
    last_line_fails g.W.Target.state g.E.Target.state c.writes_join.ensures c.args.self.now c.flush_all.new.self _ c.args.line.now c.args.line.now
    c.write_text.result refl
    c.in-Ok.ensures.out c.in-Ok.ensures.out.text refl c.write_text.ensures.err

pub returns-in-Err-clause-err : goal.returns-in-Err-clause-err
returns-in-Err-clause-err g c = lose_one_more_line g.W.Target.state g.E.Target.state c.args.self.now c.flush_all.new.self c.args.line.now
    c.in-Err.ensures.write_failed
