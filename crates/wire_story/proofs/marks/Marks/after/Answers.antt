use Rattle.wire_story.proofs.Marked.{marks_after, tells_used}
use Rattle.wire_story.proofs.marks.Marks.after.Goals as goal

pub returns : goal.returns
returns c = marks_after c.args.octets.now c.args.self c.requires.marks c.args.used
    (tells_used c.args.octets.now c.args.self c.requires.marks c.args.used c.if-left-eq0.false)
