use Rattle.wire_story.proofs.Collected.{push_end, end_made}
use Rattle.wire_story.proofs.lines.LinesStorySink.line_end.Goals as goal

pub invariant_of-self : goal.invariant_of-self
invariant_of-self c = rw c.in-Ok.ensures.items (end_made c.self.inside.octets.items c.self.invariant)

pub returns-in-Ok-clause-ok : goal.returns-in-Ok-clause-ok
returns-in-Ok-clause-ok c = rw (c.in-Ok.ensures.items, ← c.self.view_is) (push_end c.self.inside.octets.items)
