use Rattle.wire_story.proofs.Collected.{push_run, text_made}
use Rattle.wire_story.proofs.lines.LinesStorySink.text.Goals as goal

pub invariant_of-self : goal.invariant_of-self
invariant_of-self c = rw c.in-Ok.ensures.items (text_made c.self.inside.octets.items c.args.run.now c.requires c.self.invariant)

pub returns-in-Ok-clause-ok : goal.returns-in-Ok-clause-ok
returns-in-Ok-clause-ok c = rw (c.in-Ok.ensures.items, ← c.self.view_is) (push_run c.self.inside.octets.items c.args.run.now c.requires)
