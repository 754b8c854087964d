use Rattle.wire_story.proofs.writer.LineWriterStorySink.text.Goals as goal
use Rattle.wire_story.specs.Steps.{octets_of_line}

pub returns-clause-ok : goal.returns-clause-ok
returns-clause-ok g c = simp octets_of_line c.write.ensures.ok

pub returns-clause-front : goal.returns-clause-front
returns-clause-front g c = simp octets_of_line c.write.ensures.front
