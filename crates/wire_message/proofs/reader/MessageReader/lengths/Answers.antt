use Rattle.std.proofs.Common.{sym, ◌∙◌}
use Rattle.wire_message.proofs.Reached.{exactly}
use Rattle.wire_message.proofs.reader.MessageReader.lengths.Goals as goal

pub returns-clause-exactly : goal.returns-clause-exactly
returns-clause-exactly c count =
    exactly c.args.self.now c.in-Some.place c.lengths_to.result.0 c.lengths_to.result.1 (sym c.self.view_is ∙ c.in-Some.is)
    (c.self.invariant c.in-Some.place c.in-Some.is) c.lengths_to.ensures.least c.lengths_to.ensures.greatest count
