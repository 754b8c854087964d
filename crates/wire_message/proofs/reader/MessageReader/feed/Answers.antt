use Rattle.std.proofs.Common.{sym, ◌∙◌}
use Rattle.wire_message.proofs.Readings.{taken_piece, refused_one}
use Rattle.wire_message.proofs.reader.MessageReader.feed.Goals as goal

pub returns-in-Ok-clause-taken : goal.returns-in-Ok-clause-taken
returns-in-Ok-clause-taken g c = rw (sym c.self.view_is ∙ c.in-Some.is) (taken_piece c.readers_consume_viable_octets.ensures c.in-Ok.ensures.takes)

pub returns-in-Err-clause-refused : goal.returns-in-Err-clause-refused
returns-in-Err-clause-refused g c = rw (sym c.self.view_is ∙ c.in-Some.is) (refused_one c.readers_consume_viable_octets.ensures c.in-Err.ensures.stops)
