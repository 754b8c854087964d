use Rattle.wire_message.proofs.Readings.{is_unfinished}
use Rattle.wire_message.proofs.reader.MessageReader.is_whole.Goals as goal

pub returns-clause-unfinished : goal.returns-clause-unfinished
returns-clause-unfinished c not octets text stands = is_unfinished c.args.self.now (cc (c.self.view_is, c.has_ended.ensures)) octets text stands
