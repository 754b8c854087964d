use Rattle.wire_message.proofs.Readings.{is_unfinished}
use Rattle.wire_message.proofs.reader.MessageReader.close.Goals as goal

pub returns-clause-refused : goal.returns-clause-refused
returns-clause-refused c octets text stands = is_unfinished c.args.self.now (cc (c.self.view_is, c.has_ended.ensures, c.if-has_ended.false)) octets text stands
