use Rattle.std.proofs.Common.{rules}
use Rattle.iim_object.proofs.reading.reader.ObjectReader.take_state.Goals as goal

pub returns-clause-is_state : goal.returns-clause-is_state
returns-clause-is_state c = c.self.invariant c.unwrap.result (search rules)
