use Rattle.std.proofs.Common.{arith}
use Rattle.wire_story.proofs.Fronts.{end_taken, end_refused}
use Rattle.wire_story.proofs.piece.consume_line_end.Goals as goal

pub returns-in-Ok-clause-taken : goal.returns-in-Ok-clause-taken
returns-in-Ok-clause-taken g c = end_taken c.requires (omega (arith, c.requires.few)) c.in-Ok.ensures.ok c.in-Ok.ensures.no_failure

pub returns-in-Err-clause-refused : goal.returns-in-Err-clause-refused
returns-in-Err-clause-refused g c = end_refused c.requires (omega (arith, c.requires.few)) c.in-Err.ensures.front c.in-Err.ensures.counted
