use Rattle.std.proofs.Common.{refl}
use Rattle.iim_output.proofs.Holding.{holds, buffers_of_buffered}
use Rattle.iim_output.proofs.block_writer.BlockWriter.buffer_text.Goals as goal

pub returns-clause-put : goal.returns-clause-put
returns-clause-put g c = holds g.W.Target.state c.writes_join.ensures _ _ c.args.text.now refl c.take.ensures refl

pub returns-clause-puts : goal.returns-clause-puts
returns-clause-puts g c = buffers_of_buffered g.W.Target.state _ _ c.args.text.now (returns-clause-put g c) refl
