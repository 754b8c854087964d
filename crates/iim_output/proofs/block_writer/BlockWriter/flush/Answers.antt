use Rattle.std.proofs.Common.{rules, [], refl}
use Rattle.iim_dataset.specs.Format.Octets.{CounterRose}
use Rattle.iim_output.proofs.Holding.{flush_empties_buffer, buffers_of_buffered, buffers_of_failed, flush_fails}
use Rattle.iim_output.proofs.block_writer.BlockWriter.flush.Goals as goal

pub returns-in-Ok-clause-put : goal.returns-in-Ok-clause-put
returns-in-Ok-clause-put g c = flush_empties_buffer g.W.Target.state _ _ c.octets.result.now refl c.octets.ensures c.clear.ensures c.in-Ok.ensures.ok
    c.in-Ok.ensures.retry_limit

pub returns-in-Ok-clause-puts : goal.returns-in-Ok-clause-puts
returns-in-Ok-clause-puts g c = buffers_of_buffered g.W.Target.state _ _ [] (returns-in-Ok-clause-put g c) refl

pub returns-in-Err-clause-write_failed : goal.returns-in-Err-clause-write_failed
returns-in-Err-clause-write_failed g c =
    let rose : CounterRose c.args.self.now.stops c.saturating_add-self.result = search rules in
    flush_fails g.W.Target.state _ _ c.octets.result.now c.in-Err.out refl c.octets.ensures c.skip_written.ensures c.in-Err.ensures.err
    c.in-Err.ensures.given_up rose

pub returns-in-Err-clause-front : goal.returns-in-Err-clause-front
returns-in-Err-clause-front g c =
    let write_failed = returns-in-Err-clause-write_failed g c in
    buffers_of_failed g.W.Target.state _ _ [] write_failed.0 write_failed.2
