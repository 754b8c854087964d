use Rattle.std.proofs.Common.{rules, take, refl}
use Rattle.iim_dataset.specs.Format.Octets.{CounterRose}
use Rattle.iim_output.proofs.Holding.{breaks_through, passes_through, buffers_of_buffered, buffers_of_failed}
use Rattle.iim_output.proofs.block_writer.BlockWriter.write_to_empty_buffer.Goals as goal

pub returns-in-Ok-clause-put : goal.returns-in-Ok-clause-put
returns-in-Ok-clause-put g c = passes_through g.W.Target.state _ _ c.args.text.now refl c.requires refl c.in-Ok.ensures.ok c.in-Ok.ensures.retry_limit

pub returns-in-Ok-clause-puts : goal.returns-in-Ok-clause-puts
returns-in-Ok-clause-puts g c = buffers_of_buffered g.W.Target.state _ _ c.args.text.now (returns-in-Ok-clause-put g c) refl

pub returns-in-Err-clause-write_failed : goal.returns-in-Err-clause-write_failed
returns-in-Err-clause-write_failed g c = breaks_through g.W.Target.state _ _ c.args.text.now c.in-Err.taken refl c.requires refl c.in-Err.ensures.err
    c.in-Err.ensures.given_up

pub returns-in-Err-clause-front : goal.returns-in-Err-clause-front
returns-in-Err-clause-front g c =
    let rose : CounterRose c.args.self.now.stops c.saturating_add-self.result = search rules in
    buffers_of_failed g.W.Target.state _ _ (take c.in-Err.taken c.args.text.now) (returns-in-Err-clause-write_failed g c) rose
