use Rattle.std.proofs.Common.{[], take}
use Rattle.std.proofs.lemmas.Result.{IfErr-weaker}
use Rattle.iim_object.proofs.Outputs.{on_ok}
use Rattle.iim_output.specs.HoldingLaws.{buffered_joined, buffers_joined}
use Rattle.iim_output.proofs.Holding.{buffered_in_part_later}
use Rattle.iim_output.proofs.block_writer.BlockWriter.flush_and_write.Goals as goal

pub returns-in-Ok-clause-put : goal.returns-in-Ok-clause-put
returns-in-Ok-clause-put g c = on_ok c.write_to_empty_buffer.result _ _
    (λ put. buffered_joined g.W.Target.state c.args.self.now c.flush.new.self c.write_to_empty_buffer.new.self [] c.args.text.now c.in-Ok.ensures.put put)
    c.write_to_empty_buffer.ensures.put

pub returns-in-Ok-clause-puts : goal.returns-in-Ok-clause-puts
returns-in-Ok-clause-puts g c = on_ok c.write_to_empty_buffer.result _ _
    (λ puts. buffers_joined g.W.Target.state c.args.self.now c.flush.new.self c.write_to_empty_buffer.new.self [] c.args.text.now c.in-Ok.ensures.puts puts)
    c.write_to_empty_buffer.ensures.puts

pub returns-in-Ok-clause-write_failed : goal.returns-in-Ok-clause-write_failed
returns-in-Ok-clause-write_failed g c =
    IfErr-weaker c.write_to_empty_buffer.result _ _
    (λ stop write_failed. buffered_in_part_later g.W.Target.state c.writes_join.ensures c.args.self.now c.flush.new.self c.write_to_empty_buffer.new.self []
    (take stop.taken c.args.text.now)
    c.in-Ok.ensures.put write_failed) c.write_to_empty_buffer.ensures.write_failed

pub returns-in-Ok-clause-front : goal.returns-in-Ok-clause-front
returns-in-Ok-clause-front g c =
    IfErr-weaker c.write_to_empty_buffer.result _ _
    (λ stop puts. buffers_joined g.W.Target.state c.args.self.now c.flush.new.self c.write_to_empty_buffer.new.self []
    (take stop.taken c.args.text.now) c.in-Ok.ensures.puts
    puts) c.write_to_empty_buffer.ensures.front

pub returns-in-Err-clause-write_failed : goal.returns-in-Err-clause-write_failed
returns-in-Err-clause-write_failed g c = rw c.in-Err.ensures.none c.in-Err.ensures.write_failed.0

pub returns-in-Err-clause-front : goal.returns-in-Err-clause-front
returns-in-Err-clause-front g c = rw c.in-Err.ensures.none c.in-Err.ensures.front
