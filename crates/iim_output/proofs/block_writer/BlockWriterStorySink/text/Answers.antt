use Rattle.std.proofs.Common.{take}
use Rattle.std.proofs.lemmas.Result.{IfErr-weaker}
use Rattle.iim_object.proofs.Outputs.{on_ok}
use Rattle.iim_output.proofs.Holding.{events_of_line}
use Rattle.iim_output.proofs.block_writer.BlockWriterStorySink.text.Goals as goal

pub returns-clause-ok : goal.returns-clause-ok
returns-clause-ok g c = on_ok c.put.result _ _ (λ puts. events_of_line g.W.Target.state c.args.self.now c.put.new.self c.args.run.now puts) c.put.ensures.puts

pub returns-clause-front : goal.returns-clause-front
returns-clause-front g c =
    IfErr-weaker c.put.result _ _ (λ stop puts. events_of_line g.W.Target.state c.args.self.now c.put.new.self (take stop.taken c.args.run.now) puts)
    c.put.ensures.front
