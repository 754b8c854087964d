use Rattle.iim_output.specs.States.Holding.{BuffersText}
use Rattle.iim_output.proofs.Holding.{none_of_one, taken_none}
use Rattle.iim_output.proofs.block_writer.BlockWriterStorySink.line_end.Goals as goal

pub returns-clause-refused : goal.returns-clause-refused
returns-clause-refused g c = taken_none c.put.result c.put.ensures.refused

pub returns-clause-front : goal.returns-clause-front
returns-clause-front g c = none_of_one c.put.result 10 (BuffersText g.W.Target.state c.args.self.now c.put.new.self) c.put.ensures.refused c.put.ensures.front
