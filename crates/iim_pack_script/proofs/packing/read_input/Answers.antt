use Rattle.iim_pack_script.proofs.{Words.rules, Words.length, Words.take, Packings.unread}
use Rattle.iim_pack_script.proofs.packing.read_input.Goals as goal

pub returns-in-Err-clause-unread : goal.returns-in-Err-clause-unread
returns-in-Err-clause-unread g c =
    unread c.reads_join.ensures (g.R.Source.state c.args.reader.now) (g.R.Source.state c.loop-block.reader) (g.R.Source.state c.read_some.new.reader)
    c.loop-block.script.items
    (length (take c.min-room.result c.loop-block.block)) c.in-Err.fault (search rules) (search rules) c.loop-block.invariant.given c.in-Err.ensures.failed
