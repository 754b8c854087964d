use Rattle.iim_audit.proofs.Taking.{fed_by, refused_as}
use Rattle.iim_audit.proofs.pieces.feed_count.Goals as goal

pub returns-clause-fed : goal.returns-clause-fed
returns-clause-fed c =
    fed_by c.args.unpacker.now c.feed.new.self c.args.piece.now c.feed.result c.args.count.now c.feed.new.sink c.unpackers_are_reachable.ensures.stands
    c.feed.ensures.goes c.feed.ensures.done c.feed.ensures.again

pub returns-clause-refused : goal.returns-clause-refused
returns-clause-refused c =
    refused_as c.feed.result c.args.unpacker.now c.args.count.now c.feed.new.sink c.args.piece.now c.feed.ensures.refused c.feed.ensures.counted
