use Rattle.iim_unpack.proofs.Words.{HasFedChunks, limits_in, stream_of, take, ◌≡◌}
use Rattle.iim_unpack.proofs.pieces.feed_pieces.Given as goal

abbrev pub invariant-loop-piece : goal.invariant-loop-piece
invariant-loop-piece g l = record {
  fed : HasFedChunks g.S.StorySink.goes (limits_in l.fn.unpacker) l.unpacker l.fn.sink l.sink (stream_of (take l.piece-index l.pieces));
  no_failure : g.S.StorySink.failures l.sink ≡ g.S.StorySink.failures l.fn.sink;
}
