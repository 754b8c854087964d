use Rattle.iim_unpack.specs.{Format.Pieces.stream_of, States.Unpacking.limits_in}
use Rattle.iim_round_trip.proofs.Given.{given, fails, counts}
use Rattle.iim_round_trip.proofs.unpacking.unpack_packed.Goals as goal

pub returns-in-Ok-unpack_pieces-clause-returns_packed : goal.returns-in-Ok-unpack_pieces-clause-returns_packed
returns-in-Ok-unpack_pieces-clause-returns_packed g c =
    let got = c.in-Ok-unpack_pieces.got in
    given g.S.StorySink.goes (limits_in c.in-Ok.unpacker) c.args.limits (stream_of c.args.pieces.now) c.args.sink.now c.unpack_pieces.new.sink got.0 got.1
    c.in-Ok.ensures.limits
    c.packed_stream_has_one_result.ensures (λ answer h. c.in-Ok-unpack_pieces.ensures.only answer h tt) c.in-Ok-unpack_pieces.ensures.finished

pub returns-in-Err-clause-refused : goal.returns-in-Err-clause-refused
returns-in-Err-clause-refused g c =
    fails (limits_in c.in-Ok.unpacker) c.args.limits (stream_of c.args.pieces.now) c.in-Err.refusal c.in-Ok.ensures.limits
    c.packed_stream_has_one_result.ensures c.in-Err.ensures.only

pub returns-in-Err-clause-rejected : goal.returns-in-Err-clause-rejected
returns-in-Err-clause-rejected g c =
    rw c.in-Ok.ensures.limits at c.in-Err.ensures.refused

pub returns-in-Err-clause-counted : goal.returns-in-Err-clause-counted
returns-in-Err-clause-counted g c = counts c.in-Err.refusal.cause _ _ c.in-Err.ensures.counted
