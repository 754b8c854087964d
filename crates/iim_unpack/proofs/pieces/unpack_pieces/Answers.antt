use Rattle.iim_unpack.proofs.Words.{IsRejected, limits_in, stream_of}
use Rattle.iim_unpack.proofs.PieceLemmas.{ends_done, ends_short, is_unpacked, only_down, only_on, only_up, short_counts}
use Rattle.iim_dataset.proofs.Lists.{handed_on}
use Rattle.iim_unpack.proofs.pieces.unpack_pieces.Goals as goal

pub returns-in_err-feed_pieces-clause-refused : goal.returns-in_err-feed_pieces-clause-refused
returns-in_err-feed_pieces-clause-refused g c =
    handed_on (IsRejected g.S.StorySink.goes (limits_in c.args.unpacker) (stream_of c.args.pieces.now) c.args.sink.now c.feed_pieces.new.sink)
    c.from_residual.result c.in_err-feed_pieces.field-0.0 c.from_residual.ensures.1 c.in_err-feed_pieces.ensures.refused

pub returns-in_err-feed_pieces-clause-only : goal.returns-in_err-feed_pieces-clause-only
returns-in_err-feed_pieces-clause-only g c =
    only_on (limits_in c.args.unpacker) (stream_of c.args.pieces.now) c.from_residual.result c.in_err-feed_pieces.field-0.0 c.from_residual.ensures.1
    (only_down g.S.StorySink.goes c.place_laws.ensures.streams_have_one_result c.in_err-feed_pieces.ensures.refused)

pub returns-in-Some-clause-refused : goal.returns-in-Some-clause-refused
returns-in-Some-clause-refused g c = ends_short c.in_ok-feed_pieces.ensures.fed c.end_of_input.ensures.truncated c.in-Some.is c.end_of_input.ensures.done

pub returns-in-Some-clause-only : goal.returns-in-Some-clause-only
returns-in-Some-clause-only g c = only_down g.S.StorySink.goes c.place_laws.ensures.streams_have_one_result (returns-in-Some-clause-refused g c)

pub returns-in-Some-clause-counted : goal.returns-in-Some-clause-counted
returns-in-Some-clause-counted g c =
    short_counts c.in_ok-feed_pieces.ensures.fed c.end_of_input.ensures.truncated c.in-Some.is c.end_of_input.ensures.done
    c.in_ok-feed_pieces.ensures.no_failure

pub unreachable-requires : goal.unreachable-requires
unreachable-requires g c =
    let f = ends_done c.in_ok-feed_pieces.ensures.fed c.end_of_input.ensures.truncated c.in_default.is in
    c.in-Err.ensures.not_done (f.done.done.taking, f.done.done.ended)

pub returns-clause-finished : goal.returns-clause-finished
returns-clause-finished g c =
    let fed = c.in_ok-feed_pieces.ensures.fed in
    is_unpacked g.S.StorySink.goes c.layer_lemmas.ensures c.texts_are_delivered_as_lines.ensures c.args.sink.now c.feed_pieces.new.sink fed.limits_are
    (ends_done fed c.end_of_input.ensures.truncated c.in_default.is) c.in-Ok.ensures.value c.octets-used.ensures

pub returns-clause-only : goal.returns-clause-only
returns-clause-only g c = λ answer is other. only_up g.S.StorySink.goes c.place_laws.ensures.streams_have_one_result (returns-clause-finished g c) answer is
