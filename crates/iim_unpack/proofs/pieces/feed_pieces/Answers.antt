use Rattle.iim_unpack.proofs.Words.{Bor, HasFedChunks, IsRejected, List, [], arith, drop, get_or, inl, limits_in, refl, stream_of, subst, take, take_all, ℕ, ◌+◌, ◌∙◌}
use Rattle.iim_dataset.proofs.Lists.{handed_on}
use Rattle.iim_unpack.proofs.Intakes.{adds_none}
use Rattle.iim_unpack.proofs.PieceLemmas.{AreLow, feeds_on, still_taking, stream_rest, stream_step, turned_down}
use Rattle.iim_unpack.proofs.pieces.feed_pieces.Goals as goal

pub loop-piece-init : goal.loop-piece-init
loop-piece-init g c =
    let nothing = g.met.S.StorySink.nothing c.args.sink.now in
    record { fed = record { limits_are = refl; more = []; told = nothing; stood = inl (c.requires.fresh, adds_none []) }; no_failure = refl }

pub returns-in_err-feed-clause-refused : goal.returns-in_err-feed-clause-refused
returns-in_err-feed-clause-refused g c =
    let limits = limits_in c.args.unpacker.now in
    let low : AreLow limits = record { octets = c.is_reachable.ensures.octets; fields = c.is_reachable.ensures.fields } in
    let none : Bor (List ℕ) = record { ref_ptr = (0, 0); now = [] } in
    let ps = c.args.pieces.now in
    let k = c.loop-piece.piece-index in
    let down = turned_down g.met.S.StorySink.joined c.delivery_of_chunks_joins.ensures c.place_laws.ensures low (stream_of (take k ps)) (get_or ps k none).now
    (stream_of (drop (k + 1) ps)) c.loop-piece.invariant.fed c.in_err-feed.was c.in_err-feed.ensures.refused (λ done. (c.feed.ensures.done done).0) in
    handed_on (IsRejected g.S.StorySink.goes limits (stream_of ps) c.args.sink.now c.feed.new.sink) c.from_residual.result c.in_err-feed.field-0.0
    c.from_residual.ensures.1 (rw (stream_rest ps k none c.loop-piece-test.true) down)

pub loop-piece-preserved : goal.loop-piece-preserved
loop-piece-preserved g c =
    let limits = limits_in c.args.unpacker.now in
    let low : AreLow limits = record { octets = c.is_reachable.ensures.octets; fields = c.is_reachable.ensures.fields } in
    let none : Bor (List ℕ) = record { ref_ptr = (0, 0); now = [] } in
    let ps = c.args.pieces.now in
    let k = c.loop-piece.piece-index in
    let fed = c.loop-piece.invariant.fed in
    let same = c.in_ok-feed.ensures.limits (still_taking fed) ∙ fed.limits_are in
    let on = feeds_on g.met.S.StorySink.joined c.delivery_of_chunks_joins.ensures c.place_laws.ensures low (stream_of (take k ps)) (get_or ps k none).now
    c.in_ok-feed.field-0 fed same c.in_ok-feed.ensures.goes.1 (λ used fits at. (c.feed.ensures.done (at.taking, at.ended)).1) in
    record { fed = rw (stream_step ps k none c.loop-piece-test.true) on; no_failure = c.in_ok-feed.ensures.goes.0 ∙ c.loop-piece.invariant.no_failure }

pub returns-clause-fed : goal.returns-clause-fed
returns-clause-fed g c =
    subst (λ (ps : List (Bor (List ℕ))). HasFedChunks g.S.StorySink.goes (limits_in c.args.unpacker.now) c.loop-piece.unpacker c.args.sink.now
    c.loop-piece.sink (stream_of ps))
    (take_all c.loop-piece.piece-index c.args.pieces.now (omega arith)) c.loop-piece.invariant.fed
