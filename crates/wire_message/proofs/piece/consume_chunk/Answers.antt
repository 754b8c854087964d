use Rattle.std.proofs.Common.{◌++◌, Some, ◌∙◌, arith, ap, length, length-drop, [], refl}
use Rattle.std.proofs.lemmas.List.{take_all, take_rest}
use Rattle.wire_message.proofs.Readings.{stays_standing, leads_on_front, somewhere_front, refuses_front, delivered_both}
use Rattle.wire_message.proofs.piece.consume_chunk.Goals as goal

pub loop-at-preserved : goal.loop-at-preserved
loop-at-preserved g c =
    let i = c.loop-at.invariant in
    let h = c.in-Ok.ensures.takes in
    let rest = c.args.piece.now in
    let goes = g.met.S.StorySink.joined c.args.sink.now c.loop-at.sink c.consume_prefix.new.sink _ _ i.told.1 h.told.1 in
    let leads = leads_on_front (Some c.args.place.now) (Some c.loop-at.place)
    (Some c.consume_prefix.new.place) rest c.loop-at.at c.in-Ok.used i.told.0 h.told.0 i.told.2 h.told.2 in
    record {
      is_place = h.is_place;
      within = omega (arith, c.in-Ok.ensures.within, ap length (take_rest rest c.loop-at.at), length-drop c.loop-at.at rest);
      told = (i.told.0 ++ h.told.0, rw (delivered_both i.told.0 h.told.0) goes, leads);
      nothing = λ none. absurd (omega arith);
      no_failure = h.no_failure ∙ i.no_failure;
    }

pub returns-in-Err-clause-stops : goal.returns-in-Err-clause-stops
returns-in-Err-clause-stops g c =
    let at = c.loop-at.at in
    let fault = c.in-Err.fault in
    let i = c.loop-at.invariant in
    let h = c.in-Err.ensures.stops in
    let rest = c.args.piece.now in
    let goes = g.met.S.StorySink.joined c.args.sink.now c.loop-at.sink c.consume_prefix.new.sink _ _ i.told.1 h.told.1 in
    let leads = somewhere_front (Some c.args.place.now) (Some c.loop-at.place) rest at fault.taken i.told.0 h.told.0 i.told.2 h.told.2 in
    record {
      within = omega (arith, h.within, ap length (take_rest rest at), length-drop at rest);
      refused = refuses_front (Some c.args.place.now) (Some c.loop-at.place) rest at fault.taken i.told.0 fault.cause i.told.2 h.refused;
      told = (i.told.0 ++ h.told.0, rw (delivered_both i.told.0 h.told.0) goes, leads);
      counted = rw i.no_failure at h.counted;
    }

pub returns-clause-takes : goal.returns-clause-takes
returns-clause-takes g c =
    let i = c.loop-at.invariant in
    record {
      is_place = i.is_place;
      told = rw (take_all c.loop-at.at c.args.piece.now (omega arith)) at i.told;
      no_failure = i.no_failure;
    }

pub loop-at-init : goal.loop-at-init
loop-at-init g c = record {
  is_place = c.requires;
  within = omega arith;
  told = ([], g.met.S.StorySink.nothing c.args.sink.now, stays_standing (Some c.args.place.now) c.args.piece.now);
  nothing = λ none. (refl, refl);
  no_failure = refl;
}
