use Rattle.std.proofs.lemmas.List.{take_rest}
use Rattle.std.proofs.Common.{[], inl, inr, arith, ap, length, length-drop}
use Rattle.iim_dataset.specs.States.Reading.{tag_cause_of}
use Rattle.iim_dataset.proofs.{Places.stays, Stopping.tells_front, Stopping.refuses_front}
use Rattle.iim_dataset.proofs.piece.consume_chunk.Goals as goal

pub loop-at-init : goal.loop-at-init
loop-at-init g c = record {
  is_place = c.requires.place;
  within = omega arith;
  told = record { more = []; told = g.met.D.DatasetSink.nothing c.args.sink.now; brings = stays c.args.place };
  stands = c.requires.stands;
}

pub returns-in-Last-clause-piece : goal.returns-in-Last-clause-piece
returns-in-Last-clause-piece g c =
    let front = c.in-Ok.ensures.front in
    record {
      is_place = front.is_place;
      within = omega (arith, front.within, ap length (take_rest c.args.octets.now c.loop-at.at), length-drop c.loop-at.at c.args.octets.now);
      told = tells_front g.met.D.DatasetSink.joined c.args.octets.now c.loop-at.at c.in-Ok.front.used c.loop-at.invariant.told front.told;
      onward = inr (rw c.in-Last.is at front.onward);
    }

pub returns-clause-piece : goal.returns-clause-piece
returns-clause-piece g c = record {
  is_place = c.loop-at.invariant.is_place;
  within = c.loop-at.invariant.within;
  told = c.loop-at.invariant.told;
  onward = inl (omega (arith, c.loop-at.invariant.within), c.loop-at.invariant.stands);
}

pub loop-at-preserved : goal.loop-at-preserved
loop-at-preserved g c =
    let front = c.in-Ok.ensures.front in
    record {
      is_place = front.is_place;
      within = omega (arith, front.within, ap length (take_rest c.args.octets.now c.loop-at.at), length-drop c.loop-at.at c.args.octets.now);
      told = tells_front g.met.D.DatasetSink.joined c.args.octets.now c.loop-at.at c.in-Ok.front.used c.loop-at.invariant.told front.told;
      stands = rw c.in-More.is at front.onward;
    }

pub returns-in-Err-clause-refused : goal.returns-in-Err-clause-refused
returns-in-Err-clause-refused g c =
    let fault = c.in-Err.fault in
    let front = c.in-Err.ensures.refused in
    record {
      is_place = front.is_place;
      before = omega (arith, front.before, ap length (take_rest c.args.octets.now c.loop-at.at), length-drop c.loop-at.at c.args.octets.now);
      refused =
          refuses_front g.met.D.DatasetSink.joined c.args.octets.now c.loop-at.at fault.used g.met.D.DatasetSink.joined_stop
          (tag_cause_of fault.cause) c.in-Err.place c.consume_prefix.new.sink
          c.loop-at.invariant.told front.refused;
      onward = front.onward;
    }
