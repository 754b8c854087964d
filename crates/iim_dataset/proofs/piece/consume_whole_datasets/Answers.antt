use Rattle.std.proofs.Common.{◌≡◌, ◌+◌, ◌-◌, [], refl, arith, ap, length, length-drop, None}
use Rattle.std.proofs.lemmas.List.{take_rest}
use Rattle.iim_dataset.specs.States.Reading.{between}
use Rattle.iim_dataset.proofs.{Fronts.begun_none, Places.stays}
use Rattle.iim_dataset.proofs.Stopping.{tells_front, refuses_front, tells_whole, in_front, data_within, whole_stops}
use Rattle.iim_dataset.proofs.piece.consume_whole_datasets.Goals as goal

pub loop-head-init : goal.loop-head-init
loop-head-init g c = record {
  within = omega arith;
  told = record { more = []; told = g.met.D.DatasetSink.nothing c.args.sink.now; brings = stays between };
  stands = c.requires.stands;
  none = λ _. refl;
}

pub loop-head-preserved : goal.loop-head-preserved
loop-head-preserved g c =
    let rest = c.args.rest.now in
    let at = c.loop-head.at in
    let s = c.in-Ok-Some-More in
    let told = tells_whole c.in-Some.ensures (rw s.field-0-is at s.ensures.taken) in
    let more = rw s.field-0-is at s.field-0-0-is in
    record {
      within = omega (arith, c.in-Some.ensures.within, ap length (take_rest rest at), length-drop at rest);
      told = tells_front g.met.D.DatasetSink.joined rest at c.in-Some.used c.loop-head.invariant.told told;
      stands = rw (s.field-0-is, more) at s.ensures.stands;
      none = λ z. absurd (omega (arith, z, c.in-Some.ensures.some));
    }

pub returns-in-Ok-Some-Last-clause-wholes : goal.returns-in-Ok-Some-Last-clause-wholes
returns-in-Ok-Some-Last-clause-wholes g c =
    let rest = c.args.rest.now in
    let at = c.loop-head.at in
    let s = c.in-Ok-Some-Last in
    let told = tells_whole c.in-Some.ensures (rw s.field-0-is at s.ensures.taken) in
    let last = rw s.field-0-is at s.field-0-0-is in
    λ some. record {
      is_place = begun_none;
      some = some;
      within = omega (arith, c.in-Some.ensures.within, ap length (take_rest rest at), length-drop at rest);
      told = tells_front g.met.D.DatasetSink.joined rest at c.in-Some.used c.loop-head.invariant.told told;
      onward = (rw (s.field-0-is, last) at s.ensures.stands, refl);
    }

pub returns-in-Ok-Some-Last-clause-none : goal.returns-in-Ok-Some-Last-clause-none
returns-in-Ok-Some-Last-clause-none g c = λ z. absurd (omega (arith, z, c.in-Some.ensures.some))

pub overflow_sub-result : goal.overflow_sub-result
overflow_sub-result g c = omega (arith, data_within c.in-Some.ensures)

pub returns-in-Err-clause-before : goal.returns-in-Err-clause-before
returns-in-Err-clause-before g c =
    let rest = c.args.rest.now in
    let at = c.loop-head.at in
    omega (arith, in_front c.in-Some.ensures c.in-Err.ensures.refused, ap length (take_rest rest at), length-drop at rest, c.loop-head.invariant.within)

pub returns-in-Err-clause-stopped : goal.returns-in-Err-clause-stopped
returns-in-Err-clause-stopped g c =
    let rest = c.args.rest.now in
    let at = c.loop-head.at in
    let t = c.in-Err.stop.taken in
    let k = c.in-Some.used - length c.in-Some.data.now in
    let there : at + k + t ≡ at + (k + t) = omega arith in
    let stops = whole_stops t c.in-Some.ensures c.in-Err.ensures.refused c.in-Err.ensures.stopped in
    let front = refuses_front g.met.D.DatasetSink.joined rest at (k + t) g.met.D.DatasetSink.joined_stop None between c.whole.new.self in
    rw there (front c.loop-head.invariant.told (stops, refl)).0

pub returns-clause-wholes : goal.returns-clause-wholes
returns-clause-wholes g c = grind (arith, begun_none)
