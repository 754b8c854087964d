use Rattle.std.proofs.Common.{◌-◌, ◌<◌, [], ◌∷◌, ◌++◌, length, take, slice_index, map, arith}
use Rattle.std.proofs.lemmas.List.{take-take, length-take-le, get_or-take}
use Rattle.std.proofs.Math.Seq.{take-length}
use Rattle.iim_dataset.specs.States.Reading.{DataOctet, DatasetEnd}
use Rattle.iim_dataset.proofs.{Places.data_on, Places.data_end, Stopping.after_end, Stopping.data_stops, Stopping.end_stops, Stopping.stopped_at}
use Rattle.iim_dataset.proofs.OctetLists.{are_octets, front_are}
use Rattle.iim_dataset.proofs.piece.consume_data.Goals as goal

pub returns-in-Ok-clause-front : goal.returns-in-Ok-clause-front
returns-in-Ok-clause-front g c =
    let rest = c.args.rest.now in
    let left = c.args.left in
    let some : 0 < left - length rest = omega (arith, c.if-rest-left.true) in
    let octets = are_octets rest (λ i. omega (arith, c.type_inv.rest i)) in
    record {
      is_place = (some, omega (arith, c.requires.place.1), c.requires.place.2, c.requires.place.3);
      some = c.requires.some;
      within = omega arith;
      told = record {
        more = map DataOctet rest;
        told = c.in-Ok.ensures.ok;
        brings = rw take-length (data_on c.args.head left (left - length rest) rest octets some (omega (arith, some)));
      };
      onward = c.in-Ok.ensures.stands left c.requires.stands;
    }

pub returns-in-Err-clause-refused : goal.returns-in-Err-clause-refused
returns-in-Err-clause-refused g c =
    let lt = c.in-Err.ensures.refused in
    let octets = are_octets c.args.rest.now (λ i. omega (arith, c.type_inv.rest i)) in
    stopped_at c.stopped.result c.stopped.ensures.is_place c.stopped.ensures.place c.stopped.ensures.fault lt
    (data_stops octets lt (omega (arith, lt, c.if-rest-left.true)) c.in-Err.ensures.stopped)

pub returns-in-Ok-close-clause-front : goal.returns-in-Ok-close-clause-front
returns-in-Ok-close-clause-front g c =
    let rest = c.args.rest.now in
    let left = c.args.left in
    let octets = front_are left rest (are_octets rest (λ i. omega (arith, c.type_inv.rest i))) in
    record {
      is_place = c.start.ensures.is_place;
      some = c.requires.place.0;
      within = omega (arith, c.if-rest-left.false);
      told = record {
        more = map DataOctet (take left rest) ++ DatasetEnd ∷ [];
        told = g.met.D.DatasetSink.joined c.args.sink.now c.run-2.new.self c.close.new.self _ _ c.in-Ok-run.ensures.ok c.in-Ok-close.ensures.ok;
        brings = rw c.start.ensures.place (data_end c.args.head left (take left rest) octets (length-take-le left rest (omega (arith, c.if-rest-left.false))));
      };
      onward = after_end g.D.DatasetSink.stands g.D.DatasetSink.ends c.in-Ok-close.step c.start.result c.close.new.self c.start.ensures.place
          c.in-Ok-close.ensures.stands;
    }

pub returns-in-Err-close-clause-refused : goal.returns-in-Err-close-clause-refused
returns-in-Err-close-clause-refused g c =
    let s = c.stopped-in-Err-close in
    let octets = are_octets c.args.rest.now (λ i. omega (arith, c.type_inv.rest i)) in
    let stopped =
    g.met.D.DatasetSink.joined_stop c.args.sink.now c.run-2.new.self c.close.new.self _ _ _ c.in-Ok-run.ensures.ok c.in-Err-close.ensures.stopped in
    stopped_at s.result s.ensures.is_place s.ensures.place s.ensures.fault (omega (arith, c.requires.place.0, c.if-rest-left.false))
    (end_stops octets c.requires.place.0 (omega (arith, c.if-rest-left.false)) stopped)

pub returns-in-Err-run-clause-refused : goal.returns-in-Err-run-clause-refused
returns-in-Err-run-clause-refused g c =
    let rest = c.args.rest.now in
    let left = c.args.left in
    let t = c.in-Err-run.stop.taken in
    let s = c.stopped-in-Err-run in
    let lt : t < left = omega (arith, c.in-Err-run.ensures.refused, length-take-le left rest (omega (arith, c.if-rest-left.false))) in
    let before : t < length rest = omega (arith, lt, c.if-rest-left.false) in
    let stopped : g.D.DatasetSink.stops c.args.sink.now (map DataOctet (take t rest)) (DataOctet (slice_index rest t)) c.run-2.new.self =
    rw (← take-take t left rest (omega (arith, lt)), ← get_or-take left rest t 0 lt) c.in-Err-run.ensures.stopped in
    stopped_at s.result s.ensures.is_place s.ensures.place s.ensures.fault before
    (data_stops (are_octets rest (λ i. omega (arith, c.type_inv.rest i))) before lt stopped)
