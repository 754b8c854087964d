use Rattle.std.proofs.Common.{[], refl}
use Rattle.wire_message.proofs.Readings.{leads_by, dies_in, stays_at}
use Rattle.wire_message.proofs.piece.pass_outside_text.Goals as goal

pub returns-in-Some-clause-takes : goal.returns-in-Some-clause-takes
returns-in-Some-clause-takes g c =
    let takes = c.in-Some.ensures.takes in
    record {
      is_place = takes.is_place;
      told = ([], g.met.S.StorySink.nothing c.args.sink.now, leads_by c.args.place.now c.consume_outside_text.new.place c.args.rest.now c.in-Some.used takes);
      no_failure = refl;
    }

pub returns-in-None-clause-stops : goal.returns-in-None-clause-stops
returns-in-None-clause-stops g c = record {
  within = c.requires.some;
  refused = dies_in c.args.place.now c.args.rest.now c.in-None.ensures.dies;
  told = ([], g.met.S.StorySink.nothing c.args.sink.now, stays_at c.args.place.now);
  counted = refl;
}
