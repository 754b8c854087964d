use Rattle.std.proofs.Common.{◌≡◌, ◌+◌, ◌-◌, ◌<◌, [], ◌++◌, length, take, ap, arith, length-append}
use Rattle.std.proofs.Math.Seq.{take-length}
use Rattle.iim_dataset.specs.Steps.{head_events}
use Rattle.iim_dataset.specs.declared.place.DatasetPlace.TheVariants.{Tag}
use Rattle.iim_dataset.proofs.{Places.tag_on, Places.head_leads, HeldTags.begun_length, HeldTags.ends, HeldTags.after_held, HeldTags.refused_at}
use Rattle.iim_dataset.proofs.Stopping.{after_tag, tag_stops, stopped_at}
use Rattle.iim_dataset.proofs.piece.consume_tag.Goals as goal

pub overflow_sub-used : goal.overflow_sub-used
overflow_sub-used g c =
    let t = rw (c.in-Ok-Some.field-0-is, c.as_slice.ensures.value) at c.in-Ok-Some.ensures.found in
    omega (arith, (ends c.args.held.items c.args.rest.now c.requires.held t).all, c.len.ensures.value)

pub overflow_sub-used-in-Err-begin : goal.overflow_sub-used-in-Err-begin
overflow_sub-used-in-Err-begin g c =
    let t = rw (c.in-Ok-Some.field-0-is, c.as_slice.ensures.value) at c.in-Ok-Some.ensures.found in
    omega (arith, (ends c.args.held.items c.args.rest.now c.requires.held t).some, c.len.ensures.value)

pub lengthen-requires : goal.lengthen-requires
lengthen-requires g c =
    let b = rw (c.in-Ok-None.field-0-is, c.as_slice.ensures.value) at c.in-Ok-None.ensures.found in
    (omega arith, omega (arith, begun_length (c.args.held.items ++ c.args.rest.now) b, length-append c.args.held.items c.args.rest.now))

pub overflow_sub-used-in-Err : goal.overflow_sub-used-in-Err
overflow_sub-used-in-Err g c =
    let t = rw c.as_slice.ensures.value at c.in-Err.ensures.fault in
    omega (arith, after_held c.args.held.items c.args.rest.now c.in-Err.fault c.requires.held t, c.len-in-Err.ensures.value)

pub lengthen-requires-in-Err : goal.lengthen-requires-in-Err
lengthen-requires-in-Err g c =
    let held = c.args.held.items in
    let rest = c.args.rest.now in
    let k = c.in-Err.fault.taken - c.len-in-Err.result in
    let t = rw c.as_slice.ensures.value at c.in-Err.ensures.fault in
    let r = refused_at held rest c.in-Err.fault k c.requires.held t (omega (arith, c.len-in-Err.ensures.value)) in
    (omega arith, omega (arith, begun_length (held ++ take k rest) r.1, length-append held (take k rest)))

pub returns-in-Ok-clause-front : goal.returns-in-Ok-clause-front
returns-in-Ok-clause-front g c =
    let held = c.args.held.items in
    let rest = c.args.rest.now in
    let h = c.in-Ok-Some.head in
    let t = rw (c.in-Ok-Some.field-0-is, c.as_slice.ensures.value) at c.in-Ok-Some.ensures.found in
    let e = rw (← c.len.ensures.value) at (ends held rest c.requires.held t) in
    record {
      is_place = rw c.in-Ok.ensures.place (after_tag h (held ++ take (c.in-Ok-Some.length - c.len.result) rest) e.tag);
      some = e.some;
      within = e.within;
      told = record {
        more = head_events h;
        told = c.in-Ok.ensures.told;
        brings = rw c.in-Ok.ensures.place (head_leads c.args.held (take (c.in-Ok-Some.length - c.len.result) rest) h e.tag);
      };
      onward = c.in-Ok.ensures.onward;
    }

pub returns-in-Err-begin-clause-refused : goal.returns-in-Err-begin-clause-refused
returns-in-Err-begin-clause-refused g c =
    let t = rw (c.in-Ok-Some.field-0-is, c.as_slice.ensures.value) at c.in-Ok-Some.ensures.found in
    let e = ends c.args.held.items c.args.rest.now c.requires.held t in
    let k = c.in-Ok-Some.length - c.len.result - 1 in
    let used : c.in-Ok-Some.length - length c.args.held.items ≡ k + 1 = omega (arith, e.some, c.len.ensures.value) in
    let lt : k < length c.args.rest.now = omega (arith, e.within, used) in
    stopped_at c.stopped.result c.stopped.ensures.is_place c.stopped.ensures.place c.stopped.ensures.fault lt
    (tag_stops c.args.held lt (rw used at e.tag) c.in-Err-begin.ensures.stopped)

pub returns-in-Ok-None-clause-front : goal.returns-in-Ok-None-clause-front
returns-in-Ok-None-clause-front g c =
    let rest = c.args.rest.now in
    let b = rw (c.in-Ok-None.field-0-is, c.as_slice.ensures.value) at c.in-Ok-None.ensures.found in
    record {
      is_place = rw c.lengthen.ensures b;
      some = c.requires.some;
      within = omega arith;
      told = record {
        more = [];
        told = g.met.D.DatasetSink.nothing c.args.sink.now;
        brings = rw take-length (tag_on c.args.held c.lengthen.new.held rest b c.lengthen.ensures);
      };
      onward = c.requires.stands;
    }

pub returns-in-Err-clause-refused : goal.returns-in-Err-clause-refused
returns-in-Err-clause-refused g c =
    let held = c.args.held.items in
    let rest = c.args.rest.now in
    let k = c.in-Err.fault.taken - c.len-in-Err.result in
    let new = c.lengthen-in-Err.new.held in
    let t = rw c.as_slice.ensures.value at c.in-Err.ensures.fault in
    let r = refused_at held rest c.in-Err.fault k c.requires.held t (omega (arith, c.len-in-Err.ensures.value)) in
    let is : new ≡ record { items = held ++ take k rest } = (λ i. record { items = c.lengthen-in-Err.ensures i }) in
    record {
      is_place = rw c.lengthen-in-Err.ensures r.1;
      before = omega (arith, r.0);
      refused = rw c.tag_fault-cause.ensures (
        record { more = []; told = g.met.D.DatasetSink.nothing c.args.sink.now; brings = tag_on c.args.held new (take k rest) r.1 c.lengthen-in-Err.ensures },
        record { held = held ++ take k rest; tag = ap Tag is; dead = r.2; concerns = rw r.3 at t.cause },
      );
      onward = rw c.tag_fault-cause.ensures c.requires.stands;
    }
