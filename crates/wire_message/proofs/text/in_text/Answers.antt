use Rattle.std.proofs.Common.{◌≡◌, ℕ, take, slice_index, refl, arith}
use Rattle.wire_message.proofs.{Names.take-length, Names.TextCause, Names.SinkCountsMessageCause, Names.message_cause_of, Alike.stands_two}
use Rattle.wire_message.proofs.Readings.{all_taken, ends_at, stops_somewhere, refuses_at}
use Rattle.wire_story.specs.declared.fault.TextCause.TheVariants as text_cause
use Rattle.wire_story.specs.States.Reading as story
use Rattle.wire_message.proofs.text.in_text.Goals as goal
use Rattle.wire_message.proofs.text.in_text.Goals.{else-is_control-via-then-is_control+else-rest-fault-eq-ETX, else-is_control-via-else-is_control}

-- ---- Some octets reach the state, and so they do the next one.
pub returns-in-Ok-clause-takes : goal.returns-in-Ok-clause-takes
returns-in-Ok-clause-takes g c = λ on.
    let place = c.requires.place in
    let taken = c.in-Ok.ensures.taken in
    let old = (c.text_states_are_reached.ensures c.args.text.now).0 place.1 in
    let leads = all_taken c.args.head.now c.args.text.now c.run.new.self c.args.rest.now taken.leads_on in
    record {
      is_place = (place.0, stands_two c.run.new.self _ (taken.leads_on old.0 old.1));
      told = (c.args.rest.now, taken.told, rw (take-length c.args.rest.now) leads);
      no_failure = taken.no_failure;
    }

pub returns-then-rest-fault-eq-ETX-clause-ended : goal.returns-then-rest-fault-eq-ETX-clause-ended
returns-then-rest-fault-eq-ETX-clause-ended g c = λ ended trailer none.
    let e = c.in-Err.ensures.refused in
    let fault = c.in-Err.fault in
    let rest = c.args.rest.now in
    let control = c.is_control.ensures.yes c.if-is_control.true in
    let leads = ends_at c.story_laws.ensures c.args.head.now c.args.text.now trailer rest fault.taken none e.before c.if-rest-fault-eq-ETX.true
    (rw control at e.refused) in
    record {
      is_place = (c.requires.place.0, rw none (refl, omega arith, omega arith));
      told = (take fault.taken rest, e.told, leads);
      no_failure = rw control at e.counted;
    }

-- The cause of a message counts as the cause of its text does.
counted_as : (cause : TextCause) (old new : ℕ) → story.SinkCountsTextCause old new cause → SinkCountsMessageCause old new (message_cause_of cause)
counted_as text_cause.Sink old new h = h
counted_as _ old new h = h

pub returns-else-is_control-clause-stops : goal.returns-else-is_control-clause-stops
returns-else-is_control-clause-stops g c =
    let e = c.in-Err.ensures.refused in
    let fault = c.in-Err.fault in
    let rest = c.args.rest.now in
    let h = c.args.head.now in
    let other : fault.cause ≡ text_cause.ControlOctet → slice_index rest fault.taken ≡ 3 → ⊥ = λ control etx.
    elim c.else-is_control.branch [
      | else-is_control-via-then-is_control+else-rest-fault-eq-ETX w ↦ w.if-rest-fault-eq-ETX.false etx
      | else-is_control-via-else-is_control w ↦ c.is_control.ensures.no w.if-is_control.false control
    ] in
    rw c.cause_in_text.ensures (record {
      within = e.before;
      refused = refuses_at c.story_laws.ensures h c.args.text.now rest fault.taken fault.cause (c.type_inv.rest fault.taken).fits other e.refused;
      told = (take fault.taken rest, e.told, stops_somewhere c.story_laws.ensures h c.args.text.now _ (slice_index rest fault.taken) fault.cause e.refused);
      counted = counted_as fault.cause _ _ e.counted;
    })
