use Rattle.std.proofs.Common.{◌≡◌, ◌≤◌, ◌-◌, take, length, Some}
use Rattle.wire_message.specs.States.Reading.{IsMessageState, PassesStoryToSink}
use Rattle.wire_message.proofs.piece.consume_chunk.Given as goal

-- The octets so far reach this state, and the sink received the events that they deliver.
abbrev pub invariant-loop-at : goal.invariant-loop-at
invariant-loop-at g l = record {
  is_place : IsMessageState l.place;
  within : l.at ≤ length l.piece;
  told : PassesStoryToSink g.S.StorySink.goes l.initial.sink (Some l.initial.place) (take l.at l.piece) (Some l.place) l.sink;
  nothing : length l.piece ≡ 0 → (l.place ≡ l.initial.place) × (l.sink ≡ l.initial.sink);
  no_failure : g.S.StorySink.failures l.sink ≡ g.S.StorySink.failures l.initial.sink;
}

abbrev pub decreases-loop-at : goal.decreases-loop-at
decreases-loop-at g l = length l.piece - l.at
