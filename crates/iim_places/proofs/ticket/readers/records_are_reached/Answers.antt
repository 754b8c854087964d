use Rattle.std.proofs.Common.{arith}
use Rattle.iim_places.proofs.AtPlaces.{live_alive, stored_fields}
use Rattle.iim_places.proofs.Plain.{kept_fields}
use Rattle.std.proofs.Common.{[]}
use Rattle.iim_places.proofs.ticket.readers.records_are_reached.Goals as goal

pub returns-then-pass_state-clause-lives : goal.returns-then-pass_state-clause-lives
returns-then-pass_state-clause-lives c yes' =
    let kept = c.pass_state.ensures.kept c.if-pass_state.true in
    let took = rw (c.has_ended.ensures, c.if-pass_state.true) at (c.pass_state.ensures.all kept) in
    c.can_continue.ensures.lives yes' _ (took.2 [] c.new-check.ensures.stands)

pub returns-then-pass_state-clause-dies : goal.returns-then-pass_state-clause-dies
returns-then-pass_state-clause-dies c = grind (arith, live_alive, stored_fields, kept_fields)

pub returns-else-pass_state-clause-dies : goal.returns-else-pass_state-clause-dies
returns-else-pass_state-clause-dies c = grind (arith, live_alive, stored_fields, kept_fields)
