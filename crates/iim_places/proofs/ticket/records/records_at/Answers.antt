use Rattle.std.proofs.Common.{arith}
use Rattle.iim_places.proofs.AtPlaces.{live_alive, stored_fields}
use Rattle.std.proofs.Common.{[]}
use Rattle.iim_places.proofs.AtPlaces.{leads_on_state}
use Rattle.iim_places.proofs.ticket.records.records_at.Goals as goal

pub unreachable-requires : goal.unreachable-requires
unreachable-requires c =
    let a = c.args in
    let none = rw (c.has_ended.ensures, c.if-not-pass_state.true) at (c.pass_state.ensures.all c.requires.kept) in
    let goes = leads_on_state a.limits a.section _ a.fields a.numbers a.some _ _ _ c.requires.fits c.requires.kept c.requires.within c.requires.lives in
    none [] c.in_ok-records.ensures.stands (rw c.in_ok-records.ensures.limits goes)

pub take_phase-requires-clause-stands : goal.take_phase-requires-clause-stands
take_phase-requires-clause-stands c = grind (arith, live_alive, stored_fields)

pub returns-clause-stands : goal.returns-clause-stands
returns-clause-stands c = grind (arith, live_alive, stored_fields)
