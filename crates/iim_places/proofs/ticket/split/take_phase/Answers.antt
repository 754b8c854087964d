use Rattle.iim_places.proofs.{Results.if_none, Splitting.no_partial}
use Rattle.iim_places.proofs.ticket.split.take_phase.Goals as goal

pub returns-in-1-clause-none : goal.returns-in-1-clause-none
returns-in-1-clause-none c =
    if_none _ _ c.take_data.result (no_partial c.args.version c.args.section c.in_ok-kind.kind c.args.octets.now c.in_ok-kind.rest.now
    c.in_ok-kind.ensures.parts c.in-1.is) c.take_data.ensures.none
