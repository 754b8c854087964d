use Rattle.std.proofs.Common.{[]}
use Rattle.iim_places.proofs.Words.{head_of_numbers}
use Rattle.iim_places.proofs.ticket.records.take_phase.Goals as goal

pub returns-in-Ok-2-clause-stands : goal.returns-in-Ok-2-clause-stands
returns-in-Ok-2-clause-stands c ds stand lives within =
    let d = c.in-Data in
    rw d.is (c.bytes.ensures.stands ds (head_of_numbers c.args.section d.set d.count) [] (c.in-Ok-2.ensures.stands ds stand))
