use Rattle.iim_unpack.proofs.ticket.spelling.push_option.Goals as goal

pub returns-in-Some : goal.returns-in-Some
returns-in-Some g c = rw c.in-Some.is (g.met.T.TicketOut.joined _ _ _ _ _ c.put.ensures c.push_wide.ensures)
