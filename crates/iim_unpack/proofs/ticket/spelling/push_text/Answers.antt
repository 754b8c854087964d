use Rattle.iim_unpack.proofs.ticket.spelling.push_text.Goals as goal

pub returns : goal.returns
returns g c = g.met.T.TicketOut.joined _ _ _ _ _ c.put.ensures c.put-2.ensures
