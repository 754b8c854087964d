use Rattle.iim_unpack.proofs.ticket.spelling.push_tag.Goals as goal

pub returns : goal.returns
returns g c = g.met.T.TicketOut.joined _ _ _ _ _ c.put.ensures c.push_text.ensures
