use Rattle.iim_unpack.proofs.ticket.spelling.push_message.Goals as goal

pub returns : goal.returns
returns g c = rw (← c.part_number.ensures) (g.met.T.TicketOut.joined _ _ _ _ _ c.put.ensures c.push_texts.ensures)
