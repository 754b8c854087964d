use Rattle.iim_unpack.proofs.ticket.spelling.push_field.Goals as goal

pub returns : goal.returns
returns g c =
    let joined = g.met.T.TicketOut.joined in
    joined _ _ _ _ _ (joined _ _ _ _ _ c.put.ensures c.push_number.ensures) c.put-2.ensures
