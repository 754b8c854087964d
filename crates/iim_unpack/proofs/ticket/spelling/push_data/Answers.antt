use Rattle.iim_unpack.proofs.ticket.spelling.push_data.Goals as goal

pub returns : goal.returns
returns g c =
    let joined = g.met.T.TicketOut.joined in
    joined _ _ _ _ _ c.put.ensures (joined _ _ _ _ _ c.push_wide.ensures (joined _ _ _ _ _ c.push_wide-2.ensures c.put-2.ensures))
