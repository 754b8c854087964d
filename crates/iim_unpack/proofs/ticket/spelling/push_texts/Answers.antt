use Rattle.iim_unpack.proofs.ticket.spelling.push_texts.Goals as goal

pub returns : goal.returns
returns g c =
    let joined = g.met.T.TicketOut.joined in
    let two = joined _ _ _ _ _ c.push_text.ensures c.push_text-2.ensures in
    let three = joined _ _ _ _ _ two c.push_text-3.ensures in
    let four = joined _ _ _ _ _ three c.push_text-4.ensures in
    let five = joined _ _ _ _ _ four c.push_text-5.ensures in
    let six = joined _ _ _ _ _ five c.push_text-6.ensures in
    rw (
      ← c.as_slice.ensures.value,
      ← c.as_slice-2.ensures.value,
      ← c.as_slice-3.ensures.value,
      ← c.as_slice-4.ensures.value,
      ← c.as_slice-5.ensures.value,
      ← c.as_slice-6.ensures.value,
      ← c.as_slice-7.ensures.value,
    ) (joined _ _ _ _ _ six c.push_text-7.ensures)
