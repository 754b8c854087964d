use Rattle.std.proofs.Common.{refl}
use Rattle.iim_unpack.proofs.ticket.spelling.write_ticket.Goals as goal

pub returns : goal.returns
returns g c =
    let joined = g.met.T.TicketOut.joined in
    let two = joined _ _ _ _ _ c.put.ensures c.put-2.ensures in
    let three = joined _ _ _ _ _ two c.push_phase.ensures in
    let four = joined _ _ _ _ _ three c.push_fields.ensures in
    let five = joined _ _ _ _ _ four c.push_options.ensures in
    let six = joined _ _ _ _ _ five c.push_wide.ensures in
    let seven = joined _ _ _ _ _ six c.push_number.ensures in
    let all = joined _ _ _ _ _ seven c.push_message.ensures in (
      _,
      record {
        section = c.section.result;
        numbers = c.numbers.result;
        taken = c.object_octets.result;
        heads = c.subfiles.result;
        message = c.place.result;
        after = c.section.ensures.after;
        inside = c.section.ensures.inside;
        object = λ p at. (c.numbers.ensures.place p at, c.object_octets.ensures p at, c.subfiles.ensures.place p at);
        message_is = c.place.ensures;
        spelled = refl;
      },
      all,
    )
