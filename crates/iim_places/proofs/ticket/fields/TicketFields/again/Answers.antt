use Rattle.std.proofs.Common.{ap, ◌∙◌}
use Rattle.iim_places.specs.TicketParts.{encoded_fields_unique, EncodesFields}
use Rattle.iim_places.proofs.ticket.fields.TicketFields.again.Goals as goal

pub returns : goal.returns
returns c =
    let here : EncodesFields c.self.inside.octets.now = (c.iterate.result, (c.iterate.ensures.each, c.iterate.ensures.spelled)) in
    ap (λ (h : EncodesFields c.self.inside.octets.now). h.0) (encoded_fields_unique c.self.inside.octets.now here c.self.inside.holds) ∙ c.self.view_is
