use Rattle.std.proofs.Common.{◌-◌, [], length, refl, ◌∙◌, inr, arith}
use Rattle.iim_places.proofs.{Words.Head, Taking.closed_took}
use Rattle.iim_places.specs.TicketParts.{dataset}
use Rattle.iim_dataset.proofs.OctetLists.{are_octets}
use Rattle.iim_places.proofs.ticket.taker.FieldsDatasetTaker.take.Goals as goal

pub close-requires-in-Ok-2 : goal.close-requires-in-Ok-2
close-requires-in-Ok-2 c =
    let n = length c.args.octets.now in
    let head : Head = record { rec = c.args.rec; set = c.args.set; count = n } in
    (head, n - n, c.bytes.ensures.inside head n c.in-Ok.ensures.inside, inr (omega arith))

pub returns-in-Ok-clause-took : goal.returns-in-Ok-clause-took
returns-in-Ok-clause-took c =
    let d = dataset c.args.rec c.args.set c.args.octets.now in
    rw (← c.whole.ensures.left c.if-whole.false, c.is_ok.ensures.value)
    (closed_took c.whole.new.self c.begin.new.self c.close.new.self d [] c.close.result c.in-Ok.ensures.stands
    (record {
      head = refl;
      octets = are_octets c.args.octets.now (λ i. omega (arith, c.type_inv.octets i));
      given = λ other. absurd (other c.if-rec-eq-OBJECT.true);
    })
    c.close.ensures.between (c.close.ensures.bounds.limits ∙ c.begin.ensures.bounds.limits) c.close.ensures.stands c.close.ensures.fault)

pub returns-in-Ok-2-clause-took : goal.returns-in-Ok-2-clause-took
returns-in-Ok-2-clause-took c =
    let d = dataset c.args.rec c.args.set c.args.octets.now in
    let h : Head = record { rec = c.args.rec; set = c.args.set; count = length c.args.octets.now } in
    rw (← c.whole.ensures.left c.if-whole.false, c.is_ok-in-Ok-2.ensures.value)
    (closed_took c.whole.new.self c.bytes.new.self c.close-in-Ok-2.new.self d c.args.octets.now c.close-in-Ok-2.result
    (λ ds s. c.bytes.ensures.stands ds h [] (c.in-Ok.ensures.stands ds s))
    (record { head = refl; octets = are_octets c.args.octets.now (λ i. omega (arith, c.type_inv.octets i)); given = λ other. refl })
    c.close-in-Ok-2.ensures.between (c.close-in-Ok-2.ensures.bounds.limits ∙ (c.bytes.ensures.bounds.limits ∙ c.begin.ensures.bounds.limits))
    c.close-in-Ok-2.ensures.stands c.close-in-Ok-2.ensures.fault)
