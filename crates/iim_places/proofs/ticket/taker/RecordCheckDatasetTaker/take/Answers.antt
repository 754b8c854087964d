use Rattle.std.proofs.Common.{Bool, [], ◌∷◌, subst, sym}
use Rattle.iim_places.proofs.{Words.AcceptsHead, Words.HasChecked, Words.widest, Words.ConsumesEach, Taking.value_took}
use Rattle.iim_places.specs.TicketParts.{dataset}
use Rattle.iim_places.proofs.ticket.taker.RecordCheckDatasetTaker.take.Goals as goal

pub returns-in-Ok-2-clause-took : goal.returns-in-Ok-2-clause-took
returns-in-Ok-2-clause-took c =
    let d = dataset c.args.rec c.args.set c.args.octets.now in
    subst (λ (b : Bool). ConsumesEach AcceptsHead HasChecked (λ _. widest) c.args.self.now (d ∷ []) c.value.new.self b) (sym c.is_ok.ensures.value)
    (value_took c.args.self.now c.head.new.self c.value.new.self d c.value.result c.in-Ok.ensures.stands c.if-rec-eq-OBJECT.false c.value.ensures.takes_head
    c.value.ensures.stands c.value.ensures.fault)
