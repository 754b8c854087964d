use Rattle.std.proofs.Common.{List, ◌∷◌, length, ap, sym, ◌∙◌, arith}
use Rattle.iim_dataset.specs.Format.Datasets.{Dataset}
use Rattle.iim_places.specs.TicketParts.{dataset, EncodesFields}
use Rattle.iim_places.proofs.Splitting.{rest_encoded, first_encoded, none_encoded}
use Rattle.iim_places.proofs.ticket.fields.TicketFieldsIterator.next.Goals as goal

pub returns-in_err-field-clause-steps : goal.returns-in_err-field-clause-steps
returns-in_err-field-clause-steps c =
    rw c.from_residual.ensures (let none = sym c.self.view_is
    ∙ none_encoded c.self.inside.octets.now c.self.inside.holds c.in_err-field.ensures.none in (none, none))

pub iterate-requires : goal.iterate-requires
iterate-requires c =
    rest_encoded c.self.inside.octets.now c.in_ok-field.octets.now (dataset c.in_ok-field.field.0 c.in_ok-field.field.1 c.in_ok-field.field.2.now)
    c.self.inside.holds c.in_ok-field.ensures.fits c.in_ok-field.ensures.parts

pub returns-clause-steps : goal.returns-clause-steps
returns-clause-steps c =
    let d = dataset c.in_ok-field.field.0 c.in_ok-field.field.1 c.in_ok-field.field.2.now in
    let rest : EncodesFields c.in_ok-field.octets.now = (c.iterate.result, (c.iterate.ensures.each, c.iterate.ensures.spelled)) in
    sym c.self.view_is ∙ first_encoded c.self.inside.octets.now _ d c.self.inside.holds rest c.in_ok-field.ensures.fits c.in_ok-field.ensures.parts
    ∙ ap (λ (ds : List Dataset). d ∷ ds) (sym c.self-2.view_is)

pub returns-clause-goes : goal.returns-clause-goes
returns-clause-goes c = record { on = λ _. (tt, tt, (let e = ap length (returns-clause-steps c) in omega (arith, e))); keeps = tt; rests = λ _. tt }
