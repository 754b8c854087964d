use Rattle.iim_object.proofs.Words.{◌∙◌, sym, same_Some, NumberRead}
use Rattle.iim_object.proofs.{Steps.leads_on, Staying.number_state}
use Rattle.iim_object.proofs.reading.reader.ObjectReader.put_number.Goals as goal

pub invariant_of-self : goal.invariant_of-self
invariant_of-self c = λ s e.
    let fits = c.requires.accepts c.in-Some.state (cc) in
    rw (sym c.set_number.ensures ∙ same_Some c.set_number.new.self s e) at
    (number_state c.in-Some.state c.args.set c.args.number (c.self.invariant c.in-Some.state c.in-Some.is) fits.0 fits.1)

pub returns-clause-leads_on : goal.returns-clause-leads_on
returns-clause-leads_on c =
    let fits = c.requires.accepts c.in-Some.state (cc) in
    rw (sym c.self.view_is ∙ c.in-Some.is, c.set_number.ensures) (leads_on c.in-Some.state (NumberRead c.args.set c.args.number) fits.1)
