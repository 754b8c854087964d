use Rattle.iim_object.proofs.Words.{◌∙◌, sym, NumberRead}
use Rattle.iim_object.proofs.Staying.{refuses}
use Rattle.iim_object.proofs.reading.reader.ObjectReader.accepts_number.Goals as goal

pub accepts_number-requires : goal.accepts_number-requires
accepts_number-requires c = (c.self.invariant c.in-Some.state c.in-Some.is).numbers

pub returns-clause-refused : goal.returns-clause-refused
returns-clause-refused c = λ e.
    rw (sym c.self.view_is ∙ c.in-Some.is)
    (refuses c.in-Some.state (NumberRead c.args.set c.args.number) (λ ok. let clash = sym (c.accepts_number.ensures.1 ok) ∙ e in cc))
