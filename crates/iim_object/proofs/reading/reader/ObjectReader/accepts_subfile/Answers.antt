use Rattle.iim_object.proofs.Words.{◌∙◌, sym, SubfileBegun}
use Rattle.iim_object.proofs.Staying.{refuses}
use Rattle.iim_object.proofs.reading.reader.ObjectReader.accepts_subfile.Goals as goal

pub returns-clause-refused : goal.returns-clause-refused
returns-clause-refused c = λ e.
    rw (sym c.self.view_is ∙ c.in-Some.is)
    (refuses c.in-Some.state (SubfileBegun c.args.count) (λ ok. let clash = sym (c.accepts_subfile.ensures.1 ok) ∙ e in cc))
