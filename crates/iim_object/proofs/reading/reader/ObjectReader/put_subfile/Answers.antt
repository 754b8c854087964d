use Rattle.iim_object.proofs.Words.{◌∙◌, sym, arith, same_Some, SubfileBegun}
use Rattle.iim_object.proofs.{Steps.leads_on, Staying.room_for, Staying.subfile_state}
use Rattle.iim_object.proofs.reading.reader.ObjectReader.put_subfile.Goals as goal

pub add_subfile-requires : goal.add_subfile-requires
add_subfile-requires c =
    let fits = c.requires.accepts c.in-Some.state (cc) in
    let room = room_for c.in-Some.state c.args.count (c.self.invariant c.in-Some.state c.in-Some.is) fits.1 in
    omega (arith, fits.0.2)

pub invariant_of-self : goal.invariant_of-self
invariant_of-self c = λ s e.
    let fits = c.requires.accepts c.in-Some.state (cc) in
    rw (sym c.add_subfile.ensures ∙ same_Some c.add_subfile.new.self s e) at
    (subfile_state c.in-Some.state c.args.count (c.self.invariant c.in-Some.state c.in-Some.is) fits.0 fits.1)

pub returns-clause-leads_on : goal.returns-clause-leads_on
returns-clause-leads_on c =
    let fits = c.requires.accepts c.in-Some.state (cc) in
    rw (sym c.self.view_is ∙ c.in-Some.is, c.add_subfile.ensures) (leads_on c.in-Some.state (SubfileBegun c.args.count) fits.1)
