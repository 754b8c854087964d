use Rattle.iim_object.proofs.Saved.{finds_between}
use Rattle.iim_object.proofs.reading.place.state_at.Goals as goal

pub returns-in-None-clause-exactly : goal.returns-in-None-clause-exactly
returns-in-None-clause-exactly c =
    let e = c.between.ensures in
    rw (c.in-None.is, ← c.of_numbers-numbers.ensures)
    (finds_between c.of_numbers-numbers.result c.args.taken c.args.heads c.between.result e.exactly.0 e.exactly.1 e.value).0

pub returns-in-None-clause-stands : goal.returns-in-None-clause-stands
returns-in-None-clause-stands c =
    let e = c.between.ensures in
    rw (c.in-None.is, ← c.of_numbers-numbers.ensures)
    (finds_between c.of_numbers-numbers.result c.args.taken c.args.heads c.between.result e.exactly.0 e.exactly.1 e.value).1
