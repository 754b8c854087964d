use Rattle.std.proofs.Common.{inr}
use Rattle.iim_script.proofs.Names.{names_once}
use Rattle.iim_script.proofs.field.add_line.Goals as goal

pub returns-in_default-clause-refused : goal.returns-in_default-clause-refused
returns-in_default-clause-refused c = λ no_head. inr (λ d told. c.in_default.ensures.none d.rec d.set told.end told.names, no_head)

pub returns-in-Ok-None-clause-refused : goal.returns-in-Ok-None-clause-refused
returns-in-Ok-None-clause-refused c = λ no_head.
    let none = rw c.in-Ok-None.field-0-is at c.in-Ok-None.ensures.none in
    inr (
      λ d told. none d.octets
          (rw (← (names_once c.args.line.now d.rec d.set c.in-Some.rec c.in-Some.set told.end c.in-Some.end.now told.names c.in-Some.ensures.some).2)
          told.is_end),
      no_head,
    )
