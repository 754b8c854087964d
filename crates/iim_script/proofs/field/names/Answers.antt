use Rattle.iim_script.proofs.Names.{names_at, has_names, no_names, no_record}
use Rattle.iim_script.proofs.field.names.Goals as goal

pub returns-in_default-clause-none : goal.returns-in_default-clause-none
returns-in_default-clause-none c = λ rec set end t. no_names c.args.line.now rec set end c.in_default.ensures.none t

pub returns-in_default-number-clause-none : goal.returns-in_default-number-clause-none
returns-in_default-number-clause-none c = λ rec set end t.
    let found = c.in-Some.ensures.found in
    no_record c.args.line.now c.in-Some.before.now c.in-Some.after.now rec set end found.0 found.1 c.in_default-number.ensures.none t

pub returns-in_default-number-2-clause-none : goal.returns-in_default-number-2-clause-none
returns-in_default-number-2-clause-none c = λ rec set end t.
    let found = c.in-Some.ensures.found in
    c.in_default-number-2.ensures.none set (names_at c.args.line.now c.in-Some.before.now c.in-Some.after.now c.digits-end.result rec set end found.0 found.1
    c.digits-end.ensures t).is_set

pub returns-clause-some : goal.returns-clause-some
returns-clause-some c =
    let found = c.in-Some.ensures.found in
    has_names c.args.line.now c.in-Some.before.now c.in-Some.after.now c.digits-end.result c.in-Some-number.rec c.in-Some-number-2.set found.1
    c.digits-end.ensures
    c.in-Some-number.ensures.some c.in-Some-number-2.ensures.some
