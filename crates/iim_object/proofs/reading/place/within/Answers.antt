use Rattle.iim_object.proofs.Words.{◌≡◌, None, rules, SubfileMayCome}
use Rattle.iim_object.proofs.Saved.{no_state_before, finds_after, state_before}
use Rattle.iim_object.proofs.reading.place.within.Goals as goal

pub returns-in_err-before-clause-exactly : goal.returns-in_err-before-clause-exactly
returns-in_err-before-clause-exactly c =
    let none : c.from_residual.result ≡ None = search rules in
    rw none (no_state_before c.args.numbers c.args.taken c.args.count c.args.left c.args.heads (λ is. search rules)).0

pub returns-clause-exactly : goal.returns-clause-exactly
returns-clause-exactly c =
    let s = state_before c.args.numbers c.args.taken c.args.count c.args.left c.args.heads in
    let same : c.in_ok-before.before ≡ s = c.in_ok-before.ensures.value in
    let takes : SubfileMayCome c.in_ok-before.before = search rules in
    let e = c.accept_subfile.ensures in
    rw c.ok.ensures.value
    (finds_after c.args.numbers c.args.taken c.args.count c.args.left c.args.heads c.accept_subfile.result (search rules) (search rules) (rw same at takes)
    (rw same at e.leads_on) (rw same at e.refused)).0

pub returns-clause-stands : goal.returns-clause-stands
returns-clause-stands c =
    let s = state_before c.args.numbers c.args.taken c.args.count c.args.left c.args.heads in
    let same : c.in_ok-before.before ≡ s = c.in_ok-before.ensures.value in
    let takes : SubfileMayCome c.in_ok-before.before = search rules in
    let e = c.accept_subfile.ensures in
    rw c.ok.ensures.value
    (finds_after c.args.numbers c.args.taken c.args.count c.args.left c.args.heads c.accept_subfile.result (search rules) (search rules) (rw same at takes)
    (rw same at e.leads_on) (rw same at e.refused)).1
