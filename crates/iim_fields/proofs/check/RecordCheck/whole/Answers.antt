use Rattle.std.proofs.Common.{◌≡◌, List, [], ◌∷◌, ◌++◌, Some, true, sym, ◌∙◌, subst, arith}
use Rattle.iim_fields.proofs.{Words.same_Some, Words.are_octets, Words.Dataset, Words.data_of, Words.HasChecked, Words.IsRecordPlace, Checking.place_led}
use Rattle.iim_fields.proofs.Wholes.{exactly_by, took_by, none_where}
use Rattle.iim_fields.proofs.check.RecordCheck.whole.Goals as goal

took : (c : goal.After-whole) → c.whole.result ≡ true → (ds : List Dataset) → HasChecked (Some c.in-Some.place) ds
    → HasChecked (Some c.whole.new.self) (ds ++ data_of c.args.head c.args.octets.now ∷ [])
took c is =
    let between = rw (← (sym c.in-Some.is ∙ c.self.view_is)) at c.requires.between in
    took_by c.each_row_has_values.ensures c.in-Some.place c.whole.new.self c.args.head c.args.octets.now (omega arith) between c.requires.count
    (are_octets c.args.octets.now (λ i. omega (arith, c.type_inv.octets i))) (none_where _ (sym c.whole.ensures.exactly ∙ is)) (c.whole.ensures.took is)
    c.whole.ensures.begun

pub returns-clause-exactly : goal.returns-clause-exactly
returns-clause-exactly c = λ ds s.
    exactly_by c.in-Some.place c.args.head c.args.octets.now c.whole.result c.whole.ensures.exactly ds (rw (← (sym c.in-Some.is ∙ c.self.view_is)) at s)

pub returns-clause-took : goal.returns-clause-took
returns-clause-took c is = rw (← (sym c.in-Some.is ∙ c.self.view_is)) (took c is)

pub invariant_of-self : goal.invariant_of-self
invariant_of-self c x same =
    let between = rw (← (sym c.in-Some.is ∙ c.self.view_is)) at c.requires.between in
    subst IsRecordPlace (same_Some c.whole.new.self x same)
    (place_led c.in-Some.place c.whole.new.self c.whole.result (data_of c.args.head c.args.octets.now) between (c.self.invariant c.in-Some.place c.in-Some.is)
    (took c) c.whole.ensures.left)
