use Rattle.std.proofs.Common.{◌≡◌, List, [], ◌∷◌, ◌++◌, None, Some, true, ap, sym, ◌∙◌, subst, arith}
use Rattle.iim_fields.proofs.Words.{is_none, same_Some, Octets, Dataset, head_of, HasChecked, IsRecordPlace}
use Rattle.iim_fields.proofs.{Sections.some_data, Checking.checked_more, Checking.none_begun, Checking.place_led, Checking.record_fault_is, Checking.told_at}
use Rattle.iim_fields.proofs.Wholes.{none_where}
use Rattle.iim_fields.proofs.check.RecordCheck.whole_subfile.Goals as goal

took : (c : goal.After-whole_subfile) → c.whole_subfile.result ≡ true → (ds : List Dataset) → HasChecked (Some c.in-Some.place) ds
    → (d : Dataset) → head_of d ≡ c.args.head → Octets d.octets → HasChecked (Some c.whole_subfile.new.self) (ds ++ d ∷ [])
took c is ds s d head octets =
    let between = rw (← (sym c.in-Some.is ∙ c.self.view_is)) at c.requires.between in
    checked_more c.each_row_has_values.ensures c.in-Some.place c.whole_subfile.new.self c.args.head None
    (c.whole_subfile.ensures.begun ∙ none_begun c.in-Some.place between) tt (omega arith) (c.whole_subfile.ensures.took is)
    (none_where _ (sym c.whole_subfile.ensures.exactly ∙ is)) ds s d head octets (λ other. absurd (other c.requires.subfile))

pub returns-clause-exactly : goal.returns-clause-exactly
returns-clause-exactly c = λ ds s.
    let here = rw (← (sym c.in-Some.is ∙ c.self.view_is)) at s in
    c.whole_subfile.ensures.exactly ∙ ap is_none (record_fault_is c.in-Some.place.order ds c.args.head (told_at c.in-Some.place ds here))

pub returns-clause-took : goal.returns-clause-took
returns-clause-took c is = rw (← (sym c.in-Some.is ∙ c.self.view_is)) (took c is)

pub invariant_of-self : goal.invariant_of-self
invariant_of-self c x same =
    let between = rw (← (sym c.in-Some.is ∙ c.self.view_is)) at c.requires.between in
    let (d, head, octets) = some_data c.args.head in
    subst IsRecordPlace (same_Some c.whole_subfile.new.self x same)
    (place_led c.in-Some.place c.whole_subfile.new.self c.whole_subfile.result d between (c.self.invariant c.in-Some.place c.in-Some.is)
    (λ is ds s. took c is ds s d head octets) c.whole_subfile.ensures.left)
