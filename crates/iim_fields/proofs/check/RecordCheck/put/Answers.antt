use Rattle.std.proofs.Common.{List, [], ◌∷◌, ◌++◌, ℕ, Some, true, sym, ◌∙◌, subst, arith, refl}
use Rattle.iim_fields.proofs.Words.{same_Some, Dataset, data_of, HasChecked, IsRecordPlace, MayAcceptDataset, RecordPlace}
use Rattle.iim_fields.proofs.{Checking.place_led, Wholes.took_by}
use Rattle.iim_fields.proofs.check.RecordCheck.put.Goals as goal

-- the state after the call
abbrev next : goal.After-take → RecordPlace
next c = record { order = c.take.new.self; begun = c.in-Some.place.begun }

-- The dataset reaches that state.
took : (c : goal.After-take) (xs : List ℕ) → MayAcceptDataset c.args.self.now c.args.head xs → (ds : List Dataset) → HasChecked (Some c.in-Some.place) ds
    → HasChecked (Some (next c)) (ds ++ data_of c.args.head xs ∷ [])
took c xs may =
    let between = rw (← (sym c.in-Some.is ∙ c.self.view_is)) at c.requires.between in
    let m = rw (← (sym c.in-Some.is ∙ c.self.view_is)) at may in
    took_by c.each_row_has_values.ensures c.in-Some.place (next c) c.args.head xs (omega arith) between m.count m.octets (m.fine c.in-Some.place refl)
    c.take.ensures refl

pub returns-clause-took : goal.returns-clause-took
returns-clause-took c xs may = rw (← (sym c.in-Some.is ∙ c.self.view_is)) (took c xs may)

pub invariant_of-self : goal.invariant_of-self
invariant_of-self c x same =
    let (xs, may) = c.requires.admitted in
    let between = rw (← (sym c.in-Some.is ∙ c.self.view_is)) at c.requires.between in
    subst IsRecordPlace (same_Some (next c) x same)
    (place_led c.in-Some.place (next c) true (data_of c.args.head xs) between (c.self.invariant c.in-Some.place c.in-Some.is) (λ _. took c xs may) (λ no. cc))
