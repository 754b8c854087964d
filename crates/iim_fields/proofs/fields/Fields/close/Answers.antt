use Rattle.std.proofs.Common.{List, ℕ, ◌++◌, sym, ap, refl, ◌∙◌}
use Rattle.iim_fields.proofs.{Words.handed_on, Words.Dataset, Words.Head, Words.data_of, Words.IsValueFault, Words.IsReadingDataset, Stand.Kept.Passed}
use Rattle.iim_fields.proofs.Stand.{ends_within, closed_subfile, closes_in, stands_closed, refused_value, somewhere_closed, kept_in_store, reading_kept, reading_between, entry_room, in_store_alone}
use Rattle.iim_fields.proofs.fields.Fields.close.Goals as goal

-- ---- A subfile.

pub returns-then-head-eq-OBJECT-clause-stands : goal.returns-then-head-eq-OBJECT-clause-stands
returns-then-head-eq-OBJECT-clause-stands c =
    let closes = closes_in (rw (← c.self.view_is) at c.requires) (sym c.begun.ensures ∙ c.in-Some.is) in
    closed_subfile c.self.inside.store c.self.inside.size.items c.self.view_is closes.0 c.if-head-eq-OBJECT.true c.end_subfile.ensures.between
    c.end_subfile.ensures.stands

pub invariant_of-self : goal.invariant_of-self
invariant_of-self c =
    let closes = closes_in (rw (← c.self.view_is) at c.requires) (sym c.begun.ensures ∙ c.in-Some.is) in
    reading_between c.self.invariant.room c.self.invariant.store_is c.end_subfile.ensures.between (somewhere_closed c.self.invariant.stands closes.0 closes.1
    (closed_subfile c.self.inside.store c.self.inside.size.items refl closes.0 c.if-head-eq-OBJECT.true c.end_subfile.ensures.between
    c.end_subfile.ensures.stands))

pub begun-requires-2 : goal.begun-requires-2
begun-requires-2 c = ends_within c.self.inside.store c.self.invariant.store_is

-- ---- A size.

pub returns-in_err-number-clause-fault : goal.returns-in_err-number-clause-fault
returns-in_err-number-clause-fault c =
    let begun = sym c.begun.ensures ∙ c.in-Some.is in
    let closes = closes_in (rw (← c.self.view_is) at c.requires) begun in
    let none = c.self.invariant.in_size c.in-Some.head begun (sym c.is_kept.ensures ∙ c.if-not-is_kept.true) in
    handed_on (λ fault. (ds : List Dataset) (h : Head) (taken : List ℕ) → IsReadingDataset c.args.self.now ds h taken → IsValueFault ds (data_of h taken) fault)
    c.from_residual.result c.in_err-number.field-0.0 c.from_residual.ensures.1
    (refused_value c.self.invariant c.self.view_is closes.0 c.if-head-eq-OBJECT.false (c.as_slice.ensures.value
    ∙ sym (ap (λ (ys : List ℕ). ys ++ c.self.inside.size.items) none)) c.in_err-number.ensures.fault)

pub returns-then-not-is_kept-clause-stands : goal.returns-then-not-is_kept-clause-stands
returns-then-not-is_kept-clause-stands c =
    let begun = sym c.begun.ensures ∙ c.in-Some.is in
    let passes = sym c.is_kept.ensures ∙ c.if-not-is_kept.true in
    let closes = closes_in (rw (← c.self.view_is) at c.requires) begun in
    let none = c.self.invariant.in_size c.in-Some.head begun passes in
    stands_closed c.self.inside.store c.clear.new.self.items c.self.invariant c.self.view_is closes.0 c.if-head-eq-OBJECT.false c.in_ok-number.ensures.between
    (c.as_slice.ensures.value ∙ sym (ap (λ (ys : List ℕ). ys ++ c.self.inside.size.items) none)) (λ i. none i ++ c.clear.ensures i) (Passed passes refl)
    c.in_ok-number.ensures.stands

pub invariant_of-self-then-not-is_kept : goal.invariant_of-self-then-not-is_kept
invariant_of-self-then-not-is_kept c =
    let begun = sym c.begun.ensures ∙ c.in-Some.is in
    let passes = sym c.is_kept.ensures ∙ c.if-not-is_kept.true in
    let closes = closes_in (rw (← c.self.view_is) at c.requires) begun in
    let none = c.self.invariant.in_size c.in-Some.head begun passes in
    reading_between c.self.invariant.room c.self.invariant.store_is c.in_ok-number.ensures.between (somewhere_closed c.self.invariant.stands closes.0 closes.1
    (stands_closed c.self.inside.store c.clear.new.self.items c.self.invariant refl closes.0 c.if-head-eq-OBJECT.false c.in_ok-number.ensures.between
    (c.as_slice.ensures.value ∙ sym (ap (λ (ys : List ℕ). ys ++ c.self.inside.size.items) none)) (λ i. none i ++ c.clear.ensures i) (Passed passes refl)
    c.in_ok-number.ensures.stands))

-- ---- A dataset that is stored.

pub returns-in_err-number-2-clause-fault : goal.returns-in_err-number-2-clause-fault
returns-in_err-number-2-clause-fault c =
    let begun = sym c.begun.ensures ∙ c.in-Some.is in
    let closes = closes_in (rw (← c.self.view_is) at c.requires) begun in
    let none = c.self.invariant.in_store c.in-Some.head begun (sym c.is_kept.ensures ∙ c.if-not-is_kept.false) in
    handed_on (λ fault. (ds : List Dataset) (h : Head) (taken : List ℕ) → IsReadingDataset c.args.self.now ds h taken → IsValueFault ds (data_of h taken) fault)
    c.from_residual-in_err-number-2.result c.in_err-number-2.field-0.0 c.from_residual-in_err-number-2.ensures.1
    (refused_value c.self.invariant c.self.view_is closes.0 c.if-head-eq-OBJECT.false (c.begun-2.ensures
    ∙ sym (in_store_alone c.self.inside.store c.self.inside.size.items none)) c.in_err-number-2.ensures.fault)

pub keep-requires : goal.keep-requires
keep-requires c =
    let closes = closes_in (rw (← c.self.view_is) at c.requires) (sym c.begun.ensures ∙ c.in-Some.is) in
    entry_room c.self.invariant closes.0 (sym c.is_kept.ensures ∙ c.if-not-is_kept.false)

pub returns-clause-stands : goal.returns-clause-stands
returns-clause-stands c =
    let begun = sym c.begun.ensures ∙ c.in-Some.is in
    let keeps = sym c.is_kept.ensures ∙ c.if-not-is_kept.false in
    let closes = closes_in (rw (← c.self.view_is) at c.requires) begun in
    let none = c.self.invariant.in_store c.in-Some.head begun keeps in
    let both = kept_in_store c.self.inside.store c.keep.new.self c.self.inside.size.items c.in-Some.head none c.self.invariant.store_is keeps
    c.keep.ensures.octets c.keep.ensures.entries in
    stands_closed c.keep.new.self c.self.inside.size.items c.self.invariant c.self.view_is closes.0 c.if-head-eq-OBJECT.false c.in_ok-number-2.ensures.between
    (c.begun-2.ensures ∙ sym (in_store_alone c.self.inside.store c.self.inside.size.items none)) both.1 both.0 c.in_ok-number-2.ensures.stands

pub invariant_of-self-2 : goal.invariant_of-self-2
invariant_of-self-2 c =
    let begun = sym c.begun.ensures ∙ c.in-Some.is in
    let keeps = sym c.is_kept.ensures ∙ c.if-not-is_kept.false in
    let closes = closes_in (rw (← c.self.view_is) at c.requires) begun in
    let none = c.self.invariant.in_store c.in-Some.head begun keeps in
    let both = kept_in_store c.self.inside.store c.keep.new.self c.self.inside.size.items c.in-Some.head none c.self.invariant.store_is keeps
    c.keep.ensures.octets c.keep.ensures.entries in
    reading_kept c.in-Some.head c.self.invariant c.in_ok-number-2.ensures.between c.keep.ensures.octets c.keep.ensures.entries c.keep.ensures.capacity
    (somewhere_closed c.self.invariant.stands closes.0 closes.1
    (stands_closed c.keep.new.self c.self.inside.size.items c.self.invariant refl closes.0 c.if-head-eq-OBJECT.false c.in_ok-number-2.ensures.between
    (c.begun-2.ensures ∙ sym (in_store_alone c.self.inside.store c.self.inside.size.items none)) both.1 both.0 c.in_ok-number-2.ensures.stands))
