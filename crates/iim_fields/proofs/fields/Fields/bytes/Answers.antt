use Rattle.std.proofs.Common.{◌≡◌, ◌++◌, sym, subst, refl, ap, ◌∙◌, arith, OnOk}
use Rattle.iim_fields.proofs.Words.{vec_capacity, current_octets, fields_of}
use Rattle.iim_fields.proofs.Stand.{takes_holds, inside_more, reading_more, size_room, stands_more, store_is, taken_in_size, taken_in_store}
use Rattle.iim_fields.proofs.fields.Fields.bytes.Goals as goal

-- The octets of the dataset in progress grow by these, in the store.
taken : (c : goal.After-take) → (fields_of c.take.new.self ≡ fields_of c.self.inside.store)
    × (current_octets c.take.new.self ++ c.self.inside.size.items ≡ (current_octets c.self.inside.store ++ c.self.inside.size.items) ++ c.args.octets.now)
taken c =
    let none = c.self.invariant.in_store c.in-Some.head (sym c.begun.ensures ∙ c.in-Some.is) (sym c.is_kept.ensures ∙ c.if-is_kept.true) in
    taken_in_store c.self.inside.store c.take.new.self c.self.inside.size.items c.args.octets.now none c.take.ensures.octets c.take.ensures.entries
    c.self.invariant.store_is

pub invariant_of-self : goal.invariant_of-self
invariant_of-self c =
    let keeps = sym c.is_kept.ensures ∙ c.if-is_kept.true in
    let begun = sym c.begun.ensures ∙ c.in-Some.is in
    let holds = takes_holds c.args.octets.now c.self.invariant.store_is c.take.ensures.octets c.take.ensures.entries in
    reading_more c.args.octets.now c.in-Some.head c.self.invariant (taken c).0 (taken c).1 (rw (← c.self.view_is) at c.requires)
    (λ i. omega (arith, c.type_inv.octets i))
    (omega (arith, c.self.invariant.room, c.take.ensures.capacity, ap (λ v. vec_capacity v) c.take.ensures.entries))
    (store_is c.take.new.self _ _ holds) begun (λ _. c.self.invariant.in_store c.in-Some.head begun keeps) (λ not_kept. let yes = keeps in cc)

pub returns-then-is_kept-clause-inside : goal.returns-then-is_kept-clause-inside
returns-then-is_kept-clause-inside c =
    inside_more c.take.new.self c.self.inside.size.items c.args.octets.now c.self.invariant c.self.view_is (taken c).1 c.requires

pub returns-then-is_kept-clause-stands : goal.returns-then-is_kept-clause-stands
returns-then-is_kept-clause-stands c =
    stands_more c.take.new.self c.self.inside.size.items c.args.octets.now c.self.invariant c.self.view_is (taken c).0 (taken c).1 c.requires
    (λ i. omega (arith, c.type_inv.octets i))

pub unwrap-requires : goal.unwrap-requires
unwrap-requires c =
    c.try_extend_from_slice.ensures.variant.1
    (size_room c.each_row_has_values.ensures _ c.in-Some.head c.self.invariant (rw (← c.self.view_is) at c.requires) (sym c.begun.ensures ∙ c.in-Some.is)
    (sym c.is_kept.ensures ∙ c.if-is_kept.false))

-- The octets of the dataset in progress grow by these, in the size.
extended : (c : goal.After-unwrap) → current_octets c.self.inside.store ++ c.try_extend_from_slice.new.self.items
    ≡ (current_octets c.self.inside.store ++ c.self.inside.size.items) ++ c.args.octets.now
extended c = taken_in_size c.self.inside.store c.self.inside.size.items _ c.args.octets.now
    (subst (λ r. OnOk r (c.try_extend_from_slice.new.self.items ≡ c.self.inside.size.items ++ c.args.octets.now)) c.unwrap.ensures
    c.try_extend_from_slice.ensures.ok)

pub invariant_of-self-2 : goal.invariant_of-self-2
invariant_of-self-2 c =
    let not_kept = sym c.is_kept.ensures ∙ c.if-is_kept.false in
    let begun = sym c.begun.ensures ∙ c.in-Some.is in
    reading_more c.args.octets.now c.in-Some.head c.self.invariant refl (extended c) (rw (← c.self.view_is) at c.requires)
    (λ i. omega (arith, c.type_inv.octets i))
    c.self.invariant.room c.self.invariant.store_is begun (λ keeps. let none = not_kept in cc) (λ _. c.self.invariant.in_size c.in-Some.head begun not_kept)

pub returns-clause-stands : goal.returns-clause-stands
returns-clause-stands c =
    stands_more c.self.inside.store c.try_extend_from_slice.new.self.items c.args.octets.now c.self.invariant c.self.view_is refl (extended c) c.requires
    (λ i. omega (arith, c.type_inv.octets i))
