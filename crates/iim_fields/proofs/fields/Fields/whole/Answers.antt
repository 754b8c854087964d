use Rattle.std.proofs.Common.{◌≡◌, List, [], ◌∷◌, ◌++◌, ap, subst, sym, ◌∙◌, arith, refl}
use Rattle.iim_fields.proofs.Words.{HasStored, fields_of, vec_capacity, and_from, and_left, and_right, Dataset, data_of, HasReadDatasets, FieldsPlace, reader_view}
use Rattle.iim_fields.proofs.Stand.{keeps_holds, store_is, takes_holds}
use Rattle.iim_fields.proofs.Wholes.{kept_whole, none_between, none_where, octets_within, reading_whole, stands_whole, whole_exact}
use Rattle.iim_fields.proofs.fields.Fields.whole.Goals as goal

pub has_room-requires-clause-within : goal.has_room-requires-clause-within
has_room-requires-clause-within c = omega (arith, c.len-kept.ensures, octets_within c.self.invariant (rw (← c.self.view_is) at c.requires.between))

pub returns-then-not-has_room-clause-exactly : goal.returns-then-not-has_room-clause-exactly
returns-then-not-has_room-clause-exactly c = λ ds s.
    let exact = whole_exact c.len-kept.result c.len.result c.args.head c.args.octets.now c.self.invariant c.self.view_is c.len-kept.ensures c.len.ensures
    c.requires.count (sym c.is_kept.ensures ∙ c.if-not-is_kept.false) ds s in
    let room = sym c.has_room.ensures ∙ c.if-not-has_room.true in sym (exact ∙ and_right _ _ room)

pub returns-then-not-whole-clause-exactly : goal.returns-then-not-whole-clause-exactly
returns-then-not-whole-clause-exactly c = λ ds s.
    let exact = whole_exact c.len-kept.result c.len.result c.args.head c.args.octets.now c.self.invariant c.self.view_is c.len-kept.ensures c.len.ensures
    c.requires.count (sym c.is_kept.ensures ∙ c.if-not-is_kept.false) ds s in
    let layer = sym c.if-not-whole.true ∙ c.whole.ensures.exactly ds (rw (← c.self.view_is) at s).checked in sym (exact ∙ and_left _ _ (sym layer))

pub returns-clause-exactly : goal.returns-clause-exactly
returns-clause-exactly c = λ ds s.
    let exact = whole_exact c.len-kept.result c.len.result c.args.head c.args.octets.now c.self.invariant c.self.view_is c.len-kept.ensures c.len.ensures
    c.requires.count (sym c.is_kept.ensures ∙ c.if-not-is_kept.false) ds s in
    let layer = sym c.if-not-whole.false ∙ c.whole.ensures.exactly ds (rw (← c.self.view_is) at s).checked in
    let room = sym c.has_room.ensures ∙ c.if-not-has_room.false in sym (exact ∙ and_from _ _ (sym layer) room)

-- The store has the dataset.
stored : (c : goal.After-keep) → HasStored c.keep.new.self (fields_of c.self.inside.store ++ data_of c.args.head c.args.octets.now ∷ []) []
stored c =
    let none = none_between c.self.invariant (rw (← c.self.view_is) at c.requires.between) in
    let before = subst (HasStored c.self.inside.store (fields_of c.self.inside.store)) none c.self.invariant.store_is in
    keeps_holds c.args.head.rec c.args.head.set (takes_holds c.args.octets.now before c.take.ensures.octets c.take.ensures.entries)
    c.keep.ensures.octets c.keep.ensures.entries

-- The reader is in the state after the dataset.
stands : (c : goal.After-keep) (f : FieldsPlace) → reader_view c.self.inside.check c.self.inside.limits c.self.inside.store c.self.inside.size.items ≡ f
    → (ds : List Dataset) → HasReadDatasets f ds
    → HasReadDatasets (reader_view c.whole.new.self c.self.inside.limits c.keep.new.self c.self.inside.size.items)
    (ds ++ data_of c.args.head c.args.octets.now ∷ [])
stands c f view =
    let keeps = sym c.is_kept.ensures ∙ c.if-not-is_kept.false in
    let fits = none_where _ (sym c.has_room.ensures ∙ c.if-not-has_room.false) in
    stands_whole c.keep.new.self c.args.head c.args.octets.now c.self.invariant view (c.whole.ensures.took c.if-not-whole.false) c.whole.ensures.between
    (rw (← c.len-kept.ensures, ← c.len.ensures) fits) c.requires.count
    (kept_whole c.self.inside.store c.keep.new.self c.self.inside.size.items (data_of c.args.head c.args.octets.now) keeps (stored c))

pub returns-clause-took : goal.returns-clause-took
returns-clause-took c = λ _. record { section = c.whole.ensures.section c.if-not-whole.false; stands = stands c c.args.self.now c.self.view_is }

pub invariant_of-self-2 : goal.invariant_of-self-2
invariant_of-self-2 c =
    let between = rw (← c.self.view_is) at c.requires.between in
    let d = data_of c.args.head c.args.octets.now in
    reading_whole d c.self.invariant between c.whole.ensures.between
    (omega (
      arith,
      c.self.invariant.room,
      c.take.ensures.capacity,
      ap (λ v. vec_capacity v) c.take.ensures.entries,
      ap (λ v. v.room) c.keep.ensures.octets,
      c.keep.ensures.capacity,
    )) (store_is c.keep.new.self _ [] (stored c)) (stands c _ refl)
