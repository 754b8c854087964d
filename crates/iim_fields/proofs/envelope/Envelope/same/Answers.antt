use Rattle.std.proofs.Common.{◌≡◌, Bool, true, ◌&&◌, nat_eq, refl, sym, ap, ◌∙◌, subst}
use Rattle.iim_fields.specs.contracts.store.EntryPartialEq.TheImpl.{eq-value}
use Rattle.iim_fields.proofs.Words.{and_parts, and_from, eqb-true, eq-eqb, fields_from, entries_of, Entry}
use lib.Pointwise.{pointwise_decides, bytes_decides}
use Rattle.iim_fields.proofs.envelope.Envelope.same.Goals as goal

-- Entries are equal exactly if their numbers and ends are.
entry_decides : (E : Entry → Entry → Bool) → ((x y : Entry) → E x y ≡ (nat_eq x.rec y.rec && (nat_eq x.set y.set && nat_eq x.end y.end)))
    → (x y : Entry) → (E x y ≡ true → x ≡ y) × (x ≡ y → E x y ≡ true)
entry_decides E is x y = (
  (λ h.
      let first = and_parts (nat_eq x.rec y.rec) (nat_eq x.set y.set && nat_eq x.end y.end) (sym (is x y) ∙ h) in
      let second = and_parts (nat_eq x.set y.set) (nat_eq x.end y.end) first.1 in
      λ i. record { rec = eqb-true x.rec y.rec first.0 i; set = eqb-true x.set y.set second.0 i; end = eqb-true x.end y.end second.1 i }),
  (λ e. is x y ∙ subst (λ (z : Entry). (nat_eq x.rec z.rec && (nat_eq x.set z.set && nat_eq x.end z.end)) ≡ true) e
      (and_from (nat_eq x.rec x.rec) (nat_eq x.set x.set && nat_eq x.end x.end) (eq-eqb x.rec x.rec refl)
      (and_from (nat_eq x.set x.set) (nat_eq x.end x.end) (eq-eqb x.set x.set refl) (eq-eqb x.end x.end refl)))),
)

pub returns-then-eq : goal.returns-then-eq
returns-then-eq c =
    let slices_same : c.as_slice.result.now ≡ c.as_slice-2.result.now = (bytes_decides c.as_slice.result.now c.as_slice-2.result.now).0 (sym c.eq.ensures
    ∙ c.if-eq.true) in
    let octets_same : c.self.inside.store.octets.items ≡ c.other.inside.store.octets.items = sym c.as_slice.ensures ∙ (slices_same ∙ c.as_slice-2.ensures) in
    let decides = pointwise_decides {E = eq-value.it} (entry_decides eq-value.it (λ x y. refl)) c.self.inside.store.entries.items
    c.other.inside.store.entries.items in (
      (λ h. sym c.self.view_is ∙ ((λ i. fields_from 0 (decides.0 (sym c.eq-then-eq.ensures ∙ h) i) (octets_same i)) ∙ c.other.view_is)),
      (λ e. c.eq-then-eq.ensures
          ∙ decides.1 (c.self.invariant.holds.entries
          ∙ (ap (entries_of 0) (c.self.view_is ∙ (e ∙ sym c.other.view_is)) ∙ sym c.other.invariant.holds.entries))),
    )
