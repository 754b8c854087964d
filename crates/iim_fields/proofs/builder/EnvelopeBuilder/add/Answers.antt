use Rattle.std.proofs.Common.{◌≡◌, ◌∷◌, ◌++◌, [], sym, ap, ◌∙◌, Some, None, arith}
use Rattle.iim_fields.proofs.Words.{handed_on, Dataset, head_of, HasStored, fields_of, vec_capacity, BuilderView, added_field_fault}
use Rattle.iim_fields.proofs.{Build.added_as, Build.checking_of, Build.building_more, Stand.fields_held, Stand.keeps_holds, Stand.takes_holds}
use Rattle.iim_fields.proofs.Dies.{value_no_fault}
use Rattle.iim_fields.proofs.builder.EnvelopeBuilder.add.Goals as goal

pub returns-in-Some-clause-fault : goal.returns-in-Some-clause-fault
returns-in-Some-clause-fault c =
    let d : Dataset = record { rec = c.args.rec; set = c.args.set; octets = c.args.octets.now } in
    added_as c.len-kept.result c.len.result (Some c.in-Some.fault) d c.self.invariant c.self.view_is (sym c.is_kept.ensures ∙ c.if-not-is_kept.false)
    c.copied-check.ensures c.in_ok-head.ensures.stands c.len-kept.ensures c.len.ensures (sym c.in-Some.is ∙ c.room_fault.ensures)

pub returns-in_err-value-clause-fault : goal.returns-in_err-value-clause-fault
returns-in_err-value-clause-fault c =
    let d : Dataset = record { rec = c.args.rec; set = c.args.set; octets = c.args.octets.now } in
    let keeps = sym c.is_kept.ensures ∙ c.if-not-is_kept.false in
    let checking = checking_of d c.self.invariant keeps c.copied-check.ensures c.in_ok-head.ensures.stands in
    handed_on (λ fault. added_field_fault c.args.self.now.limits c.args.self.now.fields d
    ≡ Some fault) c.from_residual-in_err-value.result c.in_err-value.field-0.0
    c.from_residual-in_err-value.ensures.1
    (added_as c.len-kept.result c.len.result None d c.self.invariant c.self.view_is keeps c.copied-check.ensures c.in_ok-head.ensures.stands
    c.len-kept.ensures c.len.ensures (sym c.in_default.is ∙ c.room_fault.ensures)
    ∙ (c.in_err-value.ensures.fault (fields_of c.self.inside.store) (head_of d) checking).first)

pub returns-clause-admitted : goal.returns-clause-admitted
returns-clause-admitted c =
    let d : Dataset = record { rec = c.args.rec; set = c.args.set; octets = c.args.octets.now } in
    let keeps = sym c.is_kept.ensures ∙ c.if-not-is_kept.false in
    let checking = checking_of d c.self.invariant keeps c.copied-check.ensures c.in_ok-head.ensures.stands in
    added_as c.len-kept.result c.len.result None d c.self.invariant c.self.view_is keeps c.copied-check.ensures c.in_ok-head.ensures.stands
    c.len-kept.ensures c.len.ensures (sym c.in_default.is ∙ c.room_fault.ensures)
    ∙ value_no_fault (fields_of c.self.inside.store) d (c.in_ok-value.ensures.stands (fields_of c.self.inside.store) (head_of d) checking).0.alive

-- The store has the dataset.
stored : (c : goal.After-keep) → HasStored c.keep.new.self
    (fields_of c.self.inside.store ++ record { rec = c.args.rec; set = c.args.set; octets = c.args.octets.now } ∷ []) []
stored c = keeps_holds c.args.rec c.args.set (takes_holds c.args.octets.now c.self.invariant.holds c.take.ensures.octets c.take.ensures.entries)
    c.keep.ensures.octets c.keep.ensures.entries

pub returns-clause-added : goal.returns-clause-added
returns-clause-added c =
    let d : Dataset = record { rec = c.args.rec; set = c.args.set; octets = c.args.octets.now } in
    let more = fields_held c.keep.new.self (fields_of c.self.inside.store ++ d ∷ []) [] (stored c) in
    let octets_room = ap (λ v. v.room) c.keep.ensures.octets ∙ c.take.ensures.capacity in
    let entries_room = c.keep.ensures.capacity ∙ ap (λ v. vec_capacity v) c.take.ensures.entries in
    (λ i. record { limits = c.self.inside.limits; fields = more i; room = record { octets = octets_room i; entries = entries_room i } })
    ∙ ap (λ (b : BuilderView). record b { fields = b.fields ++ d ∷ [] }) c.self.view_is

pub invariant_of-self : goal.invariant_of-self
invariant_of-self c =
    let d : Dataset = record { rec = c.args.rec; set = c.args.set; octets = c.args.octets.now } in
    let keeps = sym c.is_kept.ensures ∙ c.if-not-is_kept.false in
    let checking = checking_of d c.self.invariant keeps c.copied-check.ensures c.in_ok-head.ensures.stands in
    building_more c.len-kept.result c.len.result d c.self.invariant keeps c.len-kept.ensures c.len.ensures (sym c.in_default.is ∙ c.room_fault.ensures)
    (c.in_ok-value.ensures.stands (fields_of c.self.inside.store) (head_of d) checking).0
    (omega (
      arith,
      c.self.invariant.room,
      c.take.ensures.capacity,
      ap (λ v. vec_capacity v) c.take.ensures.entries,
      ap (λ v. v.room) c.keep.ensures.octets,
      c.keep.ensures.capacity,
    )) (stored c)
