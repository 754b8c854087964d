use Rattle.iim_unpack.proofs.Words.{AdmitsDataset, DatasetEncodesNumber, arith, refl, subst, ℕ}
use Rattle.iim_unpack.proofs.Closing.{admits_if, end_ends, end_went, encodes_number}
use Rattle.iim_object.specs.States.Reading.{ObjectMayEndAs}
use Rattle.iim_unpack.proofs.parts.Parts.whole_end.Goals as goal

pub admits_number-requires-clause-spelled : goal.admits_number-requires-clause-spelled
admits_number-requires-clause-spelled c = (
  c.args.octets.now,
  encodes_number c.requires.count c.number_of.ensures.exactly.0 c.in-Some.is c.in-Some.ensures.value
      (λ i. omega (arith, c.type_inv.octets i)),
)

pub put_number-requires-clause-admitted : goal.put_number-requires-clause-admitted
put_number-requires-clause-admitted c =
    let spells : DatasetEncodesNumber c.args.octets.now (record { rec = 9; set = c.args.set; count = c.args.count }) c.in-Some.number =
    encodes_number c.requires.count c.number_of.ensures.exactly.0 c.in-Some.is c.in-Some.ensures.value (λ i. omega (arith, c.type_inv.octets i)) in
    (c.args.octets.now, admits_if spells c.admits_number.ensures.exactly c.if-not-admits_number.false)

-- the records accept it
admitted : (c : goal.After-put_number) → AdmitsDataset c.args.self.now.fields (record { rec = 9; set = c.args.set; count = c.args.count }) c.args.octets.now
admitted c =
    let spells : DatasetEncodesNumber c.args.octets.now (record { rec = 9; set = c.args.set; count = c.args.count }) c.in-Some.number =
    encodes_number c.requires.count c.number_of.ensures.exactly.0 c.in-Some.is c.in-Some.ensures.value (λ i. omega (arith, c.type_inv.octets i)) in
    admits_if spells c.admits_number.ensures.exactly c.if-not-admits_number.false

pub returns-clause-ended : goal.returns-clause-ended
returns-clause-ended c is =
    end_ends c.requires.takes c.put_number.ensures.between (c.put_number.ensures.took c.args.octets.now (admitted c)).section c.requires.takes.object refl

pub returns-clause-whole : goal.returns-clause-whole
returns-clause-whole c is =
    let took = c.put_number.ensures.took c.args.octets.now (admitted c) in
    end_went c.layer_lemmas.ensures
    (record { between = c.requires.takes.fields; count = c.requires.count; limits = c.put_number.ensures.bounds.limits; stands = took.stands; message = refl })
    refl (subst (λ (n : ℕ). ObjectMayEndAs c.args.self.now.object n c.args.self.now.object) c.in-Some.ensures.value
    (c.may_end.ensures.ends c.if-not-may_end.false))
    (c.may_end.ensures.whole c.if-not-may_end.false)
