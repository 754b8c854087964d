use Rattle.iim_unpack.proofs.Words.{AdmitsDataset, NumberRead, DatasetEncodesNumber, arith, refl, subst, ℕ}
use Rattle.iim_unpack.proofs.Closing.{admits_if, number_went, encodes_number, takes_next}
use Rattle.iim_object.specs.States.Reading.{TokenAdvancesObject}
use Rattle.iim_unpack.proofs.parts.Parts.whole_number.Goals as goal

pub admits_number-requires-clause-spelled : goal.admits_number-requires-clause-spelled
admits_number-requires-clause-spelled c = (
  c.args.octets.now,
  encodes_number c.requires.count c.number_of.ensures.exactly.0 c.in-Some.is c.in-Some.ensures.value
      (λ i. omega (arith, c.type_inv.octets i)),
)

pub put_number-requires-clause-admitted : goal.put_number-requires-clause-admitted
put_number-requires-clause-admitted c =
    let spells : DatasetEncodesNumber c.args.octets.now (record { rec = 7; set = c.args.set; count = c.args.count }) c.in-Some.number =
    encodes_number c.requires.count c.number_of.ensures.exactly.0 c.in-Some.is c.in-Some.ensures.value (λ i. omega (arith, c.type_inv.octets i)) in
    (c.args.octets.now, admits_if spells c.admits_number.ensures.exactly c.if-not-admits_number.false)

pub put_number-requires-2-clause-accepts : goal.put_number-requires-2-clause-accepts
put_number-requires-2-clause-accepts c = c.accepts_number.ensures.exactly.0 c.if-not-accepts_number.false

-- the records accept it
admitted : (c : goal.After-put_number-2) → AdmitsDataset c.args.self.now.fields (record { rec = 7; set = c.args.set; count = c.args.count }) c.args.octets.now
admitted c =
    let spells : DatasetEncodesNumber c.args.octets.now (record { rec = 7; set = c.args.set; count = c.args.count }) c.in-Some.number =
    encodes_number c.requires.count c.number_of.ensures.exactly.0 c.in-Some.is c.in-Some.ensures.value (λ i. omega (arith, c.type_inv.octets i)) in
    admits_if spells c.admits_number.ensures.exactly c.if-not-admits_number.false

pub returns-clause-takes : goal.returns-clause-takes
returns-clause-takes c =
    takes_next 7 refl c.put_number.ensures.between (c.put_number.ensures.took c.args.octets.now (admitted c)).section c.put_number-2.ensures.takes_calls
    c.requires.takes.message

pub returns-clause-whole : goal.returns-clause-whole
returns-clause-whole c is =
    let took = c.put_number.ensures.took c.args.octets.now (admitted c) in
    number_went c.layer_lemmas.ensures
    (record { between = c.requires.takes.fields; count = c.requires.count; limits = c.put_number.ensures.bounds.limits; stands = took.stands; message = refl })
    refl (subst (λ (n : ℕ). TokenAdvancesObject c.args.self.now.object (NumberRead c.args.set n) c.put_number-2.new.self) c.in-Some.ensures.value
    c.put_number-2.ensures.leads_on)
