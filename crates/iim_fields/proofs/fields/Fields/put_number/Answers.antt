use Rattle.std.proofs.Common.{ℕ, List, refl}
use Rattle.iim_fields.proofs.{Words.data_of, Words.MayAcceptDataset, Words.AdmitsDataset, Wholes.number_stands, Wholes.reading_whole, Wholes.may_take}
use Rattle.iim_fields.proofs.fields.Fields.put_number.Goals as goal

-- The check may accept the dataset.
may : (c : goal.After-put) (xs : List ℕ) → AdmitsDataset c.args.self.now c.args.head xs → MayAcceptDataset c.self.inside.check c.args.head xs
may c xs admits = may_take c.self.invariant c.self.view_is c.requires.between admits

pub put-requires-clause-admitted : goal.put-requires-clause-admitted
put-requires-clause-admitted c = let (xs, admits) = c.requires.admitted in (xs, may_take c.self.invariant c.self.view_is c.requires.between admits)

pub returns-clause-took : goal.returns-clause-took
returns-clause-took c xs admits = record {
  section = c.put.ensures.section;
  stands = number_stands c.args.head xs c.self.invariant c.self.view_is (c.put.ensures.took xs (may c xs admits)) c.put.ensures.between c.requires.number
      admits.count;
}

pub invariant_of-self : goal.invariant_of-self
invariant_of-self c =
    let (xs, admits) = c.requires.admitted in
    reading_whole (data_of c.args.head xs) c.self.invariant (rw (← c.self.view_is) at c.requires.between) c.put.ensures.between c.self.invariant.room
    c.self.invariant.store_is
    (number_stands c.args.head xs c.self.invariant refl (c.put.ensures.took xs (may c xs admits)) c.put.ensures.between c.requires.number admits.count)
