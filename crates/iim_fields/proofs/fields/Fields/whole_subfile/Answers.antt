use Rattle.iim_fields.proofs.Subfiles.{fields_exactly, fields_pass, fields_reading}
use Rattle.iim_fields.proofs.fields.Fields.whole_subfile.Goals as goal

pub returns-clause-exactly : goal.returns-clause-exactly
returns-clause-exactly c = fields_exactly c.args.head c.self.invariant c.self.view_is c.requires.subfile c.whole_subfile.ensures.exactly

pub returns-clause-passes : goal.returns-clause-passes
returns-clause-passes c is =
    fields_pass c.self.invariant c.self.view_is c.requires.between c.whole_subfile.ensures.exactly is (c.whole_subfile.ensures.took is)
    c.whole_subfile.ensures.between c.requires.subfile

pub invariant_of-self : goal.invariant_of-self
invariant_of-self c =
    fields_reading c.whole_subfile.result c.self.invariant (rw (← c.self.view_is) at c.requires.between) c.whole_subfile.ensures.exactly
    c.whole_subfile.ensures.took c.whole_subfile.ensures.left c.whole_subfile.ensures.between c.requires.subfile
