use Rattle.iim_fields.proofs.Wholes.{admits_exactly}
use Rattle.iim_fields.proofs.fields.Fields.admits_number.Goals as goal

pub returns : goal.returns
returns c = record { exactly = admits_exactly c.args.head c.self.invariant c.self.view_is c.requires.number c.admits_number.ensures }
