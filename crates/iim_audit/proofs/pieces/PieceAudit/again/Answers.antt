use Rattle.iim_audit.proofs.Taking.{none_by}
use Rattle.iim_audit.proofs.pieces.PieceAudit.again.Goals as goal

pub returns-clause-stands : goal.returns-clause-stands
returns-clause-stands c = record { unpacker = c.again.ensures.stands; words = none_by c.new-self.result c.new-self.ensures.words c.new-self.ensures.inside }
