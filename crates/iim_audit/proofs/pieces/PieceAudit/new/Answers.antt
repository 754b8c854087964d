use Rattle.iim_audit.proofs.Taking.{none_by}
use Rattle.iim_audit.proofs.pieces.PieceAudit.new.Goals as goal

pub returns-clause-stands : goal.returns-clause-stands
returns-clause-stands c = record {
  unpacker = c.in_ok-unpacker.ensures.stands;
  words = none_by c.new-count.result c.new-count.ensures.words c.new-count.ensures.inside;
}
