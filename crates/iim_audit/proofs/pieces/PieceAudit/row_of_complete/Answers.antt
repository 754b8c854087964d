use Rattle.iim_audit.proofs.{Words.rules, Taking.row_of_done, Taking.TextLaws}
use Rattle.iim_audit.proofs.pieces.PieceAudit.row_of_complete.Goals as goal

pub returns-clause-row : goal.returns-clause-row
returns-clause-row c =
    let laws : TextLaws = search rules in
    row_of_done laws c.args.now.nanosecond c.args.self.now.unpacker c.args.self.now.count c.in-Some.unpacked _ _ c.in-Some.ensures.value c.words-words.ensures
    c.row_of.ensures.row c.release-release.ensures c.expires-expires.ensures
