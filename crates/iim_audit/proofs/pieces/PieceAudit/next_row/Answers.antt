use Rattle.iim_audit.proofs.{Words.limits_in, Words.PieceAudit, Taking.no_row_in_chunk, Taking.row_in_chunk, Taking.refused_by}
use Rattle.iim_audit.proofs.pieces.PieceAudit.next_row.Goals as goal

pub returns-in-Ok-More-clause-found : goal.returns-in-Ok-More-clause-found
returns-in-Ok-More-clause-found c =
    let old : PieceAudit = c.args.self.now in
    let new : PieceAudit = record { unpacker = c.feed_count.new.unpacker; count = c.feed_count.new.count } in
    no_row_in_chunk c.delivery_of_chunks_joins.ensures (limits_in old.unpacker) c.args.now.nanosecond old new c.args.piece.now
    (rw c.in-Ok-More.field-0-is at c.in-Ok-More.ensures.fed)

pub returns-in-Ok-Done-clause-found : goal.returns-in-Ok-Done-clause-found
returns-in-Ok-Done-clause-found c = λ p a stands.
    let old : PieceAudit = c.args.self.now in
    let mid : PieceAudit = record { unpacker = c.feed_count.new.unpacker; count = c.feed_count.new.count } in
    row_in_chunk c.delivery_of_chunks_joins.ensures (limits_in old.unpacker) c.args.now.nanosecond old mid c.again.new.self c.args.piece.now c.in-Ok-Done.used
    c.row_of_complete-found.result
    (rw c.in-Ok-Done.field-0-is at c.in-Ok-Done.ensures.fed)
    (c.in-Ok-Done.ensures.limits stands.unpacker.taking) c.row_of_complete-found.ensures.used c.row_of_complete-found.ensures.octets
    c.row_of_complete-found.ensures.row
    c.again.ensures.stands p a stands

pub returns-in-Err-clause-refused : goal.returns-in-Err-clause-refused
returns-in-Err-clause-refused c = λ p a stands. refused_by c.args.self.now.unpacker c.args.piece.now c.in-Err.refusal c.in-Err.ensures.refused p a
    stands.unpacker
