-- Rows that follow one another.
use Rattle.iim_c.proofs.Words.{◌+◌, ◌<◌, ◌≤◌, length, drop, arith, length-drop, drop-drop, sym, ap, ◌∙◌, limits_in, ◌≡◌, ℕ, ℤ, List, [], ◌∷◌, ◌++◌, take, set, Some, refl, subst, append-nil, append_assoc, length-take-le, Limits, sum_capped, AuditHasConsumed, PieceAudit, CurrentEnvelope, with_more, HasFound, Found, IimAuditRow}
use Rattle.std.proofs.lemmas.List.{take_rest, length-set, drop-set-lt, take_more_set}
use Rattle.std.proofs.Common.{take-add}
use Rattle.std.specs.Option.{option_map}
use Rattle.iim_audit.specs.Format.{FindsRow, IsRowOf}
use Rattle.iim_audit.specs.declared.pieces.PieceRow.{PieceRow}
use Rattle.iim_c.specs.Format.Auditing.{AreRowsOfEnvelopes, IsRow, after, IsRowFor}
use Rattle.iim_c.specs.declared.finding.Ending.TheVariants.{Full}
use Rattle.iim_c.proofs.finding.find_rows.Goals as goal

-- The row has what an audit of chunks returns for an envelope.
abbrev IsRowOfFound : ℕ → PieceRow → IimAuditRow → Type 0
IsRowOfFound at found row =
    IsRowFor at found.octets found.row (option_map (λ t. t.nanosecond) found.release) (option_map (λ t. t.nanosecond) found.expires) row

-- one row more
one_more_row : (limits : Limits) (now : ℤ) (hand : CurrentEnvelope) (octets : List ℕ) (rows : List IimAuditRow) (last : CurrentEnvelope)
    → AreRowsOfEnvelopes limits now hand octets rows last
    → (ended : List ℕ) (row : IimAuditRow)
    → IsRow limits now (with_more last ended) row → AreRowsOfEnvelopes limits now hand (octets ++ ended) (rows ++ row ∷ []) (after (with_more last ended))
one_more_row limits now hand octets [] last are ended row is =
    (ended, [], rw are.0 (sym (append-nil ended)), rw are.1 at is, (refl, rw are.1))
one_more_row limits now hand octets (first ∷ rows) last (e, others, are, told, more) ended row is =
    (e, others ++ ended, rw are (append_assoc e others ended), told, one_more_row limits now (after (with_more hand e)) others rows last more ended row is)

-- what an audit of chunks returns is a row of its envelope
found_is_row : (limits : Limits) (now : ℤ) (hand : CurrentEnvelope) (found : PieceRow) (row : IimAuditRow) → IsRowOf limits now hand.octets found → found.octets
    ≡ hand.count
    → IsRowOfFound hand.at found row
    → IsRow limits now hand row
found_is_row limits now hand found row is counts tells =
    record { value = is.value; envelope = is.envelope; tells = rw (← is.row, ← is.release, ← is.expires, ← counts) tells }

-- and the rows after it
one_more_is_found : (limits : Limits) (now : ℤ) (hand : CurrentEnvelope) (piece : List ℕ) (array : List IimAuditRow) (old new : PieceAudit)
    → (found : Found) (next : PieceRow) (row : IimAuditRow) (at : ℕ)
    → HasFound limits now hand piece array old found Full → found.rows < length array
    → ((p : List ℕ) (a : ℕ) → AuditHasConsumed old p a → FindsRow limits now p a (drop found.used piece) new (Some next)) → IsRowOfFound found.at next row
    → at ≡ sum_capped found.at next.octets
    → HasFound limits now hand piece (set array found.rows row) new (record { rows = found.rows + 1; used = found.used + next.used; at = at }) Full
one_more_is_found limits now hand piece array old new found next row at had room finds tells at_is =
    let last = had.last in
    let f : FindsRow limits now last.octets last.count (drop found.used piece) new (Some next) = finds last.octets last.count had.ends in
    let ended : List ℕ = take next.used (drop found.used piece) in
    let counts : next.octets ≡ sum_capped last.count (length ended) = f.1 ∙ ap (sum_capped last.count) (sym (length-take-le next.used
    (drop found.used piece) f.0)) in
    let told : IsRow limits now (with_more last ended) row =
    found_is_row limits now (with_more last ended) next row f.2 counts (subst (λ (n : ℕ). IsRowOfFound n next row) (sym had.at_is) tells) in
    let more = one_more_row limits now hand (take found.used piece) (take found.rows array) last had.rows_are ended row told in
    record {
      last = after (with_more last ended);
      rows_are = rw (take-add found.used next.used piece, take_more_set array found.rows row room) more;
      at_is = ap (sum_capped last.at) (sym counts) ∙ (ap (λ (n : ℕ). sum_capped n next.octets) had.at_is ∙ sym at_is);
      ends = f.3;
    }

pub envelopes-preserved : goal.envelopes-preserved
envelopes-preserved c =
    let inv = c.envelopes.invariant in
    let piece = c.args.piece.now in
    let found = c.envelopes.found in
    let array = c.envelopes.rows in
    let next = c.in-Ok-Some.next in
    let row = c.row_for.result in
    let rest = take_rest piece found.used in
    let room : found.rows < length array = omega arith in
    let fits : next.used ≤ length (drop found.used piece) = (rw (c.in-Ok-Some.field-0-is, rest) at c.in-Ok-Some.ensures.fits).0 in
    record {
      found = λ p a stands.
          one_more_is_found (limits_in c.args.audit.now.unpacker) c.args.now.nanosecond (record { at = c.args.at; octets = p; count = a }) piece array
          c.envelopes.audit c.next_row.new.self found next row c.saturating_add.result (inv.found p a stands) room
          (λ q b on. rw (rest, inv.limits, c.in-Ok-Some.field-0-is) at (c.in-Ok-Some.ensures.found q b on)) c.row_for.ensures c.saturating_add.ensures;
      used = omega (arith, fits, length-drop found.used piece, inv.used);
      room = omega (arith, room, length-set array found.rows row);
      same = length-set array found.rows row ∙ inv.same;
      others =
          drop-set-lt (found.rows + 1) array found.rows row (omega arith)
          ∙ (sym (drop-drop 1 found.rows array) ∙ (ap (drop 1) inv.others ∙ drop-drop 1 found.rows c.args.rows.now));
      alive = c.in-Ok-Some.ensures.lives;
      limits = c.in-Ok-Some.ensures.limits inv.alive ∙ inv.limits;
    }

pub returns-in-Ok-None-clause-found : goal.returns-in-Ok-None-clause-found
returns-in-Ok-None-clause-found c = λ p a stands.
    let had = c.envelopes.invariant.found p a stands in
    let rest = take_rest c.args.piece.now c.envelopes.found.used in
    let stood = rw (rest, c.in-Ok-None.field-0-is) at (c.in-Ok-None.ensures.found had.last.octets had.last.count had.ends) in
    record { last = had.last; rows_are = had.rows_are; at_is = had.at_is; ends = stood }

pub returns-in-Err-clause-found : goal.returns-in-Err-clause-found
returns-in-Err-clause-found c = λ p a stands.
    let inv = c.envelopes.invariant in
    let had = inv.found p a stands in
    let refused = rw (take_rest c.args.piece.now c.envelopes.found.used, inv.limits) at (c.in-Err.ensures.refused had.last.octets had.last.count had.ends) in
    record { last = had.last; rows_are = had.rows_are; at_is = had.at_is; ends = refused }
