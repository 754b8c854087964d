use Rattle.iim_audit.proofs.Words.{◌≡◌, ℕ, List, get_or, ap, sym, ◌∙◌, arith, IsSortKey, ids_of, index_at, id_key_at, id_key_of}
use Rattle.iim_audit.specs.declared.row.AuditRow.{AuditRow}
use Rattle.iim_audit.proofs.{Firsts.id_key_of-eq, Lines.id_at, Lines.length-ids_of}
use Rattle.iim_audit.proofs.repeats.group_of.Goals as goal

-- the key in a sort key is that of its row's id
key_is : (rows : List AuditRow) (place : ℕ) (d : AuditRow) → IsSortKey (ids_of rows) place → id_key_at place ≡ id_key_of (get_or rows (index_at place) d).id
key_is rows place d is =
    let x = (get_or rows (index_at place) d).id in
    is.key x ∙ ap id_key_of (id_at rows (index_at place) d x (omega (arith, is.below, length-ids_of rows)))

pub returns-then-id_key_at-clause-same : goal.returns-then-id_key_at-clause-same
returns-then-id_key_at-clause-same c = λ d same.
    let rows = c.args.rows.now in
    let place = key_is rows c.args.place d c.requires.place in
    let group = key_is rows c.args.group d c.requires.group in
    let ids = id_key_of-eq (get_or rows (index_at c.args.place) d).id (get_or rows (index_at c.args.group) d).id same in
    absurd (c.if-id_key_at.true (c.id_key_at.ensures ∙ place ∙ ids ∙ sym (c.id_key_at-2.ensures ∙ group)))
