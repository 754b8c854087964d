use Rattle.iim_audit.proofs.Words.{◌≡◌, ◌+◌, ◌++◌, ◌∷◌, [], length, None, ap, sym, subst, arith, rules, length_push, map_push, row_with_first_of, HaveShortIds, ids_of, sort_key_of, Value}
use Rattle.iim_audit.specs.Format.{AuditRow}
use Rattle.iim_audit.proofs.{Firsts.sort_keys_of-push, Lines.length-ids_of, Lines.HaveShortIds-push}
use Rattle.iim_audit.proofs.ledger.Ledger.add_row.Goals as goal

pub returns-clause-keeps : goal.returns-clause-keeps
returns-clause-keeps c = λ values v keeps taken.
    let pushed = map_push (λ (v : Value). row_with_first_of c.args.now.nanosecond v None) values v in
    record { rows = rw (c.in_ok-push-2.ensures.items, keeps.rows, c.row_of-row.ensures.row v taken) (sym pushed) }

pub returns-clause-few : goal.returns-clause-few
returns-clause-few c =
    omega (
      arith,
      length-ids_of c.push-2.new.self.items,
      ap length c.in_ok-push-2.ensures.items,
      length_push c.args.self.now.rows.items c.row_of-row.result,
      c.requires.few,
    )

pub returns-clause-places : goal.returns-clause-places
returns-clause-places c =
    let rows = c.args.self.now.rows.items in
    let index : 0 + length rows ≡ length rows = omega arith in
    let is : c.push.new.self.items ≡ c.args.self.now.places.items ++ sort_key_of c.row_of-row.result.id (length rows) ∷ [] = search rules in
    let row = c.row_of-row.result in
    rw (
      c.in_ok-push-2.ensures.items,
      map_push (λ (r : AuditRow). r.id) rows row,
      sort_keys_of-push 0 (ids_of rows) row.id,
      length-ids_of rows,
      index,
      ← c.requires.places,
    ) is

pub returns-clause-short : goal.returns-clause-short
returns-clause-short c =
    subst HaveShortIds (sym c.in_ok-push-2.ensures.items)
    (HaveShortIds-push c.args.self.now.rows.items c.row_of-row.result c.requires.short c.row_of-row.ensures.short)
