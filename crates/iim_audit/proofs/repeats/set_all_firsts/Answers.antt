use Rattle.iim_audit.proofs.Words.{◌≡◌, ℕ, List, length, map, get_or, set, refl, sym, ◌∙◌, arith, rules, get_or_default, get_or-map, length-map, length-set, index_at}
use Rattle.std.proofs.Math.Seq.{map-set_same}
use Rattle.iim_audit.specs.declared.row.AuditRow.{AuditRow}
use Rattle.iim_audit.proofs.Firsts.{all_firsts_are_set, firsts_set_by_one_step, no_firsts_set_yet}
use Rattle.iim_audit.proofs.repeats.set_all_firsts.Goals as goal

pub loop-place-init : goal.loop-place-init
loop-place-init c = record { len = refl; group = search rules; so_far = λ is fresh. no_firsts_set_yet _ _ _ is c.in-Some.ensures.value; ids = refl }

pub loop-place-preserved : goal.loop-place-preserved
loop-place-preserved c =
    let old : List AuditRow = c.args.rows.now in
    let places : List ℕ = c.args.places.now in
    let now : List AuditRow = c.loop-place.rows in
    let k : ℕ = c.loop-place.place-index in
    let at : ℕ = c.index_at-at.result in
    let row : AuditRow = c.set_first.new.row in
    let was : AuditRow = get_or now at c.index-rows-at.result in
    let next : ℕ = index_at c.group_of-group.result in
    let inv = c.loop-place.invariant in
    let is_at : index_at (get_or places k 0) ≡ at = sym c.index_at-at.ensures in
    let is_next : c.index_at.result ≡ next = c.index_at.ensures in
    record {
      len = length-set now at row ∙ inv.len;
      group = search rules;
      so_far = λ is fresh. firsts_set_by_one_step old (map index_at places) k (index_at c.loop-place.group) next at now (set now at row) was row
          (get_or-map index_at places k 0 0 c.loop-place-test.true ∙ is_at) is fresh (omega (arith, length-map places index_at, c.loop-place-test.true))
          inv.len (inv.so_far is fresh)
          (rw is_at at c.group_of-group.ensures.same) (rw is_at at c.group_of-group.ensures.other) (search (rules, get_or_default))
          (rw is_next at c.set_first.ensures.told) (rw is_next at c.set_first.ensures.untold) refl;
      ids = map-set_same (λ (r : AuditRow). r.id) now at row c.index-rows-at.result c.set_first.ensures.id ∙ inv.ids;
    }

pub returns-clause-filled : goal.returns-clause-filled
returns-clause-filled c = λ is fresh.
    let old : List AuditRow = c.args.rows.now in
    let order : List ℕ = map index_at c.args.places.now in
    let all : c.loop-place.place-index ≡ length order = omega (arith, length-map c.args.places.now index_at) in
    all_firsts_are_set old order (index_at c.loop-place.group) c.loop-place.rows is c.loop-place.invariant.len (rw all at
    (c.loop-place.invariant.so_far is fresh))
