use Rattle.iim_audit.proofs.Words.{◌≡◌, length, map, HaveNoFirst, IsIdOrder, IsSortKey, ids_of, index_at}
use Rattle.iim_audit.proofs.Firsts.{FirstsAreSetSoFar}
use Rattle.iim_audit.proofs.repeats.set_all_firsts.Given as goal

abbrev pub invariant-loop-place : goal.invariant-loop-place
invariant-loop-place l = record {
  len : length l.rows ≡ length l.fn.rows;
  group : IsSortKey (ids_of l.fn.rows) l.group;
  so_far : IsIdOrder (ids_of l.fn.rows) (map index_at l.places) → HaveNoFirst l.fn.rows
      → FirstsAreSetSoFar l.fn.rows (map index_at l.places) l.place-index (index_at l.group) l.rows;
  ids : ids_of l.rows ≡ ids_of l.fn.rows;
}
