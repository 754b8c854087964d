use Rattle.std.proofs.Common.{◌≡◌, ◌-◌, ◌≤◌, drop}
use Rattle.iim_c.proofs.TicketFields.{HasFieldsAt}
use Rattle.iim_c.proofs.field.field_in.Given as goal

abbrev pub invariant-walking : goal.invariant-walking
invariant-walking l = record {
  next : (goal.iterator-walking).can_next l.fields;
  finite : (goal.iterator-walking).is_finite l.fields;
  at : HasFieldsAt l.ticket l.offset l.fields;
  few : l.left ≤ l.n;
  index : drop (l.n - l.left) l.initial.fields ≡ l.fields;
}
