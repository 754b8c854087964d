use Rattle.std.proofs.Common.{◌≡◌, ◌+◌, ◌-◌, drop, length}
use Rattle.iim_places.specs.States.Restored.{contents_from}
use Rattle.iim_c.proofs.TicketFields.{HasFieldsAt}
use Rattle.iim_c.specs.Format.Tickets.{ArrayHasFields}
use Rattle.iim_c.proofs.fields.put_fields.Given as goal

abbrev pub invariant-walking : goal.invariant-walking
invariant-walking l = record {
  next : (goal.iterator-walking).can_next l.fields;
  finite : (goal.iterator-walking).is_finite l.fields;
  at : HasFieldsAt l.ticket l.offset l.fields;
  rest : drop l.index l.initial.fields ≡ l.fields;
  put : ArrayHasFields l.ticket (contents_from l.fn.parts) l.from (l.index - l.from) l.fn.datasets l.datasets;
  counts : l.index + length l.fields ≡ length l.initial.fields;
}
