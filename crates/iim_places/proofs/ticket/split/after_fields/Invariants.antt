use Rattle.iim_places.specs.Restoring.{FieldsPrecede}
use Rattle.iim_places.proofs.ticket.split.after_fields.Given as goal

abbrev pub invariant-loop : goal.invariant-loop
invariant-loop l = FieldsPrecede l.counter l.octets l.rest
