-- A sink of objects that accepts everything and stores nothing.
use Rattle.std.specs.Prelude.{List, ⊤}
use Rattle.iim_object.specs.Format.Objects.{ObjectEvent}
use Rattle.iim_places.specs.declared.ticket.object.NullObjectSink.{NullObjectSink}

abbrev pub null_sink_accepts : NullObjectSink → List ObjectEvent → NullObjectSink → Type 0
null_sink_accepts a events b = ⊤

abbrev pub null_sink_stops : NullObjectSink → List ObjectEvent → ObjectEvent → NullObjectSink → Type 0
null_sink_stops a events refused b = ⊥
