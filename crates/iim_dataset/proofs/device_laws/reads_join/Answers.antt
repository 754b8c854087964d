use Rattle.std.proofs.Common.{[], List, ℕ, Option, None, Some, sym, inl, inr, arith}
use Rattle.std.proofs.lemmas.List.{append-nil}
use Rattle.std.specs.Io.KnownBytes.{Keeps, Consumes}
use Rattle.iim_dataset.specs.States.Devices.{Device, FailedOrInterrupted, FailedForFault, ReadFailed, ReadsGave, ReadFailedAfter}
use Rattle.iim_dataset.specs.Steps.{consumes_consumes, consumes_none}
use Rattle.iim_dataset.specs.declared.device.IoFault.{IoFault}
use Rattle.iim_dataset.specs.declared.device.IoFault.TheVariants.{Interrupted, Failed}
use Rattle.iim_dataset.proofs.DeviceLaws.{missed_later}
use Rattle.iim_dataset.proofs.device_laws.reads_join.Goals as goal

-- If the octets stayed as they were, none was consumed.
keeps_consumes : (a b : Option (List ℕ)) → Keeps a b → Consumes a b []
keeps_consumes None b h = tt
keeps_consumes (Some x) None h = absurd h
keeps_consumes (Some x) (Some y) h = sym h

missed_now : (b c : Device) (fault : IoFault) → ReadFailed b c fault → ReadFailedAfter b c [] fault
missed_now b c Failed k = (keeps_consumes b.octets c.octets k.0, (k.1, k.2))
missed_now b c Interrupted k = (keeps_consumes b.octets c.octets k.0, (k.1.0, k.1.1, k.2))

missed_after : (a b c : Device) (xs : List ℕ) (fault : IoFault) → ReadsGave a b xs → ReadFailed b c fault → ReadFailedAfter a c xs fault
missed_after a b c xs fault h k = rw append-nil at (missed_later a b c xs [] fault h (missed_now b c fault k))

broke_for : (a c : Device) (fault : IoFault) → FailedForFault a c fault → FailedOrInterrupted a c
broke_for a c Failed f = inl f
broke_for a c Interrupted i = inr i

pub returns : goal.returns
returns c = record {
  none = λ a. (consumes_none a.octets, (omega arith, omega arith));
  more = λ a b c xs ys h k. (consumes_consumes a.octets b.octets c.octets xs ys h.0 k.0, (omega (arith, h.1.0, k.1.0), omega (arith, h.1.1, k.1.1)));
  fault = λ a b c xs f h k. let m = missed_after a b c xs f h k in (m.0, broke_for a c f m.1);
  missed = missed_after;
}
