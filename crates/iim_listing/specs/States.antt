-- The next item of an input.
use Rattle.std.specs.Prelude.{◌≡◌, ℕ, ◌<◌, ◌⊎◌, ⊤, List, [], length, take, Option, None, Result, Ok, Err}
use Rattle.std.specs.Io.KnownBytes.{IsAtEnd}
use Rattle.iim_dataset.specs.States.Devices.{Device, ReadsGave, ReadFailedAfter}
use Rattle.iim_dataset.specs.{Format.Octets.CounterRose, declared.device.IoFault.IoFault}
use Rattle.wire_story.specs.Format.Texts.{StoryEvent}
use Rattle.iim_unpack.specs.States.{Intakes.ReadsInput, Unpacking.Unpacking, Unpacking.IsDoneWith, Unpacking.limits_in}
use Rattle.iim_places.specs.{Format.Open.IsIncomplete, declared.refusal.Refusal.Refusal}
use Rattle.iim_places.specs.Format.Streams.{Listed, IsListed, IsRefusedAfter}
use Rattle.iim_output.specs.Format.{limits}
use Rattle.iim_listing.specs.Format.{told, EventsAreDelivered, CommandFault, CannotRead, CannotWrite, OutOfMemory}
use Rattle.iim_listing.specs.declared.coming.Next.{Next}
use Rattle.iim_listing.specs.declared.coming.Next.TheVariants as next

-- An envelope was read, the unpacker has completed it, and its text was passed to the sink.
pub record EnvelopeIsRead {S : Type 0} (goes : S → List StoryEvent → S → Type 0) (old new : Device) (u : Unpacking) (a b : S) (octets : ℕ) : Type 0 where
  pub envelope : Listed
  pub is : IsListed limits envelope
  pub done : IsDoneWith u envelope.octets octets
  pub same : limits_in u ≡ limits
  pub counts : octets ≡ told (length envelope.octets)
  pub more : List StoryEvent
  pub came : ReadsInput goes old new a b envelope.octets more
  pub delivered : EventsAreDelivered envelope.octets more

-- The octets that were read are rejected, and the text of those before the rejected one was passed
-- to the sink.
pub record RefusalIsRead {S : Type 0} (goes : S → List StoryEvent → S → Type 0) (old new : Device) (a b : S) (e : Refusal) : Type 0 where
  pub octets : List ℕ
  pub more : List StoryEvent
  pub came : ReadsInput goes old new a b octets more
  pub k : ℕ
  pub refused : IsRefusedAfter limits octets k e
  pub at_end : k ≡ length octets → IsAtEnd new.octets
  pub delivered : EventsAreDelivered (take k octets) more

-- Octets were read, and the sink stopped after it had received the text of the first k of them.
pub record SinkStops {S : Type 0} (goes : S → List StoryEvent → S → Type 0) (failures : S → ℕ) (old new : Device) (a b : S) : Type 0 where
  pub octets : List ℕ
  pub more : List StoryEvent
  pub came : ReadsInput goes old new a b octets more
  pub k : ℕ
  pub within : k < length octets
  pub delivered : EventsAreDelivered (take k octets) more
  pub rose : CounterRose (failures a) (failures b)

-- A viable prefix was read, and then a read failed.
pub record ReadFailsInside {S : Type 0} (goes : S → List StoryEvent → S → Type 0) (old new : Device) (a b : S) : Type 0 where
  pub octets : List ℕ
  pub more : List StoryEvent
  pub fault : IoFault
  pub missed : ReadFailedAfter old new octets fault
  pub told : goes a more b
  pub is_open : IsIncomplete limits octets
  pub delivered : EventsAreDelivered octets more

-- A viable prefix was read, and its text was passed to the sink; then a flush of the sink failed.
pub record FlushFailsInside {S : Type 0} (goes : S → List StoryEvent → S → Type 0) (failures : S → ℕ) (write_failed : S → S → Type 0) (old new : Device) (a b : S) : Type 0 where
  pub octets : List ℕ
  pub more : List StoryEvent
  pub told : S
  pub came : ReadsInput goes old new a told octets more
  pub no_failure : failures told ≡ failures a
  pub is_open : IsIncomplete limits octets
  pub delivered : EventsAreDelivered octets more
  pub holds_back : write_failed told b

-- The next item, or the reason why there is none. Nothing is allocated. (The arguments are the
-- condition that the buffer of a sink is empty, the effect of a failed flush on the sink, the input
-- and the sink, before and after, and the unpacker afterwards.)
abbrev pub IsNextItem : {S : Type 0} → (S → List StoryEvent → S → Type 0) → (S → ℕ) → (S → Type 0) → (S → S → Type 0) → Device × S
    → Device × Unpacking × S → Result Next CommandFault → Type 0
IsNextItem goes failures is_flushed write_failed (old, a) (new, u, b) (Ok (next.Envelope octets)) = EnvelopeIsRead goes old new u a b octets
IsNextItem goes failures is_flushed write_failed (old, a) (new, u, b) (Ok next.End) = ReadsGave old new [] × IsAtEnd new.octets × goes a [] b × is_flushed b
IsNextItem goes failures is_flushed write_failed (old, a) (new, u, b) (Ok (next.Refused refusal)) = RefusalIsRead goes old new a b refusal
IsNextItem goes failures is_flushed write_failed (old, a) (new, u, b) (Err CannotRead) = ReadFailsInside goes old new a b × is_flushed b
IsNextItem goes failures is_flushed write_failed (old, a) (new, u, b) (Err CannotWrite) = SinkStops goes failures old new a b ⊎ FlushFailsInside goes failures write_failed old new a b
IsNextItem goes failures is_flushed write_failed (old, a) (new, u, b) (Err OutOfMemory) = ⊥

-- The sink counted a failure only if it stopped.
abbrev pub CountsFailuresOfSink : ℕ → ℕ → Result Next CommandFault → Type 0
CountsFailuresOfSink before now (Err CannotWrite) = ⊤
CountsFailuresOfSink before now _ = now ≡ before

-- After an envelope the next one can be read. (The argument is the octet that an intake stores
-- after an error.)
abbrev pub CanReadNext : Option ℕ → Result Next CommandFault → Type 0
CanReadNext failed (Ok (next.Envelope octets)) = failed ≡ None
CanReadNext failed _ = ⊤
