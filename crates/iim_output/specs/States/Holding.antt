-- A buffered writer: what it has buffered and what it has written. Also a sink that discards the
-- text of a story.
use Rattle.std.specs.Prelude.{◌≡◌, ℕ, ◌+◌, ◌<◌, List, [], ◌++◌, length, map}
use Rattle.iim_dataset.specs.States.Devices.{Device, WroteAllOf, WriteFailedAfter, WithinInterruptionLimit}
use Rattle.iim_dataset.specs.Format.Octets.{CounterRose}
use Rattle.wire_story.specs.{Format.Texts.StoryEvent, Format.Texts.octet_for, States.Reading.WritesToTarget}
pub use Rattle.iim_output.specs.declared.block_writer.BlockWriter.{BlockWriter}
use Rattle.iim_output.specs.declared.null_sink.NullSink.{NullSink}
use Rattle.iim_output.specs.Format.{CommandFault, CannotWrite}

-- the octets that the writer has consumed but not written
abbrev pub buffered_octets : {W : Type 0} → BlockWriter W → List ℕ
buffered_octets b = b.pending.octets

-- the target of the writer
abbrev pub device_of : {W : Type 0} → (W → Device) → BlockWriter W → Device
device_of state b = state b.writer.now

-- the number of failed writes of the writer
abbrev pub stops_of : {W : Type 0} → BlockWriter W → ℕ
stops_of b = b.stops

-- The writer still writes to the target that it borrowed.
abbrev pub KeepsWriter : {W : Type 0} → BlockWriter W → BlockWriter W → Type 0
KeepsWriter old new = new.writer.ghost_name ≡ old.writer.ghost_name

-- A text was consumed, and no write failed. A prefix of the buffered octets and the text is
-- written, and the rest is buffered. At most a million interruptions occurred for each octet
-- written.
pub record HasBuffered {W : Type 0} (state : W → Device) (old new : BlockWriter W) (text : List ℕ) : Type 0 where
  pub out : List ℕ
  pub same : KeepsWriter old new
  pub parts : buffered_octets old ++ text ≡ out ++ buffered_octets new
  pub wrote : WroteAllOf (device_of state old) (device_of state new) out
  pub retry_limit : WithinInterruptionLimit (length out) (device_of state old) (device_of state new)

-- A text was consumed, and a write failed. A prefix of the buffered octets and the text is written,
-- and the rest is buffered. At most a million interruptions occurred for each octet written, and
-- for the next one.
pub record HasBufferedInPart {W : Type 0} (state : W → Device) (old new : BlockWriter W) (text : List ℕ) : Type 0 where
  pub out : List ℕ
  pub same : KeepsWriter old new
  pub parts : buffered_octets old ++ text ≡ out ++ buffered_octets new
  pub broke : WriteFailedAfter (device_of state old) (device_of state new) out
  pub retry_limit : WithinInterruptionLimit (length out + 1) (device_of state old) (device_of state new)

-- After a failed flush some octets are still buffered, and the failure is counted.
abbrev pub FlushFails : {W : Type 0} → (W → Device) → BlockWriter W → BlockWriter W → Type 0
FlushFails state old new = HasBufferedInPart state old new [] × (0 < length (buffered_octets new)) × CounterRose (stops_of old) (stops_of new)

-- A text was consumed: a prefix of the buffered octets and the text was written, and the rest is
-- buffered.
pub record BuffersText {W : Type 0} (state : W → Device) (old new : BlockWriter W) (text : List ℕ) : Type 0 where
  pub out : List ℕ
  pub same : KeepsWriter old new
  pub parts : buffered_octets old ++ text ≡ out ++ buffered_octets new
  pub writes : WritesToTarget (device_of state old) (device_of state new) (stops_of old) (stops_of new) out

-- These events were passed to the writer, and it consumed their octets.
abbrev pub BuffersEvents : {W : Type 0} → (W → Device) → BlockWriter W → List StoryEvent → BlockWriter W → Type 0
BuffersEvents state old events new = BuffersText state old new (map octet_for events)

-- The buffer of the writer is empty.
abbrev pub HasEmptyBuffer : {W : Type 0} → BlockWriter W → Type 0
HasEmptyBuffer b = buffered_octets b ≡ []

-- A proper prefix of the buffered octets and a text is written, because a write failed. At most a
-- million interruptions occurred for each octet written, and for the next one.
pub record IsWrittenInPart {W : Type 0} (state : W → Device) (old new : BlockWriter W) (text : List ℕ) : Type 0 where
  pub out : List ℕ
  pub rest : List ℕ
  pub same : KeepsWriter old new
  pub parts : buffered_octets old ++ text ≡ out ++ rest
  pub some : 0 < length rest
  pub broke : WriteFailedAfter (device_of state old) (device_of state new) out
  pub retry_limit : WithinInterruptionLimit (length out + 1) (device_of state old) (device_of state new)

-- A write of the text failed.
abbrev pub AppendFails : {W : Type 0} → (W → Device) → BlockWriter W → BlockWriter W → List ℕ → CommandFault → Type 0
AppendFails state old new text fault = (fault ≡ CannotWrite) × IsWrittenInPart state old new text

-- ---- A sink that discards the text of a story.

-- The sink received these events, and its writer consumed nothing.
abbrev pub DiscardsEvents : {W : Type 0} → (W → Device) → NullSink W → List StoryEvent → NullSink W → Type 0
DiscardsEvents state old events new = HasBuffered state old.output new.output []

-- The sink never stops.
abbrev pub never_stops : {W : Type 0} → NullSink W → ℕ
never_stops sink = 0

abbrev pub NullSinkIsFlushed : {W : Type 0} → NullSink W → Type 0
NullSinkIsFlushed sink = HasEmptyBuffer sink.output

abbrev pub NullSinkFlushFails : {W : Type 0} → (W → Device) → NullSink W → NullSink W → Type 0
NullSinkFlushFails state old new = FlushFails state old.output new.output
