-- The states of a reader of a text, of a writer of lines and of a collector of lines.
use Rattle.std.specs.Prelude.{ℕ, List, [], ◌∷◌, ◌++◌, ◌≡◌, ◌≢◌, ◌<◌, ◌≤◌, length, take, slice_index, Option, Some, ◌+◌, ◌^◌, ◌⊎◌, map}
use Rattle.std.specs.Io.KnownBytes.{Appends}
use Rattle.wire_story.specs.Format.Texts.{StoryEvent, LineOctet, LineEnd, EndsInReturns, max_returns, delivered, Octet, IsViableStory, EndsViableStory, octet_for}
use Rattle.wire_story.specs.declared.fault.TextCause.TheVariants.{LoneReturn, ControlOctet, Sink}
use Rattle.wire_story.specs.declared.{fault.TextCause.TextCause, fault.TextFault.TextFault}
use Rattle.wire_story.specs.declared.{writer.LineWriter.LineWriter}
use Rattle.iim_dataset.specs.Format.Octets.{soh, eot, lf, cr, CounterRose}
use Rattle.iim_dataset.specs.States.Devices.{Device, CounterRoseBy, max_interruptions}

-- the model of collected lines: the lines, the number of failed allocations, and the capacity in
-- octets
pub record Collected : Type 0 where
  pub lines : List (List ℕ)
  pub failures : ℕ
  pub room : ℕ

-- the lines with one more octet at the end of the last line
abbrev pub add_octet : List (List ℕ) → ℕ → List (List ℕ)
add_octet [] b = (b ∷ []) ∷ []
add_octet (line ∷ []) b = (line ++ b ∷ []) ∷ []
add_octet (line ∷ next ∷ lines) b = line ∷ add_octet (next ∷ lines) b

-- The lines after events: an octet is appended to the last line, and the end of a line begins an
-- empty one.
abbrev pub collect : List (List ℕ) → List StoryEvent → List (List ℕ)
collect lines [] = lines
collect lines (LineOctet b ∷ events) = collect (add_octet lines b) events
collect lines (LineEnd ∷ events) = collect (lines ++ [] ∷ []) events

-- ---- The state of a reader of a text, and why the reader rejects an octet.

-- The reader, modelled by its number of pending CR, has consumed these octets: they are a text so
-- far with this number of CR at its end.
abbrev pub TextReaderHasRead : Option ℕ → List ℕ → Type 0
TextReaderHasRead reader octets = (held : ℕ) × (reader ≡ Some held) × EndsInReturns octets held

-- The reader accepts calls, and at most two CR are pending.
abbrev pub IsTextState : Option ℕ → Type 0
IsTextState reader = (held : ℕ) × (reader ≡ Some held) × (held ≤ max_returns)

-- After any octets that the reader has consumed, the chunk moves it to the state after these octets
-- and the chunk.
abbrev pub ChunkAdvancesText : Option ℕ → List ℕ → Option ℕ → Type 0
ChunkAdvancesText old piece new = (octets : List ℕ) → TextReaderHasRead old octets → TextReaderHasRead new (octets ++ piece)

-- after `held` pending CR, the octet is neither LF nor one of the first two CR
abbrev pub IsLoneReturn : ℕ → ℕ → Type 0
IsLoneReturn held octet = (0 < held) × (octet ≢ lf) × (octet ≡ cr → held ≡ max_returns)

-- SOH, STX, ETX or EOT
abbrev pub IsControl : ℕ → Type 0
IsControl octet = (soh ≤ octet) × (octet ≤ eot)

-- Why an octet is rejected after others: with it they are no longer a viable prefix; or they are
-- one, and the sink rejects what it receives.
abbrev pub HasTextCause : TextCause → List ℕ → ℕ → Type 0
HasTextCause LoneReturn octets octet = EndsViableStory octets (Octet octet) × ((held : ℕ) × EndsInReturns octets held × IsLoneReturn held octet)
HasTextCause ControlOctet octets octet = EndsViableStory octets (Octet octet) × EndsInReturns octets 0 × IsControl octet
HasTextCause Sink octets octet = IsViableStory (octets ++ octet ∷ []) × (octet ≢ cr)

-- After all octets so far, the octet of the chunk at the index `taken` is rejected for that cause.
abbrev pub RejectsTextOctet : Option ℕ → List ℕ → TextFault → Type 0
RejectsTextOctet old piece fault = (octets : List ℕ) → TextReaderHasRead old octets →
    HasTextCause fault.cause (octets ++ take fault.taken piece) (slice_index piece fault.taken)

-- The sink's count of failures increased if and only if the sink rejected the octet.
abbrev pub SinkCountsTextCause : ℕ → ℕ → TextCause → Type 0
SinkCountsTextCause old new LoneReturn = new ≡ old
SinkCountsTextCause old new ControlOctet = new ≡ old
SinkCountsTextCause old new Sink = CounterRose old new

-- ---- The results of calls.

-- All octets of a chunk were consumed. The reader is in the state after them, the sink received
-- exactly the events that are delivered for them, and it did not stop.
pub record TextReaderConsumes {S : Type 0} (goes : S → List StoryEvent → S → Type 0) (failures : S → ℕ) (old : Option ℕ) (piece : List ℕ) (new : Option ℕ) (a b : S) : Type 0 where
  pub leads_on : ChunkAdvancesText old piece new
  pub told : goes a (delivered piece) b
  pub no_failure : failures b ≡ failures a

-- An octet of a chunk was rejected, for its cause. The sink received exactly the events that are
-- delivered for the octets before it, and its count of failures increased if the sink rejected the
-- octet.
pub record TextReaderRejects {S : Type 0} (goes : S → List StoryEvent → S → Type 0) (failures : S → ℕ) (old : Option ℕ) (piece : List ℕ) (fault : TextFault) (a b : S) : Type 0 where
  pub before : fault.taken < length piece
  pub refused : RejectsTextOctet old piece fault
  pub told : goes a (delivered (take fault.taken piece)) b
  pub counted : SinkCountsTextCause (failures a) (failures b) fault.cause

-- the target of a writer of lines
abbrev pub writer_of : {W : Type 0} → LineWriter W → W
writer_of sink = sink.writer

-- the model of the target of a writer of lines
abbrev pub device_of : {W : Type 0} → (W → Device) → LineWriter W → Device
device_of state sink = state sink.writer

-- the number of stops of a writer of lines
abbrev pub stops_of : {W : Type 0} → LineWriter W → ℕ
stops_of sink = sink.stops

-- A call of the target failed, or was interrupted at least a million times in a row.
abbrev pub TargetFailed : Device → Device → Type 0
TargetFailed old new = CounterRoseBy 1 old.failures new.failures ⊎ CounterRoseBy max_interruptions old.interruptions new.interruptions

-- The target accepted these octets. If the writer of lines stopped, a call of the target failed or
-- was interrupted a million times; otherwise no call failed.
pub record WritesToTarget (old new : Device) (stops_old stops_new : ℕ) (text : List ℕ) : Type 0 where
  pub octets : Appends old.octets new.octets text
  pub failures : old.failures ≤ new.failures
  pub interruptions : old.interruptions ≤ new.interruptions
  pub stops : stops_old ≤ stops_new
  pub broken : stops_old < stops_new → TargetFailed old new
  pub unbroken : stops_new ≡ stops_old → stops_new + 1 < 2 ^ 64 → new.failures ≡ old.failures

-- A writer of lines wrote these octets.
abbrev pub WritesOctets : {W : Type 0} → (W → Device) → LineWriter W → List ℕ → LineWriter W → Type 0
WritesOctets state old octets new = WritesToTarget (device_of state old) (device_of state new) (stops_of old) (stops_of new) octets

-- A writer of lines received these events, and wrote the octets for them.
abbrev pub WritesLines : {W : Type 0} → (W → Device) → LineWriter W → List StoryEvent → LineWriter W → Type 0
WritesLines state old events new = WritesOctets state old (map octet_for events) new
