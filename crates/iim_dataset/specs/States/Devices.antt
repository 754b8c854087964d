-- The models of sources and targets of octets, and of a buffer of octets that is allocated once.
use Rattle.std.specs.Prelude.{◌≡◌, ℕ, ◌≤◌, List, ◌+◌, ◌*◌, ◌^◌, ◌<◌, ◌⊎◌, length, take, Option}
use Rattle.std.specs.Io.KnownBytes.{Appends, Consumes, Keeps, IsAtEnd}
use Rattle.iim_dataset.specs.{Format.Octets.CounterRose, declared.device.IoFault.IoFault, declared.device.Faults.Faults}
use Rattle.iim_dataset.specs.{declared.source.FromRead.FromRead, declared.target.FromWrite.FromWrite}
use Rattle.iim_dataset.specs.declared.device.IoFault.TheVariants.{Interrupted, Failed}

-- The model of a source or a target: its octets, if they are known (those that a source will still
-- return, or those that a target has accepted), and the counters of its faults.
pub record Device : Type 0 where
  pub octets : Option (List ℕ)
  pub failures : ℕ
  pub interruptions : ℕ

-- the number of consecutive interruptions that are a fault
abbrev pub max_interruptions : ℕ
max_interruptions = 1000000

-- a source or a target with these octets, whose counters of faults are zero
abbrev pub unbroken : Option (List ℕ) → Device
unbroken octets = record { octets = octets; failures = 0; interruptions = 0 }

-- a source or a target with these octets and these counters of faults
abbrev pub faulty : Option (List ℕ) → Faults → Device
faulty octets faults = record { octets = octets; failures = faults.failures; interruptions = faults.interruptions }

-- the model of a `std` reader as a source, where `remaining` returns the octets that it will return
abbrev pub reader_device : {R : Type 0} → (R → Option (List ℕ)) → FromRead R → Device
reader_device remaining s = faulty (remaining s.reader) s.faults

-- the model of a `std` writer as a target, where `contents` returns the octets that it has accepted
abbrev pub writer_device : {W : Type 0} → (W → Option (List ℕ)) → FromWrite W → Device
writer_device contents s = faulty (contents s.writer) s.faults

-- A counter increased by at least k, or is at the greatest number of 64 bits.
abbrev pub CounterRoseBy : ℕ → ℕ → ℕ → Type 0
CounterRoseBy k old new = (old + k ≤ new) ⊎ (2 ^ 64 ≤ new + 1)

-- No fault was counted.
abbrev pub CountedNoFault : Device → Device → Type 0
CountedNoFault old new = (new.failures ≡ old.failures) × (new.interruptions ≡ old.interruptions)

-- No failure was counted, but interruptions may have been.
abbrev pub CountedNoFailure : Device → Device → Type 0
CountedNoFailure old new = (new.failures ≡ old.failures) × (old.interruptions ≤ new.interruptions)

-- One failure was counted, and nothing else.
abbrev pub CountedFailure : Device → Device → Type 0
CountedFailure old new = CounterRose old.failures new.failures × (new.interruptions ≡ old.interruptions)

-- One interruption was counted, and nothing else.
abbrev pub CountedInterruption : Device → Device → Type 0
CountedInterruption old new = (new.failures ≡ old.failures) × CounterRose old.interruptions new.interruptions

-- A call failed, or was interrupted a million times in a row.
abbrev pub FailedOrInterrupted : Device → Device → Type 0
FailedOrInterrupted old new = (CounterRose old.failures new.failures × (old.interruptions ≤ new.interruptions))
    ⊎ ((new.failures ≡ old.failures) × (old.interruptions ≤ new.interruptions) × CounterRoseBy max_interruptions old.interruptions new.interruptions)

-- ---- one call of a source or a target

-- At a fault no octet is transferred, and the fault is counted.
abbrev pub CountedFault : Device → Device → IoFault → Type 0
CountedFault old new Failed = Keeps old.octets new.octets × CountedFailure old new
CountedFault old new Interrupted = Keeps old.octets new.octets × CountedInterruption old new

-- One read returned n octets. The number is 0 only at the end of the source, or if the buffer is
-- empty.
abbrev pub ReadGave : Device → Device → List ℕ → ℕ → Type 0
ReadGave old new buffer n = (n ≤ length buffer) × Consumes old.octets new.octets (take n buffer) × (n ≡ 0 → 0 < length buffer → IsAtEnd new.octets)

-- One write accepted n octets of the chunk. The number 0 for a non-empty chunk is a failure.
abbrev pub WriteAccepted : Device → Device → List ℕ → ℕ → Type 0
WriteAccepted old new piece n = (n ≤ length piece) × Appends old.octets new.octets (take n piece)
    × ((((0 < n) ⊎ (length piece ≡ 0)) × CountedNoFault old new) ⊎ ((n ≡ 0) × (0 < length piece) × CountedFailure old new))

-- ---- with retries after interruptions

-- At least k consecutive interruptions were counted, and nothing else.
abbrev pub CountedInterruptions : ℕ → Device → Device → Type 0
CountedInterruptions k old new = Keeps old.octets new.octets × CountedNoFailure old new × CounterRoseBy k old.interruptions new.interruptions

-- The limit on consecutive interruptions: each of k reads or writes was interrupted at most a
-- million times.
abbrev pub WithinInterruptionLimit : ℕ → Device → Device → Type 0
WithinInterruptionLimit calls old new = new.interruptions ≤ old.interruptions + calls * max_interruptions

-- A read returned n octets, possibly after interruptions, and no call failed.
abbrev pub ReadTook : Device → Device → List ℕ → ℕ → Type 0
ReadTook old new buffer n = ReadGave old new buffer n × CountedNoFailure old new

-- A read failed, possibly after interruptions, or was interrupted a million times in a row. No
-- octet was transferred.
abbrev pub ReadFailed : Device → Device → IoFault → Type 0
ReadFailed old new Failed = Keeps old.octets new.octets × CounterRose old.failures new.failures × (old.interruptions ≤ new.interruptions)
ReadFailed old new Interrupted = CountedInterruptions max_interruptions old new

-- The whole text was written, and no write failed.
abbrev pub WroteAllOf : Device → Device → List ℕ → Type 0
WroteAllOf old new text = Appends old.octets new.octets text × CountedNoFailure old new

-- Exactly the first n octets of the text were written, because a write failed or was interrupted a
-- million times in a row.
abbrev pub WroteOnlyPrefixOf : Device → Device → List ℕ → ℕ → Type 0
WroteOnlyPrefixOf old new text n = (n < length text) × Appends old.octets new.octets (take n text) × FailedOrInterrupted old new

-- ---- many reads

-- The counters of faults did not decrease, and the octets that remain are a suffix of those that
-- remained before.
abbrev pub IsAfterReads : Device → Device → Type 0
IsAfterReads old new = (old.failures ≤ new.failures) × (old.interruptions ≤ new.interruptions)
    × ((given : List ℕ) × Consumes old.octets new.octets given)

-- Reads returned exactly these octets, and no read failed.
abbrev pub ReadsGave : Device → Device → List ℕ → Type 0
ReadsGave old new octets = Consumes old.octets new.octets octets × CountedNoFailure old new

-- A read failed, and the failure was counted; or there were a million consecutive interruptions,
-- which were counted, and no failure.
abbrev pub FailedForFault : Device → Device → IoFault → Type 0
FailedForFault old new Failed = CounterRose old.failures new.failures × (old.interruptions ≤ new.interruptions)
FailedForFault old new Interrupted = (new.failures ≡ old.failures) × (old.interruptions ≤ new.interruptions) × CounterRoseBy max_interruptions old.interruptions new.interruptions

-- Reads returned exactly these octets, and then this fault occurred.
abbrev pub ReadFailedAfter : Device → Device → List ℕ → IoFault → Type 0
ReadFailedAfter old new octets fault = Consumes old.octets new.octets octets × FailedForFault old new fault

-- Exactly this text was written, and then a write failed or was interrupted a million times in a
-- row.
abbrev pub WriteFailedAfter : Device → Device → List ℕ → Type 0
WriteFailedAfter old new text = Appends old.octets new.octets text × FailedOrInterrupted old new

-- the octets of the buffer, and its capacity in octets
pub record ReservedView : Type 0 where
  pub items : List ℕ
  pub room : ℕ
