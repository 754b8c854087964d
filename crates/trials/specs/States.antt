-- The models of the readers, writers and the sink for tests.
use Rattle.std.specs.Prelude.{◌≡◌, ℕ, ◌+◌, ◌<◌, ◌≤◌, ◌⊎◌, ◌↔◌, Bool, true, false, List, length, drop, None, Some, Option, ◌-◌, min}
use Rattle.iim_dataset.specs.{States.Devices.Device, States.Devices.CountedNoFault, States.Devices.IsAfterReads, Format.Octets.CounterRose}
use Rattle.iim_dataset.specs.declared.device.IoFault.{IoFault, TheVariants.Interrupted, TheVariants.Failed}
use Rattle.trials.specs.declared.{device.Plan.Plan, device.Trouble.Trouble, device.TrialReader.TrialReader}
use Rattle.trials.specs.declared.{device.TrialWriter.TrialWriter, sink.TrialSink.TrialSink}
use Rattle.trials.specs.declared.device.Trouble.TheVariants.{Failure, Interruptions}
use Rattle.wire_story.specs.Format.Texts.{StoryEvent}

-- ---- Readers and writers for tests.

-- a plan with this number of successful calls and then this trouble, and without faults so far
abbrev pub new_plan : ℕ → Trouble → Plan
new_plan good trouble = record { good = good; trouble = trouble; failures = 0; interruptions = 0 }

-- the model of a source or a target with the faults of a plan
abbrev pub planned : Option (List ℕ) → Plan → Device
planned octets p = record { octets = octets; failures = p.failures; interruptions = p.interruptions }

-- the number of planned interruptions that remain
abbrev pub interruptions_remaining : Trouble → ℕ
interruptions_remaining Failure = 0
interruptions_remaining (Interruptions left) = left

-- whether the plan has failures, and not interruptions
abbrev pub has_failures : Trouble → Bool
has_failures Failure = true
has_failures (Interruptions left) = false

-- A call succeeded: it was one of the planned successful calls, or these were used up and no
-- interruption remained.
abbrev pub CallSucceeded : Plan → Plan → Type 0
CallSucceeded old new = (new.trouble ≡ old.trouble)
    × ((old.good ≡ new.good + 1) ⊎ ((old.good ≡ 0) × (new.good ≡ 0) × (old.trouble ≡ Interruptions 0)))

-- The planned successful calls were used up, and this call failed or was interrupted.
abbrev pub CallMetTrouble : Plan → Plan → IoFault → Type 0
CallMetTrouble old new Failed = (old.good ≡ 0) × (new.good ≡ 0) × (old.trouble ≡ Failure) × (new.trouble ≡ Failure)
CallMetTrouble old new Interrupted = (old.good ≡ 0) × (new.good ≡ 0)
    × ((left : ℕ) × (old.trouble ≡ Interruptions (left + 1)) × (new.trouble ≡ Interruptions left))

-- Calls follow the plan: no trouble while successful calls remain, no failure if interruptions are
-- planned, and no more interruptions than remained.
pub record FollowsPlan (old new : Plan) : Type 0 where
  pub good : new.good ≤ old.good
  pub no_failure : 0 < new.good → CountedNoFault (planned None old) (planned None new)
  pub trouble : has_failures new.trouble ≡ has_failures old.trouble
  pub failures : (old.failures ≤ new.failures) × (has_failures old.trouble ≡ false → new.failures ≡ old.failures)
  pub interruptions : new.interruptions + interruptions_remaining new.trouble ≤ old.interruptions + interruptions_remaining old.trouble
  pub later : old.interruptions ≤ new.interruptions

-- the model of a reader of known octets as a source
abbrev pub trial_device : TrialReader → Device
trial_device r = planned (Some (drop r.at r.octets.now)) r.plan

abbrev pub reader_plan : TrialReader → Plan
reader_plan r = r.plan

abbrev pub writer_plan : {N : ℕ} → TrialWriter N → Plan
writer_plan w = w.plan

-- What reads can lead to: fewer octets remain, and trouble follows the plan.
pub record ReadsByPlan (old new : TrialReader) : Type 0 where
  pub later : IsAfterReads (trial_device old) (trial_device new)
  pub plan : FollowsPlan old.plan new.plan

-- the octets that a test target accepted
abbrev pub taken_octets : {N : ℕ} → TrialWriter N → List ℕ
taken_octets w = w.octets.items

-- the model of a test target: its octets and its faults
abbrev pub trial_target : {N : ℕ} → TrialWriter N → Device
trial_target w = planned (Some (taken_octets w)) w.plan

-- One octet of the chunk is accepted if the target has capacity for it, otherwise none.
abbrev pub AcceptsOneOctet : ℕ → List ℕ → List ℕ → ℕ → Type 0
AcceptsOneOctet room taken piece n = (n ≤ 1) × ((n ≡ 0) ↔ ((length piece ≡ 0) ⊎ (room ≤ length taken)))

-- ---- A sink for tests.

-- the sink to which calls are forwarded
abbrev pub sink_of : {S : Type 0} → TrialSink S → S
sink_of trial = trial.sink

-- the number of calls that are still forwarded
abbrev pub good_of : {S : Type 0} → TrialSink S → ℕ
good_of trial = trial.good

-- the number of octets of a call that are forwarded before the sink stops
abbrev pub front_of : {S : Type 0} → TrialSink S → ℕ
front_of trial = trial.front

-- the number of stops
abbrev pub failures_of : {S : Type 0} → TrialSink S → ℕ
failures_of trial = trial.failures

-- The sink to which calls are forwarded received the events.
abbrev pub PassesEventsOn : {S : Type 0} → (S → List StoryEvent → S → Type 0) → TrialSink S → List StoryEvent → TrialSink S → Type 0
PassesEventsOn goes old events new = goes (sink_of old) events (sink_of new)

-- A call was made: the number of calls that are still forwarded decreased by one, unless it was 0.
abbrev pub CountsCall : {S : Type 0} → TrialSink S → TrialSink S → Type 0
CountsCall old new = (front_of new ≡ front_of old)
    × ((good_of old ≡ good_of new + 1) ⊎ ((good_of old ≡ 0) × (good_of new ≡ 0)))

-- A slice of `len` octets was rejected after the first `taken`. Either no forwarded call remained,
-- and `taken` is the planned number of octets, or all but the last octet if that is fewer; or the
-- sink to which calls are forwarded rejected the slice.
abbrev pub StopsAsPlanned : {S : Type 0} → (S → ℕ) → TrialSink S → ℕ → ℕ → TrialSink S → Type 0
StopsAsPlanned failures old len taken new = ((good_of old ≡ 0) × (taken ≡ min (front_of old) (len - 1)))
    ⊎ CounterRose (failures (sink_of old)) (failures (sink_of new))
