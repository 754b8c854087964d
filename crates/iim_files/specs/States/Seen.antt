-- A writer of prefixed lines, modelled as a target.
use Rattle.std.specs.Prelude.{◌≡◌, ◌⊎◌, ℕ, Bool, true, false, List, ◌++◌, take, Option, Some, option_and_then, option_map}
use Rattle.iim_dataset.specs.States.Devices.{Device}
use Rattle.iim_files.specs.Format.{begins_line, prefixed}
use Rattle.iim_files.specs.States.Lines.{ended, text_seen_of, started}
use Rattle.iim_files.specs.declared.prefixed.Prefixed.{Prefixed}

-- The model: the earlier octets of the inner target, preceded by their number, and the text that
-- the writer accepted. The writer counts no interruptions.
abbrev pub seen : {W : Type 0} → (W → Device) → Prefixed W → Device
seen state s = record {
  octets = option_and_then (text_seen_of s.prefix.now s.count s.cut s.fresh s.broken) (state s.writer).octets;
  failures = s.failures;
  interruptions = 0;
}

-- the model before anything was written
abbrev pub empty_prefixed_device : List ℕ → Device → Device
empty_prefixed_device prefix d = record { octets = option_map (started prefix) d.octets; failures = 0; interruptions = 0 }

-- Only the number of failures has changed.
abbrev pub IsSameButFailures : {W : Type 0} → Prefixed W → Prefixed W → Type 0
IsSameButFailures old new = (new.writer ≡ old.writer) × (new.prefix ≡ old.prefix) × (new.fresh ≡ old.fresh) × (new.broken ≡ old.broken)
    × (new.cut ≡ old.cut) × (new.count ≡ old.count)

-- The whole text is written after these octets, with the prefix in each line and with the last line
-- ended by LF. If a write failed, the text is written, possibly with its last line ended, and
-- possibly followed by a part of one more prefix.
abbrev pub IsPrefixedOutput : List ℕ → List ℕ → List ℕ → Bool → Option (List ℕ) → Type 0
IsPrefixedOutput prefix octets text false new = new ≡ Some (octets ++ prefixed prefix true (ended text))
IsPrefixedOutput prefix octets text true new = (out : List ℕ) × (cut : ℕ) × ((out ≡ text) ⊎ (out ≡ ended text))
    × (new ≡ Some (octets ++ (prefixed prefix true out ++ take cut prefix)))

-- The text of the model is written.
abbrev pub IsFinishedOutput : Option (List ℕ) → Option (List ℕ) → Bool → Type 0
IsFinishedOutput seen new broken = (prefix octets text : List ℕ) → seen ≡ Some (started prefix octets ++ text) → IsPrefixedOutput prefix octets text broken new

-- The text of the model is written, and its last line is unchanged.
abbrev pub IsReturnedOutput : Option (List ℕ) → Bool → Option (List ℕ) → Bool → Type 0
IsReturnedOutput seen fresh new broken = (prefix octets text : List ℕ) → seen ≡ Some (started prefix octets ++ text)
    → (cut : ℕ) × (new ≡ Some (octets ++ (prefixed prefix true text ++ take cut prefix))) × (broken ≡ false → cut ≡ 0) × (fresh ≡ begins_line true text)
