-- The output of a command for one of several files.
use Rattle.std.specs.Prelude.{◌≡◌, ℕ, Bool, ◌⊎◌, ◌||◌, List, ◌++◌, codes, Option, if◌then◌else◌}
use Rattle.iim_dataset.specs.States.Devices.{Device, WroteOnlyPrefixOf, WroteAllOf}
use Rattle.iim_dataset.specs.Format.Datasets.{shown}
use Rattle.iim_unpack.specs.States.Blocks.{with_unread}
use Rattle.iim_request.specs.{Format.escaped_name, declared.request.Job.Job}
use Rattle.iim_output.specs.{Format.IsPrinted, Format.fault_line, Format.status_failed, States.Devices.devices}
use Rattle.iim_output.specs.declared.fault.CommandFault.TheVariants.{OutOfMemory}
use Rattle.iim_commands.specs.Format.{RunsJob}
use Rattle.iim_files.specs.States.Seen.{IsFinishedOutput, empty_prefixed_device}

-- the prefix of each line: the escaped name of the file, a colon and a space
abbrev pub line_prefix : List ℕ → List ℕ
line_prefix name = escaped_name name ++ codes ": "

-- The allocation of the buffers failed. This was printed to the error output, and nothing else was
-- written. (The arguments are output and error output, before and after.)
abbrev pub AllocationFails : Device × Device → Device × Device → ℕ → Type 0
AllocationFails (old, errors_old) (new, errors_new) status = (new ≡ old) × IsPrinted errors_old errors_new (fault_line OutOfMemory) status_failed status

-- The job was run with targets that accept text without prefixes. The text is written to the output
-- and to the error output, with the prefix in each line, and with the last line ended. The status
-- is that of the job, or 3 if a write failed.
abbrev pub RunsPrefixed : {R : Type 0} → (R → Device) → (R → R → Type 0) → Job → R → Device × Device → Option (List ℕ) × Option (List ℕ) → Bool → ℕ → Type 0
RunsPrefixed state leads job reader (output, errors) (output_new, errors_new) broken status =
    (last : _) × (held : List ℕ) × (seen_output : Device) × (seen_errors : Device) × (ran : ℕ) × (output_broken : Bool) × (errors_broken : Bool)
    × leads reader last
    × RunsJob job (devices (state reader) output errors) (devices (with_unread held (state last)) seen_output seen_errors) ran
    × IsFinishedOutput seen_output.octets output_new output_broken × IsFinishedOutput seen_errors.octets errors_new errors_broken
    × (broken ≡ (output_broken || errors_broken)) × (status ≡ (if broken then status_failed else ran))

-- The job was run on the file with this name, with the prefix of that name.
abbrev pub RunsFile : {R : Type 0} → (R → Device) → (R → R → Type 0) → List ℕ → Job → R → Device × Device → Device × Device → Bool → ℕ → Type 0
RunsFile state leads name job reader (output, errors) (output_new, errors_new) broken status =
    AllocationFails (output, errors) (output_new, errors_new) status
    ⊎ RunsPrefixed state leads job reader (empty_prefixed_device (line_prefix name) output, empty_prefixed_device (line_prefix name) errors)
    (output_new.octets, errors_new.octets) broken status

-- The line is written to the error output, or a write of it failed.
abbrev pub LineIsPrinted : List ℕ → Device → Device → Type 0
LineIsPrinted line old new = WroteAllOf old new line ⊎ ((n : ℕ) × WroteOnlyPrefixOf old new line n)

-- the line for a file that cannot be opened, or for which an allocation failed
abbrev pub cannot_open_line : List ℕ → Bool → List ℕ
cannot_open_line name starved =
    line_prefix name ++ (if starved then fault_line OutOfMemory else codes "cannot open " ++ (escaped_name name ++ codes "\n"))

-- the prefix of the line for a name that is not UTF-8
abbrev pub non_utf8_prefix : List ℕ → List ℕ
non_utf8_prefix name = shown name ++ codes ": "

abbrev pub non_utf8_line : List ℕ → List ℕ
non_utf8_line name = non_utf8_prefix name ++ (codes "cannot open " ++ (shown name ++ codes "\n"))
