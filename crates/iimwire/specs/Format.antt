-- The output of the program, and why a run cannot start.
use Rattle.std.specs.Prelude.{◌≡◌, ℕ, ◌⊎◌, ⊤, List, ◌++◌, codes, Result, Ok, Err, Bool, true, false}
use Rattle.clap.specs.Words.{kind_of}
use Rattle.clap.specs.declared.error.Error.{Error}
use Rattle.clap.specs.declared.error.kind.ErrorKind.{ErrorKind}
use Rattle.clap.specs.declared.error.kind.ErrorKind.TheVariants as kind
use Rattle.iim_dataset.specs.States.Devices.{Device, WroteAllOf, WroteOnlyPrefixOf}
use Rattle.iim_request.specs.declared.request.{UsageFault.UsageFault, Request.Request}
use Rattle.iim_request.specs.Format.{escaped_name}
use Rattle.iim_request.specs.declared.request.UsageFault.TheVariants as usage
use Rattle.iimwire.specs.declared.start.RunFault.{RunFault}
use Rattle.iimwire.specs.declared.start.RunFault.TheVariants.{Usage, NoText, CannotOpen, OutOfMemory}
use Rattle.iim_output.specs.Format.{IsPrinted, fault_line, status_accepted, status_usage, status_failed}
use Rattle.iim_output.specs.declared.fault.CommandFault.TheVariants as command
use Rattle.iim_unpack.specs.States.Blocks.{with_unread}
use Rattle.iim_output.specs.States.Devices.{devices}
use Rattle.iim_commands.specs.Format.{RunsJob}

-- ---- Why a run cannot start, and what is written then.

-- the error is a request for the text of `--help` or `--version`
abbrev pub is_text : ErrorKind → Bool
is_text kind.DisplayHelp = true
is_text kind.DisplayVersion = true
is_text _ = false

abbrev pub requests_text : Error → Bool
requests_text error = is_text (kind_of error)

-- the arguments only request that text
abbrev pub is_text_requested : RunFault → Bool
is_text_requested (Usage (usage.Words error)) = requests_text error
is_text_requested fault = false

-- A usage error of clap is printed in this form, or another error is.
abbrev pub IsUsageErrorFor : Error → UsageFault → Type 0
IsUsageErrorFor error (usage.Words other) = (other ≡ error) ⊎ (requests_text other ≡ false)
IsUsageErrorFor error usage.OutOfMemory = ⊤
IsUsageErrorFor error _ = ⊥

-- The error is printed in the second form. A usage error of clap is printed as the error that clap
-- reports for the escaped arguments, if their allocation succeeds. A requested text, and any other
-- error, is printed unchanged.
abbrev pub IsPrintedAs : UsageFault → UsageFault → Type 0
IsPrintedAs (usage.Words error) (usage.Words other) = (other ≡ error) ⊎ ((requests_text error ≡ false) × (requests_text other ≡ false))
IsPrintedAs (usage.Words error) usage.OutOfMemory = requests_text error ≡ false
IsPrintedAs (usage.Words error) _ = ⊥
IsPrintedAs fault other = other ≡ fault

-- The text reports why the run cannot start. The messages of clap are not specified.
abbrev pub IsRunFaultText : RunFault → List ℕ → Type 0
IsRunFaultText (Usage (usage.Words error)) text = ⊤
IsRunFaultText (Usage usage.MaxNeedsUnknown) text = text ≡ codes "--max needs --unknown\n"
IsRunFaultText (Usage usage.BadNow) text = text ≡ codes "bad --now\n"
IsRunFaultText (Usage usage.OutOfMemory) text = text ≡ fault_line command.OutOfMemory
IsRunFaultText NoText text = text ≡ codes "arguments are no text\n"
IsRunFaultText (CannotOpen name) text = text ≡ codes "cannot open " ++ (escaped_name name.now ++ codes "\n")
IsRunFaultText OutOfMemory text = text ≡ fault_line command.OutOfMemory

-- the exit status for an error of clap
abbrev pub clap_error_status : ErrorKind → ℕ
clap_error_status kind.DisplayHelp = status_accepted
clap_error_status kind.DisplayVersion = status_accepted
clap_error_status _ = status_usage

-- the exit status: 0 if a text is requested, 2 for a usage error, otherwise 3
abbrev pub run_fault_status : RunFault → ℕ
run_fault_status (Usage (usage.Words error)) = clap_error_status (kind_of error)
run_fault_status (Usage usage.OutOfMemory) = status_failed
run_fault_status (Usage fault) = status_usage
run_fault_status NoText = status_usage
run_fault_status fault = status_failed

-- The reason why the run cannot start was printed, or that the allocation for it failed.
abbrev pub PrintsReason : RunFault → Device → Device → ℕ → Type 0
PrintsReason fault old new status = ((text : List ℕ) × IsRunFaultText fault text × IsPrinted old new text (run_fault_status fault) status)
    ⊎ IsPrinted old new (fault_line command.OutOfMemory) status_failed status

-- ---- The text of `--help` or `--version`.

-- The text is written to the output, and the status is the requested one. Or a write of it failed,
-- and the error output has the line that reports this. (The arguments are output and error output,
-- before and after.)
abbrev pub WritesText : List ℕ → ℕ → Device × Device → Device × Device → ℕ → Type 0
WritesText text want (old, errors_old) (new, errors_new) status = (WroteAllOf old new text × (errors_new ≡ errors_old) × (status ≡ want))
    ⊎ ((n : ℕ) × WroteOnlyPrefixOf old new text n × IsPrinted errors_old errors_new (fault_line command.CannotWrite) status_failed status)

-- The text was written, or it was printed to the error output that the allocation for it failed.
abbrev pub PrintsText : RunFault → Device × Device → Device × Device → ℕ → Type 0
PrintsText fault (old, errors_old) (new, errors_new) status =
    ((text : List ℕ) × IsRunFaultText fault text × WritesText text (run_fault_status fault) (old, errors_old) (new, errors_new) status)
    ⊎ ((new ≡ old) × IsPrinted errors_old errors_new (fault_line command.OutOfMemory) status_failed status)

-- The text was written, if it was requested. Otherwise the reason why the run cannot start was
-- printed, and nothing was written to the output.
abbrev pub PrintsTextOrReason : Bool → RunFault → Device × Device → Device × Device → ℕ → Type 0
PrintsTextOrReason true fault old new status = PrintsText fault old new status
PrintsTextOrReason false fault (old, errors_old) (new, errors_new) status = (new ≡ old) × PrintsReason fault errors_old errors_new status

-- ---- The output of the program.

-- The request was executed: the reader has reached a state `last`, and the octets `held` were read
-- but not consumed. Or the requested text was written; or the reason why there is no request was
-- printed, and nothing was written to the output. (The arguments are output and error output,
-- before and after.)
abbrev pub Serves : {R : Type 0} → (R → Device) → (R → R → Type 0) → Result (Request × R) RunFault → Device × Device → Device × Device → ℕ
    → Type 0
Serves state leads (Ok begun) (old, errors_old) (new, errors_new) status =
    (last : _) × (held : List ℕ) × leads begun.1 last
    × RunsJob begun.0.job (devices (state begun.1) old errors_old) (devices (with_unread held (state last)) new errors_new) status
Serves state leads (Err fault) old new status = PrintsTextOrReason (is_text_requested fault) fault old new status
