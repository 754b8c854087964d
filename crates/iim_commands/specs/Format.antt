-- The output, the error output and the exit status of a command.
use Rattle.std.specs.Prelude.{◌≡◌, ℕ, ℤ, ◌⊎◌, List}
use Rattle.iim_dataset.specs.States.Devices.{Device, WroteAllOf, WroteOnlyPrefixOf, ReadsGave}
use Rattle.iim_audit.specs.{Format.IsAudited, Format.FailsAt, Format.printed_report, declared.row.AuditRow.AuditRow}
pub use Rattle.iim_audit.specs.declared.fault.AuditCause.{AuditCause}
use Rattle.iim_audit.specs.declared.fault.AuditCause.TheVariants as causes
use Rattle.iim_output.specs.Format.{refused_line, too_many_line, fault_line, limits, status_accepted, status_refused, status_failed}
pub use Rattle.iim_output.specs.declared.fault.CommandFault.{CommandFault}
pub use Rattle.iim_output.specs.declared.fault.CommandFault.TheVariants.{CannotRead, CannotWrite, OutOfMemory}
use Rattle.iim_request.specs.declared.request.Job.{Job}
use Rattle.iim_request.specs.declared.request.Job.TheVariants.{Check, Show, Story, Pack, Audit}
use Rattle.iim_output.specs.States.Devices.{Devices}
use Rattle.iim_places.specs.Format.Streams.{Listed}
use Rattle.iim_listing.specs.Format.{check_line_of, StoriesFail, WritesStories, WritesListing, ListingFails, show_text_of}
use Rattle.iim_pack_script.specs.Format.{CompletesPack, FailsToComplete, asked}

-- ---- What `audit` writes.

-- The line reports why there is no report: octets of the envelope with this number are rejected, or
-- it is the first one over the limit.
abbrev pub IsErrorLine : ℕ → AuditCause → List ℕ → Type 0
IsErrorLine number (causes.Refused e) words = words ≡ refused_line number e
IsErrorLine number causes.TooManyEnvelopes words = words ≡ too_many_line
IsErrorLine number _ words = ⊥

-- The text is the report on the input at this instant, or the line that reports why there is none.
abbrev pub IsAuditOutput : ℤ → Device → Device → List ℕ → ℕ → Type 0
IsAuditOutput now source rest words status =
    ((rows : List AuditRow) × IsAudited limits now source rest rows × (words ≡ printed_report rows) × (status ≡ status_accepted))
    ⊎ ((number : ℕ) × (cause : AuditCause) × FailsAt limits source rest number cause × IsErrorLine number cause words × (status ≡ status_refused))

-- Exactly this text is written. (The arguments are the input before and after, and then the
-- output.)
abbrev pub WritesAudit : ℤ → Device → Device → Device → Device → ℕ → Type 0
WritesAudit now source rest old new status = (words : List ℕ) × IsAuditOutput now source rest words status × WroteAllOf old new words

-- Why the text is not written: the reader or an allocation failed, and nothing is written; or a
-- write failed inside the text.
abbrev pub AuditFails : ℤ → Device → Device → Device → Device → CommandFault → Type 0
AuditFails now source rest old new CannotRead = (number : ℕ) × (FailsAt limits source rest number causes.Read ⊎ FailsAt limits source rest number causes.Interrupted)
    × (new ≡ old)
AuditFails now source rest old new CannotWrite = (words : List ℕ) × (status : ℕ) × (n : ℕ) × IsAuditOutput now source rest words status × WroteOnlyPrefixOf old new words n
AuditFails now source rest old new OutOfMemory = (input : List ℕ) × ReadsGave source rest input × (new ≡ old)

-- ---- What a run writes.

-- The line of the error is written, or a write of it failed.
abbrev pub PrintsError : Device → Device → CommandFault → Type 0
PrintsError old new fault = WroteAllOf old new (fault_line fault) ⊎ ((n : ℕ) × WroteOnlyPrefixOf old new (fault_line fault) n)

-- The command ended without an error; or an error occurred and was printed to the error output, and
-- the status is 3.
abbrev pub EndsOrPrintsError : Type 0 → (CommandFault → Device → Type 0) → Device → ℕ → Type 0
EndsOrPrintsError answered fails errors status = answered
    ⊎ ((fault : CommandFault) × (before : Device) × fails fault before × PrintsError before errors fault × (status ≡ status_failed))

-- The input was listed, and nothing was printed to the error output; or an error occurred and was
-- printed there.
abbrev pub ListsOrPrintsError : (ℕ → Listed → List ℕ) → Devices → Devices → ℕ → Type 0
ListsOrPrintsError text old new status = EndsOrPrintsError (WritesListing text old.input new.input old.output new.output status × (new.errors ≡ old.errors))
    (λ fault errors. ListingFails text old.input new.input old.output new.output fault × (errors ≡ old.errors)) new.errors status

-- The output of each job: a listing; the stories, with the lines of `check` in the error output;
-- the packed form of a script, or the line that rejects it; or the report of an audit, with an
-- empty error output.
abbrev pub RunsJob : Job → Devices → Devices → ℕ → Type 0
RunsJob Check old new status = ListsOrPrintsError check_line_of old new status
RunsJob Show old new status = ListsOrPrintsError show_text_of old new status
RunsJob Story old new status = EndsOrPrintsError (WritesStories old.input new.input old.output new.output old.errors new.errors status)
    (λ fault errors. StoriesFail old.input new.input old.output new.output old.errors errors fault) new.errors status
RunsJob (Pack request) old new status = EndsOrPrintsError (CompletesPack (asked request.subfile request.unknown request.max) old new status)
    (λ fault errors. FailsToComplete (asked request.subfile request.unknown request.max) old new fault × (errors ≡ old.errors)) new.errors status
RunsJob (Audit now) old new status = EndsOrPrintsError (WritesAudit now.nanosecond old.input new.input old.output new.output status × (new.errors ≡ old.errors))
    (λ fault errors. AuditFails now.nanosecond old.input new.input old.output new.output fault × (errors ≡ old.errors)) new.errors status
