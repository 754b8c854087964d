-- The errors of an audit that are not reported by a line.
use Rattle.std.specs.Prelude.{◌≡◌}
use Rattle.iim_commands.specs.Format.{AuditCause, CommandFault, CannotRead, OutOfMemory}
use Rattle.iim_audit.specs.declared.fault.AuditCause.TheVariants as causes

-- A failure of the reader is an error of the command. An allocation may fail for every line.
abbrev pub HasNoErrorLine : AuditCause → CommandFault → Type 0
HasNoErrorLine causes.Read fault = fault ≡ CannotRead
HasNoErrorLine causes.Interrupted fault = fault ≡ CannotRead
HasNoErrorLine cause fault = fault ≡ OutOfMemory
