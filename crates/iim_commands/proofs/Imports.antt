-- The names that several proofs import, re-exported from one module.
pub use Rattle.iim_audit.specs.Format.{FailsAt, lines_from, printed_report, row_line, totals_line}
pub use Rattle.iim_audit.specs.declared.row.AuditRow.{AuditRow}
pub use Rattle.iim_commands.specs.Format.{WritesAudit, PrintsError, EndsOrPrintsError, IsAuditOutput, AuditFails, RunsJob}
pub use Rattle.iim_dataset.proofs.Lists.{handed_on}
pub use Rattle.iim_dataset.specs.States.Devices.{Device}
pub use Rattle.iim_listing.specs.Format.{StoriesFail, WritesStories, story_of}
pub use Rattle.iim_output.proofs.Holding.{all_out, partly_written_later, stopped_in}
pub use Rattle.iim_output.specs.Format.{limits, status_failed}
pub use Rattle.iim_output.specs.States.Devices.{devices}
pub use Rattle.iim_output.specs.States.Holding.{HasBuffered, HasEmptyBuffer, IsWrittenInPart, AppendFails}
pub use Rattle.iim_output.specs.declared.fault.CommandFault.{CommandFault}
pub use Rattle.iim_pack_script.specs.Format.{CompletesPack, Asked, IsScriptOf, FailsToComplete, ScriptContent, asked}
pub use Rattle.iim_unpack.specs.States.Intakes.{input_of}
pub use Rattle.std.proofs.Common.{Err, IfErr, IfOk, List, None, Ok, OnErr, Option, Result, Some, [], ap, append-nil, append_assoc, arith, drop, false, inl, inr, length, length-append, refl, rules, subst, sym, take, true, ℕ, ℤ, ◌++◌, ◌+◌, ◌<◌, ◌∙◌, ◌∷◌, ◌≡◌, ◌≤◌, ◌⊎◌}
pub use Rattle.std.proofs.lemmas.List.{take-append-drop, take_all}
