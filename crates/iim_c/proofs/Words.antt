-- The names that several proofs import, re-exported from one module.
pub use Rattle.iim_audit.specs.Format.{AuditHasConsumed}
pub use Rattle.iim_audit.specs.declared.pieces.PieceAudit.{PieceAudit}
pub use Rattle.iim_c.specs.Format.Answers.{refusal_answer, status_answer}
pub use Rattle.iim_c.specs.Format.Auditing.{CurrentEnvelope, with_more}
pub use Rattle.iim_c.specs.Format.Tickets.{HasProgressOf, HasOctetsAt}
pub use Rattle.iim_c.specs.Format.Chunks.{HasFedText, HasRefusedText}
pub use Rattle.iim_c.specs.Steps.{HasFound, IsSet}
pub use Rattle.iim_c.specs.declared.begun.IimBegun.{IimBegun}
pub use Rattle.iim_c.specs.declared.finding.Found.{Found}
pub use Rattle.iim_c.specs.declared.row.IimAuditRow.{IimAuditRow}
pub use Rattle.iim_dataset.specs.Format.Datasets.{Dataset, count_octets, InData, InTag, ReadsAsDatasets}
pub use Rattle.iim_dataset.specs.Laws.{DatasetLaws}
pub use Rattle.iim_dataset.specs.declared.head.Head.{Head}
pub use Rattle.iim_fields.specs.declared.limits.Limits.{Limits}
pub use Rattle.iim_places.specs.Format.Open.{IsIncomplete, IsTextOf, IsTruncatedAt, object_so_far}
pub use Rattle.iim_places.specs.Format.TicketForm.{Contents, HasContents}
pub use Rattle.iim_places.specs.Format.Tickets.{AllEnded, PartialData, ReachesPlace, IsTicketOf, Phase, Place, PartialTag, fields_octets, four, number_octets, phase_octets, text_octets, ticket_header, wide}
pub use Rattle.iim_places.specs.Laws.{PlaceLaws}
pub use Rattle.iim_places.specs.Format.Streams.{sum_capped}
pub use Rattle.iim_places.specs.States.Restored.{EncodesPlace, contents_from}
pub use Rattle.iim_places.specs.declared.refusal.Cause.{Cause}
pub use Rattle.iim_places.specs.declared.refusal.Cause.TheVariants.{Message}
pub use Rattle.iim_places.specs.declared.refusal.Refusal.{Refusal}
pub use Rattle.iim_places.specs.declared.ticket.fault.TicketFault.{TicketFault}
pub use Rattle.iim_unpack.specs.States.Unpacking.{CountsSinkFailure, Progresses, IsDone, IsDoneWith, IsRefusedIn, HasRead, Unpacking, limits_in}
pub use Rattle.iim_unpack.specs.declared.unpacker.Progress.{Progress}
pub use Rattle.std.proofs.Common.{Bool, List, None, Some, [], ap, append-nil, append_assoc, arith, drop, false, get_or, if◌then◌else◌, inl, inr, length, length-append, length-drop, map, refl, set, subst, sym, take, true, ℕ, ℤ, ◌++◌, ◌+◌, ◌-◌, ◌<◌, ◌==◌, ◌^◌, ◌∙◌, ◌∷◌, ◌≡◌, ◌≢◌, ◌≤◌, ◌⊎◌}
pub use Rattle.std.proofs.lemmas.Bool.{cases_eq, eqb-true}
pub use Rattle.std.proofs.lemmas.List.{drop-drop, drop_at, length-map, length-take, length-take-le}
pub use Rattle.std.specs.List.{flat_map}
pub use Rattle.wire_message.specs.Format.Messages.{text_so_far}
pub use Rattle.wire_message.specs.declared.fault.MessageCause.TheVariants.{Sink}
pub use Rattle.wire_story.specs.Format.Texts.{StoryEvent}
