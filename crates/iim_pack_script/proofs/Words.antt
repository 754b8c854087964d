-- Names that several proofs use, re-exported from one module.
pub use Rattle.iim_dataset.specs.States.Devices.{WriteAccepted, WriteFailedAfter, CountedNoFault, CountedFailure, Device, CountedFault, ReadsGave, WroteOnlyPrefixOf, WroteAllOf}
pub use Rattle.iim_object.specs.States.Writing.{IsPrefix, plan_bound, total_of}
pub use Rattle.iim_pack.proofs.Goings.{of_none}
pub use Rattle.iim_pack.proofs.LinesOut.{breaks_before, breaks_later, goes_nowhere, leads_on, may_end_line, may_text}
pub use Rattle.iim_pack.specs.States.Packing.{BreaksOff, ContinuesWith, Lengthens, finish_cause, line_end_cause, pack_cause, start_cause, text_cause}
pub use Rattle.iim_pack_script.specs.Steps.{IsFresh, block_device, buffer_of, octets_from, IsFaultFor, IsFailedRead, IsFaultOfScript, content_of}
pub use Rattle.iim_pack_script.specs.Format.{CompletesPack, Asked, BreaksOffPacking, FailsToPack, WritesForm, IsPast, IsRequestedPlan, IsReadInput, IsScriptOf, IsScriptRefusal, FailsToComplete, FailsToRead, ScriptContent, asked, object_of, refusal_line}
pub use Rattle.iim_script.specs.Format.Scripts.{max_script, text_lines}
pub use Rattle.std.proofs.Common.{Bool, Err, IfErr, IfOk, IsTrue, List, None, Ok, Option, Result, Some, [], ap, append-nil, append_assoc, arith, cond, drop, false, inl, inr, length, length-append, length-drop, length-take, map, min, nat_le, refl, rules, subst, sym, take, take-append-drop, true, ℕ, ◌++◌, ◌+◌, ◌-◌, ◌<◌, ◌∙◌, ◌∷◌, ◌≡◌, ◌≤◌, ◌⊎◌}
pub use Rattle.std.proofs.lemmas.Result.{IfErr-weaker, IfOk-weaker, on_err_weaker, on_ok_weaker}
pub use Rattle.wire_story.proofs.PackedEvents.{events_append, line_packed}
pub use Rattle.wire_story.specs.Format.Texts.{LineEnd, LineOctet, StoryEvent, events_of_lines, IsLine, IsText}
