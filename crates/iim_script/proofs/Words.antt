-- Names that several proofs use, re-exported from one module.
pub use Rattle.iim_dataset.proofs.Each.{all_append, all_front, all_last}
pub use Rattle.iim_dataset.specs.Format.Datasets.{Dataset, shown, shown_octet}
pub use Rattle.iim_dataset.specs.Format.Octets.{is_digit, is_letter}
pub use Rattle.iim_fields.specs.States.Standing.{BuilderView, added_field_fault, missing_field_fault}
pub use Rattle.iim_fields.specs.States.Walks.{rest_of}
pub use Rattle.iim_fields.specs.declared.limits.Limits.{Limits}
pub use Rattle.iim_script.specs.Format.Causes.{AfterMessage, AfterTrailer, BadTrailer, Field, ReachStage, InFields, IsNextBad, IsScriptFault, OutOfMemory, ScriptCause, ScriptLine, Stage, ReachesStage, HasNoForm}
pub use Rattle.iim_script.specs.Format.Scripts.{AreFieldsOf, DescribesField, DescribesHead, EncodesNumber, DescribesTrailer, head_words, text_word, Lacks, NextLine, NextLines, WithoutLast, field_line, message_line, trailer_line, DescribeFields, DescribeTrailer, IsFront, IsScript, IsStory, max_script, IsHexDigit, EndsWith, EncodesOctets}
pub use Rattle.iim_script.specs.Steps.{IsPackedTextOf}
pub use Rattle.std.proofs.Common.{Bool, Bor, IfNone, IfSome, IsTrue, List, None, Option, Some, [], ap, append_assoc, arith, cond, count_by, drop, false, get_or, inl, inr, length, length-append, map, nat_eq, nat_le, nat_lt, not, refl, rules, subst, suc, sym, take, true, w8, zero, ℕ, ◌%◌, ◌&&◌, ◌*◌, ◌++◌, ◌+◌, ◌-◌, ◌/◌, ◌<◌, ◌==◌, ◌∙◌, ◌∷◌, ◌≡◌, ◌≤◌, ◌⊎◌}
pub use Rattle.std.proofs.Math.Numerals.{one-add}
pub use Rattle.std.proofs.lemmas.Bool.{and_from, and_parts, eq-eqb, eqb-true, false_from_ne_true, false≢true}
pub use Rattle.std.proofs.lemmas.Bool.Decides.{Decides-eqb, nat_tests}
pub use Rattle.std.proofs.lemmas.List.{length-take-le, take-append-drop, take_rest}
pub use Rattle.std.proofs.lemmas.List.Sums.{position_or_len_is}
pub use Rattle.std.proofs.lemmas.Simd.{bitmask_splat}
pub use Rattle.std.proofs.lemmas.Slice.Eq.{strip_suffix_is}
pub use Rattle.std.specs.List.{AllByRecursion, flat_map, list_all, position_or_len}
pub use Rattle.wire_message.specs.Format.Messages.{is_alphanumeric, Header, IsHeader}
pub use Rattle.wire_story.specs.Format.Texts.{IsLine, IsText, is_line_octet}
