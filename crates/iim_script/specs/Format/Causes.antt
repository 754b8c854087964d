-- Why octets are not a script: the causes, and the first error.
use Rattle.std.specs.Prelude.{ℕ, List, codes, ◌≡◌, ◌+◌, ◌<◌, ◌≤◌, ◌⊎◌, [], ◌∷◌, ◌++◌, length, Some}
use Rattle.std.specs.List.{AllByRecursion}
use Rattle.iim_fields.specs.Format.Causes.{number_of_cause, name_of_cause}
use Rattle.iim_fields.specs.States.Standing.{added_field_fault, missing_field_fault}
use Rattle.iim_fields.specs.declared.{limits.Limits.Limits, fault.FieldCause.FieldCause, fault.FieldFault.FieldFault}
use Rattle.iim_dataset.specs.Format.{Octets.lf, Datasets.Dataset}
use Rattle.wire_message.specs.Format.Messages.{Header, IsTrailer}
use Rattle.wire_story.specs.Format.Texts.{IsLine}
use Rattle.iim_script.specs.Format.Scripts.{Lacks, NextLine, NextLines, DescribesField, DescribesHead, DescribesTrailer, text_word, DescribeFields, IsFront, max_script}
pub use Rattle.iim_script.specs.declared.fault.ScriptCause.{ScriptCause}
pub use Rattle.iim_script.specs.declared.fault.ScriptCause.TheVariants.{ScriptLine, ScriptTooLong, Field, BadTrailer, BadTextOctet, OutOfMemory}

abbrev pub script_cause_number : ScriptCause → ℕ
script_cause_number ScriptLine = 91
script_cause_number ScriptTooLong = 92
script_cause_number (Field cause) = number_of_cause cause
script_cause_number BadTrailer = 83
script_cause_number BadTextOctet = 82
script_cause_number OutOfMemory = 70

abbrev pub script_cause_name : ScriptCause → List ℕ
script_cause_name ScriptLine = codes "ScriptLine"
script_cause_name ScriptTooLong = codes "ScriptTooLong"
script_cause_name (Field cause) = name_of_cause cause
script_cause_name BadTrailer = codes "BadTrailer"
script_cause_name BadTextOctet = codes "BadTextOctet"
script_cause_name OutOfMemory = codes "OutOfMemory"

-- ---- Why octets are not a script: the first error, with the number of its line.

-- The state of a parser of scripts after some lines, with the contents of these lines: datasets;
-- then also the header; then also the trailer.
pub data Stage : Type 0 where
  InFields : List Dataset → Stage
  AfterMessage : List Dataset → Header → Stage
  AfterTrailer : List Dataset → Header → List ℕ → Stage

-- The lines are the beginning of a script, after which the parser is in this state.
abbrev pub ReachStage : Limits → List (List ℕ) → Stage → Type 0
ReachStage limits lines (InFields ds) = DescribeFields limits [] lines ds
ReachStage limits lines (AfterMessage ds head) =
    (fields : List (List ℕ)) × (message : List ℕ) × DescribeFields limits [] fields ds × DescribesHead message head × (lines ≡ fields ++ message ∷ [])
ReachStage limits lines (AfterTrailer ds head trailer) =
    (fields : List (List ℕ)) × (message : List ℕ) × (line : List ℕ) × DescribeFields limits [] fields ds × DescribesHead message head
    × DescribesTrailer line trailer × IsTrailer trailer × (lines ≡ fields ++ (message ∷ line ∷ []))

-- The octets begin with `count` lines, each with its line end, after which the parser is in this
-- state. `rest` are the octets after them.
pub record ReachesStage (limits : Limits) (octets : List ℕ) (stage : Stage) (rest : List ℕ) (count : ℕ) : Type 0 where
  pub lines : List (List ℕ)
  pub lined : NextLines octets lines rest
  pub count_is : count ≡ length lines
  pub come : ReachStage limits lines stage

-- The line does not have this form.
abbrev pub HasNoForm : {A : Type 0} → (List ℕ → A → Type 0) → List ℕ → Type 0
HasNoForm {A} tells line = (told : A) → tells line told → ⊥

-- The line is `text`, but the datasets are not a complete envelope, for this cause.
abbrev pub IsIncompleteEnvelope : List Dataset → List ℕ → FieldCause → Type 0
IsIncompleteEnvelope ds line cause = (fault : FieldFault) × (line ≡ text_word) × (missing_field_fault ds ≡ Some fault) × (cause ≡ fault.cause)

-- The error of a line in this state. 91 ScriptLine: the line has none of the forms that are allowed
-- here. Otherwise it specifies a dataset that the builder rejects, with this cause; or it is
-- `text`, and a dataset is missing; or its octets are not a valid trailer, 83 BadTrailer.
abbrev pub IsBadLine : Limits → Stage → List ℕ → ScriptCause → Type 0
IsBadLine limits (InFields ds) line ScriptLine = HasNoForm DescribesField line × HasNoForm DescribesHead line
IsBadLine limits (InFields ds) line (Field cause) =
    (d : Dataset) × (fault : FieldFault) × DescribesField line d × (added_field_fault limits ds d ≡ Some fault) × (cause ≡ fault.cause)
IsBadLine limits (AfterMessage ds head) line ScriptLine = HasNoForm DescribesTrailer line × (line ≡ text_word → ⊥)
IsBadLine limits (AfterMessage ds head) line (Field cause) = IsIncompleteEnvelope ds line cause
IsBadLine limits (AfterMessage ds head) line BadTrailer = (octets : List ℕ) × DescribesTrailer line octets × (IsTrailer octets → ⊥)
IsBadLine limits (AfterTrailer ds head trailer) line ScriptLine = line ≡ text_word → ⊥
IsBadLine limits (AfterTrailer ds head trailer) line (Field cause) = IsIncompleteEnvelope ds line cause
IsBadLine limits stage line cause = ⊥

-- The next line before the story is invalid. If no LF ends it, as at the end of the octets, the
-- cause is 91 ScriptLine.
abbrev pub IsNextBad : Limits → Stage → List ℕ → ScriptCause → Type 0
IsNextBad limits stage rest cause =
    (Lacks lf rest × (cause ≡ ScriptLine)) ⊎ ((line : List ℕ) × (after : List ℕ) × NextLine rest line after × IsBadLine limits stage line cause)

-- A line of the story, with or without its line end, has an octet that is not allowed in a line,
-- and no line before it has one. The number of the line `text` is `text_line`.
pub record IsBadStory (story : List ℕ) (text_line number : ℕ) : Type 0 where
  pub before : List (List ℕ)
  pub rest : List ℕ
  pub line : List ℕ
  pub lined : NextLines story before rest
  pub is_there : ((after : List ℕ) × NextLine rest line after) ⊎ (Lacks lf rest × (line ≡ rest))
  pub texts : AllByRecursion IsLine before
  pub bad : IsLine line → ⊥
  pub number_is : number ≡ text_line + length before + 1

-- The lines before the story are those of a script, and the line of the story with this number is
-- the first invalid one.
pub record IsStoryFault (limits : Limits) (octets : List ℕ) (number : ℕ) : Type 0 where
  pub story : List ℕ
  pub fields : List Dataset
  pub head : Header
  pub trailer : List ℕ
  pub text_line : ℕ
  pub is_front : IsFront limits octets fields head trailer text_line story
  pub is_bad : IsBadStory story text_line number

-- Why octets are not a script: they are too many (line 0); otherwise the first invalid line and its
-- cause, in the story or after `count` lines before it. An allocation may always fail (line 0).
abbrev pub IsScriptFault : Limits → List ℕ → ℕ → ScriptCause → Type 0
IsScriptFault limits octets number ScriptTooLong = (max_script < length octets) × (number ≡ 0)
IsScriptFault limits octets number OutOfMemory = (length octets ≤ max_script) × (number ≡ 0)
IsScriptFault limits octets number BadTextOctet = (length octets ≤ max_script) × IsStoryFault limits octets number
IsScriptFault limits octets number cause = (length octets ≤ max_script) × (stage : Stage) × (rest : List ℕ) × (count : ℕ)
    × ReachesStage limits octets stage rest count × (number ≡ count + 1) × IsNextBad limits stage rest cause
