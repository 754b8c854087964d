-- Statements of the lemmas about the lines of scripts, and about scripts.
use Rattle.std.specs.Prelude.{◌≡◌, ◌⊎◌, ℕ, ◌+◌, ◌<◌, ◌≤◌, List, length}
use Rattle.std.specs.List.{AllByRecursion}
use Rattle.iim_dataset.specs.Format.Datasets.{Dataset}
use Rattle.iim_fields.specs.Format.Records.{IsEnvelope, IsWithin}
use Rattle.iim_fields.specs.{Format.Causes.joined, declared.limits.Limits.Limits}
use Rattle.wire_message.specs.Format.Messages.{Header, IsHeader, IsTrailer}
use Rattle.wire_story.specs.Format.Texts.{IsLine}
use Rattle.iim_script.specs.Format.Scripts.{NextLine, DescribesField, DescribesHead, DescribesTrailer, text_word, PrintsStory, script_of, IsScript, max_script}
use Rattle.iim_script.specs.Format.Causes.{IsScriptFault, OutOfMemory, ScriptCause}

-- Octets have at most one next line and one rest after it.
abbrev pub OctetsHaveOneNextLine : Type 0
OctetsHaveOneNextLine = (octets line after other more : List ℕ) → NextLine octets line after → NextLine octets other more → (line ≡ other) × (after ≡ more)

-- A line specifies at most one dataset, at most one header and at most one trailer.
abbrev pub LinesAreUnambiguous : Type 0
LinesAreUnambiguous =
    ((line : List ℕ) (d e : Dataset) → DescribesField line d → DescribesField line e → d ≡ e)
    × ((line : List ℕ) (head other : Header) → DescribesHead line head → DescribesHead line other → head ≡ other)
    × ((line octets other : List ℕ) → DescribesTrailer line octets → DescribesTrailer line other → octets ≡ other)

-- No line has two of the forms that are allowed in the same state.
abbrev pub FormsExcludeOneAnother : Type 0
FormsExcludeOneAnother =
    ((line : List ℕ) (d : Dataset) (head : Header) → DescribesField line d → DescribesHead line head → ⊥)
    × ((octets : List ℕ) → DescribesTrailer text_word octets → ⊥)

-- A script has unique contents: one list of datasets, one header, one trailer, one list of lines,
-- and one number of the line `text`.
abbrev pub ScriptsAreUnambiguous : Type 0
ScriptsAreUnambiguous = (limits : Limits) (octets : List ℕ) (fields others : List Dataset) (head other : Header) (trailer end : List ℕ) (lines more : List (List ℕ)) (n m : ℕ)
    → IsScript limits octets fields head trailer lines n → IsScript limits octets others other end more m
    → (fields ≡ others) × (head ≡ other) × (trailer ≡ end) × (lines ≡ more) × (n ≡ m)

-- A script has no error: none of its lines is invalid, and it is not too long. Only an allocation
-- may fail.
abbrev pub ScriptsHaveNoFault : Type 0
ScriptsHaveNoFault = (limits : Limits) (octets : List ℕ) (fields : List Dataset) (head : Header) (trailer : List ℕ) (lines : List (List ℕ)) (text_line number : ℕ) (cause : ScriptCause)
    → IsScript limits octets fields head trailer lines text_line → IsScriptFault limits octets number cause → cause ≡ OutOfMemory

-- Octets have at most one error: one line and one cause. In addition, an allocation may fail.
abbrev pub OctetsHaveOneFault : Type 0
OctetsHaveOneFault = (limits : Limits) (octets : List ℕ) (n m : ℕ) (a b : ScriptCause) → IsScriptFault limits octets n a → IsScriptFault limits octets m b
    → (a ≡ OutOfMemory) ⊎ ((b ≡ OutOfMemory) ⊎ ((n ≡ m) × (a ≡ b)))

-- The printed datasets of an envelope within the limits, with a header and a trailer, followed by
-- the line `text` and the lines of a story, are a script with exactly these contents, if it is not
-- too long.
abbrev pub PrintedValuesAreScripts : Type 0
PrintedValuesAreScripts = (limits : Limits) (fields : List Dataset) (head : Header) (trailer : List ℕ) (lines : List (List ℕ)) (story : List ℕ)
    → IsEnvelope fields → IsWithin limits (length (joined fields)) (length fields) → IsHeader head → IsTrailer trailer
    → 0 < length lines → AllByRecursion IsLine lines → PrintsStory story lines → length (script_of fields head trailer story) ≤ max_script
    → IsScript limits (script_of fields head trailer story) fields head trailer lines (length fields + 3)

-- The lemmas about scripts, with a field for each.
pub record ScriptLaws : Type 0 where
  -- lemmas about lines:
  pub octets_have_one_next_line : OctetsHaveOneNextLine
  pub lines_are_unambiguous : LinesAreUnambiguous
  pub forms_exclude_one_another : FormsExcludeOneAnother
  -- lemmas about scripts:
  pub scripts_are_unambiguous : ScriptsAreUnambiguous
  pub scripts_have_no_fault : ScriptsHaveNoFault
  pub octets_have_one_fault : OctetsHaveOneFault
  pub printed_values_are_scripts : PrintedValuesAreScripts
