-- The results of the parts of the parser, each starting after some lines; and texts of stories.
-- (Private to proofs.)
use Rattle.std.specs.Prelude.{◌≡◌, ℕ, ◌==◌, ◌||◌, Bool, List, length, ◌+◌, ◌⊎◌}
use Rattle.std.specs.List.{AllByRecursion}
use Rattle.iim_dataset.specs.Format.Octets.{lf}
use Rattle.wire_story.specs.Format.Texts.{is_line_octet, IsLine, IsText, packed_text}
use Rattle.iim_script.specs.{Format.Scripts.IsStory, Format.Scripts.NextLine, declared.fault.ScriptFault.ScriptFault}
use Rattle.iim_script.specs.Format.Causes.{Stage, IsNextBad, OutOfMemory, ScriptCause}
use Rattle.iim_fields.specs.declared.limits.Limits.{Limits}

-- The octet is allowed in a line, or is LF.
abbrev pub is_plain : ℕ → Bool
is_plain b = is_line_octet b || b == lf

-- The text has the lines of this story, and has `len` octets when it is packed.
pub record IsPackedTextOf (story text : List ℕ) (len : ℕ) : Type 0 where
  pub lines : List (List ℕ)
  pub is_story : IsStory story lines
  pub texts : AllByRecursion IsLine lines
  pub is_text : IsText text lines
  pub len_is : len ≡ length (packed_text lines)

-- the number of the line after the first `count` lines, or 0 for an allocation failure
abbrev pub number_after : ℕ → ScriptCause → ℕ
number_after count OutOfMemory = 0
number_after count cause = count + 1

-- The next line, if it is ended by an LF, satisfies the predicate.
abbrev pub NextLineIs : (List ℕ → Type 0) → List ℕ → Type 0
NextLineIs said rest = (line after : List ℕ) → NextLine rest line after → said line

-- The line after the first `count` lines is invalid in this state, or the allocation failed.
abbrev pub RejectsNextLine : Limits → Stage → List ℕ → ℕ → ScriptFault → Type 0
RejectsNextLine limits stage rest count fault =
    (fault.line ≡ number_after count fault.cause) × ((fault.cause ≡ OutOfMemory) ⊎ IsNextBad limits stage rest fault.cause)
