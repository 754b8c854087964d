-- The output of `show` and `story` for an envelope makes a script of it.
use Rattle.std.specs.Prelude.{◌≡◌, ℕ, ◌+◌, ◌≤◌, List, ◌++◌, length, codes}
use Rattle.iim_script.specs.Format.{Causes.IsScriptFault, Scripts.max_script}
use Rattle.iim_script.specs.declared.fault.ScriptCause.{ScriptCause, TheVariants.OutOfMemory}
use Rattle.iim_places.specs.Format.{Admitted.Value, Streams.Listed, Streams.IsListed}
use Rattle.iim_output.specs.Format.{limits}
use Rattle.iim_listing.specs.Format.{story_of, number_line, sizes_line, show_text_of}
use Rattle.iim_pack_script.specs.Format.{ScriptContent, IsScriptOf}

-- the contents of a script with these values, in which each dataset, the header and the trailer has
-- one line
abbrev pub script_content_of : Value → ScriptContent
script_content_of v = record { fields = v.fields; head = v.head; trailer = v.trailer; lines = v.lines; text_line = length v.fields + 3 }

-- The octets are a script with these contents, and with no others. The only possible error is a
-- failed allocation.
pub record SpecifiesOnly (script : List ℕ) (t : ScriptContent) : Type 0 where
  pub told : IsScriptOf script t
  pub only : (other : ScriptContent) → IsScriptOf script other → other ≡ t
  pub sound : (line : ℕ) (cause : ScriptCause) → IsScriptFault limits script line cause → cause ≡ OutOfMemory

-- The output of `show` for an envelope is its first line, other lines, and the line of its sizes.
-- These other lines, the line `text`, and the output of `story` for the envelope are together a
-- script that specifies exactly the values of the envelope, unless they are too long for a script.
abbrev pub ShownEnvelopesAreScripts : Type 0
ShownEnvelopesAreScripts = (number : ℕ) (e : Listed) → IsListed limits e → (lines : List ℕ) × (show_text_of number e ≡ number_line number ++ (lines ++ sizes_line e.value.sizes))
    × (length (lines ++ (codes "text\n" ++ story_of number e)) ≤ max_script → SpecifiesOnly (lines ++ (codes "text\n" ++ story_of number e)) (script_content_of e.value))
