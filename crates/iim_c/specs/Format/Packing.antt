-- The result of packing a script.
use Rattle.std.specs.Prelude.{◌≡◌, ℕ, ◌<◌, ◌≤◌, ◌⊎◌, true, false, IsTrue, if◌then◌else◌, List, [], ◌++◌, length, drop, Some, None}
use Rattle.iim_object.specs.{Format.Objects.is_plan, declared.size.Size.TheVariants.Unknown}
use Rattle.iim_pack_script.specs.Format.{Asked, asked, IsRequestedForm, IsScriptRefusal, IsScriptOf, ScriptContent, refusal_line}
use Rattle.iim_request.specs.Format.{default_subfile}
use Rattle.iim_c.specs.{declared.packing.IimPacking.IimPacking, Format.Checking.given_or}
use Rattle.iim_c.specs.Format.Answers.{status_answer, IimAnswer}
use Rattle.iim_c.specs.Format.Statuses as status

-- the options in the form of the command, where `subfile = 0` selects 1,024
abbrev pub asked_for : IimPacking → Asked
asked_for p = asked (given_or p.subfile default_subfile) p.unknown (if p.has_max then Some p.max else None)

-- The options are invalid: a maximum is given for a known size, or no plan has these numbers.
abbrev pub AreInvalidOptions : IimPacking → Type 0
AreInvalidOptions p = ((p.has_max ≡ true) × (p.unknown ≡ false)) ⊎ (IsTrue (is_plan (asked_for p).subfile (Unknown (asked_for p).max)) → ⊥)

-- The options are valid.
abbrev pub AreValidOptions : IimPacking → Type 0
AreValidOptions p = AreInvalidOptions p → ⊥

-- the packed form; or the line that is rejected and the cause; or invalid options; or a failed
-- allocation
pub data PackOutcome : Type 0 where
  Packed : (form : List ℕ) → PackOutcome
  Refused : (line cause : ℕ) → PackOutcome
  BadPacking : PackOutcome
  NoMemory : PackOutcome

-- The octets are a script, and this is the packed form under the options; or the command rejects
-- them with this line and this cause. If the options are invalid, this is the only outcome, for
-- every script.
abbrev pub IsPackOutcome : IimPacking → List ℕ → PackOutcome → Type 0
IsPackOutcome p octets (Packed form) = AreValidOptions p × ((t : ScriptContent) × IsScriptOf octets t × IsRequestedForm (asked_for p) t form)
IsPackOutcome p octets (Refused line cause) = AreValidOptions p × ((name : List ℕ) × IsScriptRefusal (asked_for p) octets (refusal_line line cause name))
IsPackOutcome p octets BadPacking = AreInvalidOptions p
IsPackOutcome p octets NoMemory = AreValidOptions p

-- the answer for an outcome
abbrev pub pack_answer : PackOutcome → IimAnswer
pack_answer (Packed form) = record (status_answer status.done) { written = length form }
pack_answer (Refused line cause) = record (status_answer status.refused) { octet = line; cause = cause }
pack_answer BadPacking = status_answer status.bad_packing
pack_answer NoMemory = status_answer status.no_memory

-- the octets that are written for an outcome
abbrev pub form_of : PackOutcome → List ℕ
form_of (Packed form) = form
form_of _ = []

-- The answer has the length of the packed form, or the reason why there is none.
abbrev pub ReturnsPackedSize : IimPacking → List ℕ → IimAnswer → Type 0
ReturnsPackedSize p octets told = (o : PackOutcome) × IsPackOutcome p octets o × (told ≡ pack_answer o)

-- The buffer begins with the packed form, and the rest is unchanged; or the packed form does not
-- fit, and the whole buffer is unchanged.
abbrev pub ReturnsPacked : IimPacking → List ℕ → List ℕ → List ℕ → IimAnswer → Type 0
ReturnsPacked p octets old new told = (o : PackOutcome) × IsPackOutcome p octets o
    × (((length (form_of o) ≤ length old) × (new ≡ form_of o ++ drop (length (form_of o)) old) × (told ≡ pack_answer o))
    ⊎ ((length old < length (form_of o)) × (new ≡ old) × (told ≡ record (status_answer status.short) { written = length (form_of o) })))
