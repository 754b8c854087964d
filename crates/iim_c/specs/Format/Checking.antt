-- The result of checking octets in memory.
use Rattle.std.specs.Prelude.{◌≡◌, ℕ, ◌==◌, ◌⊎◌, if◌then◌else◌, List}
use Rattle.iim_fields.specs.{Format.Records.wire_limits, declared.limits.Limits.Limits}
use Rattle.iim_places.specs.Format.Streams.{Answer, Finished, Refused, Truncated, Answers}
use Rattle.iim_c.specs.declared.limits.IimLimits.{IimLimits}
use Rattle.iim_c.specs.Format.Answers.{status_answer, refusal_answer, IimAnswer}
use Rattle.iim_c.specs.Format.Statuses as status

-- `given`, or `other` if that is 0
abbrev pub given_or : ℕ → ℕ → ℕ
given_or given other = if given == 0 then other else given

-- the limits, in which each 0 is replaced by the limit of wire copy
abbrev pub limits_for : IimLimits → Limits
limits_for limits = record { octets = given_or limits.octets wire_limits.octets; fields = given_or limits.fields wire_limits.fields }

-- converts the result of a stream to the answer of a call
abbrev pub answer_for : Answer → IimAnswer
answer_for (Finished used value) = record (status_answer status.done) { octet = used; used = used }
answer_for (Refused e) = refusal_answer status.refused e
answer_for (Truncated e) = refusal_answer status.truncated e

-- The answer has the result of the stream, or an allocation failed.
abbrev pub ReturnsChecked : Limits → List ℕ → IimAnswer → Type 0
ReturnsChecked limits octets told = ((answer : Answer) × Answers limits octets answer × (told ≡ answer_for answer)) ⊎ (told ≡ status_answer status.no_memory)

-- No other answer is possible for these octets, unless an allocation fails.
abbrev pub IsOnlyAnswer : Limits → List ℕ → IimAnswer → Type 0
IsOnlyAnswer limits octets told = (answer : Answer) → Answers limits octets answer → (told ≡ answer_for answer) ⊎ (told ≡ status_answer status.no_memory)
