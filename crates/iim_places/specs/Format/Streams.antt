-- The result of a whole stream, and the envelopes at the start of an input.
use Rattle.std.specs.Prelude.{◌≡◌, ◌≢◌, ℕ, ◌<◌, ◌≤◌, List, length, take, slice_index, ◌+◌, min, true, false, [], ◌∷◌, Bool, ◌⊎◌, ◌++◌, map}
use Rattle.std.specs.List.{AllByRecursion}
use Rattle.iim_places.specs.Format.{Admitted.Value, Admitted.Admits, Admitted.AreWithinLimits, Causes.refusal_at}
use Rattle.iim_places.specs.Format.{Causes.TokenFault, Open.IsIncomplete, Open.RefusesNext, Open.IsTruncatedAt}
use Rattle.iim_places.specs.declared.refusal.{Refusal.Refusal, Cause.TheVariants.Message}
use Rattle.iim_dataset.specs.Format.Octets.{greatest_u64}
use Rattle.iim_fields.specs.declared.limits.Limits.{Limits}
use Rattle.wire_message.specs.declared.fault.MessageCause.TheVariants.{Sink}

-- The octets are an envelope with this value, within the limits.
pub record IsEnvelopeWithin (limits : Limits) (octets : List ℕ) (value : Value) : Type 0 where
  pub admits : Admits octets value
  pub within : AreWithinLimits limits admits.datasets

-- The octets are rejected, and not because the sink stopped.
pub record RefusesOctet (limits : Limits) (octets : List ℕ) (next : ℕ) (fault : TokenFault) : Type 0 where
  pub refuses : RefusesNext limits octets next fault
  pub by_octets : fault.cause ≢ Message Sink

-- the result: an envelope of `used` octets with this value; the refusal of an octet; or the refusal
-- of a truncated stream
pub data Answer : Type 0 where
  Finished : (used : ℕ) → (value : Value) → Answer
  Refused : (refusal : Refusal) → Answer
  Truncated : (refusal : Refusal) → Answer

-- The stream begins with an envelope of `used` octets.
pub record IsFinished (limits : Limits) (stream : List ℕ) (used : ℕ) (value : Value) : Type 0 where
  pub fits : used ≤ length stream
  pub envelope : IsEnvelopeWithin limits (take used stream) value

-- Every layer can continue after the octets before the reported one. With that octet the reported
-- layer cannot continue, or the sink stopped.
pub record IsRefused (limits : Limits) (stream : List ℕ) (e : Refusal) : Type 0 where
  pub fits : e.octet < length stream
  pub fault : TokenFault
  pub refusal : e ≡ refusal_at e.octet fault
  pub refuses : RefusesNext limits (take e.octet stream) (slice_index stream e.octet) fault

-- The whole stream is incomplete: every layer can continue after it, and it contains no complete
-- envelope.
pub record IsTruncated (limits : Limits) (stream : List ℕ) (e : Refusal) : Type 0 where
  pub is_open : IsIncomplete limits stream
  pub refusal : IsTruncatedAt stream (length stream) e

-- the result of the stream, if no sink stops
abbrev pub Answers : Limits → List ℕ → Answer → Type 0
Answers limits stream (Finished used value) = IsFinished limits stream used value
Answers limits stream (Refused e) = IsRefused limits stream e × (e.cause ≢ Message Sink)
Answers limits stream (Truncated e) = IsTruncated limits stream e

-- a count plus `n`, saturated at the greatest number of 64 bits
abbrev pub sum_capped : ℕ → ℕ → ℕ
sum_capped a n = min (a + n) greatest_u64

-- whether the list is non-empty
abbrev pub is_non_empty : List ℕ → Bool
is_non_empty [] = false
is_non_empty (x ∷ xs) = true

-- ---- The envelopes at the start of an input, and what follows them.

-- the maximum number of envelopes that are listed
abbrev pub max_envelopes : ℕ
max_envelopes = 1000000

-- an envelope of an input: its octets, and their value
pub record Listed : Type 0 where
  pub octets : List ℕ
  pub value : Value

-- The octets are an envelope with this value, within the limits.
abbrev pub IsListed : Limits → Listed → Type 0
IsListed limits e = IsEnvelopeWithin limits e.octets e.value

-- the values of envelopes, in their order
abbrev pub values_of : List Listed → List Value
values_of es = map (λ e. e.value) es

-- the octets of all envelopes, in their order
abbrev pub joined : List Listed → List ℕ
joined [] = []
joined (e ∷ es) = e.octets ++ joined es

-- The input is the concatenation of these envelopes and a rest, and the envelopes are at most
-- `max_envelopes`.
pub record SplitsInto (limits : Limits) (input : List ℕ) (envelopes : List Listed) (rest : List ℕ) : Type 0 where
  pub admitted : AllByRecursion (IsListed limits) envelopes
  pub parts : input ≡ joined envelopes ++ rest
  pub few : length envelopes ≤ max_envelopes

-- Every layer can continue after the first `k` octets, and they are not an envelope. The next octet
-- completes the first token after which some layer cannot continue. (Counts of octets saturate at
-- the greatest number of 64 bits.)
pub record RejectsNextAfter (limits : Limits) (rest : List ℕ) (k : ℕ) (e : Refusal) : Type 0 where
  pub within : k < length rest
  pub fault : TokenFault
  pub refusal : e ≡ refusal_at (sum_capped 0 k) fault
  pub kills : RefusesOctet limits (take k rest) (slice_index rest k) fault

-- The octets are non-empty and truncated: every layer can continue after them, and the input ends.
pub record EndsTruncated (limits : Limits) (rest : List ℕ) (e : Refusal) : Type 0 where
  pub some : rest ≢ []
  pub is_open : IsIncomplete limits rest
  pub truncated : IsTruncatedAt rest (sum_capped 0 (length rest)) e

-- The rest is rejected after its first `k` octets: by the next octet, or because the input ends.
abbrev pub IsRefusedAfter : Limits → List ℕ → ℕ → Refusal → Type 0
IsRefusedAfter limits rest k e = (EndsTruncated limits rest e × (k ≡ length rest)) ⊎ RejectsNextAfter limits rest k e

-- What follows the envelopes: the end of the input, rejected octets, or an envelope over the limit.
pub data InputEnding : Type 0 where
  Whole : InputEnding
  RefusedBy : Refusal → InputEnding
  TooMany : InputEnding

-- The octets after `count` envelopes have this ending.
abbrev pub HasEnd : Limits → ℕ → List ℕ → InputEnding → Type 0
HasEnd limits count rest Whole = rest ≡ []
HasEnd limits count rest (RefusedBy refusal) = (k : ℕ) × IsRefusedAfter limits rest k refusal
HasEnd limits count rest TooMany = (count ≡ max_envelopes) × (e : Listed) × IsListed limits e × (more : List ℕ) × (rest ≡ e.octets ++ more)

-- The listing of an input: the envelopes at its start, and what follows them.
pub record IsListing (limits : Limits) (input : List ℕ) (envelopes : List Listed) (ending : InputEnding) : Type 0 where
  pub rest : List ℕ
  pub divides : SplitsInto limits input envelopes rest
  pub ends : HasEnd limits (length envelopes) rest ending
