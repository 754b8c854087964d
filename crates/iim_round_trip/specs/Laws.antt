-- Statements of the lemmas about packed octets and their unpacking.
use Rattle.std.specs.Prelude.{◌≡◌, ℕ, List, ◌++◌, length}
use Rattle.iim_places.specs.Format.Admitted.{Value, Admits}
use Rattle.iim_round_trip.specs.Format.RoundTrip.{packed_value, FieldsAreWithinLimits, BeginsWithPacked, Dataset, Plan, Header, Packed, Limits}
use Rattle.iim_places.specs.Format.Streams.{IsEnvelopeWithin, Answer, Answers, Finished}

-- Packed octets are a valid envelope, with the value that was packed and the sizes of the plan.
abbrev pub PackedOctetsAreValid : Type 0
PackedOctetsAreValid = (fields : List Dataset) (head : Header) (lines : List (List ℕ)) (trailer : List ℕ) (plan : Plan) (octets : List ℕ)
    → (p : Packed fields head lines trailer plan octets) → Admits octets (packed_value fields head lines trailer plan p.written.parts)

-- A stream that begins with packed octets begins with exactly one valid envelope, which consists of
-- these octets and has the value that was packed.
abbrev pub PackedEnvelopeIsFoundInStream : Type 0
PackedEnvelopeIsFoundInStream = (fields : List Dataset) (head : Header) (lines : List (List ℕ)) (trailer : List ℕ) (plan : Plan) (octets : List ℕ)
    → (p : Packed fields head lines trailer plan octets) (front rest more : List ℕ) (v : Value) → Admits front v → front ++ rest ≡ octets ++ more
    → (front ≡ octets) × (v ≡ packed_value fields head lines trailer plan p.written.parts)

-- Packed octets are an envelope within the limits if their fields are within these limits.
abbrev pub PackedOctetsAreWithinLimits : Type 0
PackedOctetsAreWithinLimits = (limits : Limits) (fields : List Dataset) (head : Header) (lines : List (List ℕ)) (trailer : List ℕ) (plan : Plan) (octets : List ℕ)
    → (p : Packed fields head lines trailer plan octets) → FieldsAreWithinLimits limits fields
    → IsEnvelopeWithin limits octets (packed_value fields head lines trailer plan p.written.parts)

-- The result of a stream that begins with packed octets: an envelope of exactly these octets, with
-- the value that was packed.
abbrev pub packed_result : {limits : Limits} → {stream : List ℕ} → BeginsWithPacked limits stream → Answer
packed_result p = Finished (length p.octets) (packed_value p.fields p.head p.lines p.trailer p.plan p.packed.written.parts)

-- A stream that begins with packed octets has this result, and no other.
abbrev pub PackedStreamHasOneResult : Type 0
PackedStreamHasOneResult = (limits : Limits) (stream : List ℕ) (p : BeginsWithPacked limits stream)
    → Answers limits stream (packed_result p) × ((other : Answer) → Answers limits stream other → other ≡ packed_result p)
