-- Unpacking what was packed, and the result for any other stream.
use Rattle.std.specs.Prelude.{ℕ, List, ◌≡◌, ◌++◌, length, ◌≢◌, Result, Ok, Err}
pub use Rattle.iim_dataset.specs.Format.Datasets.{Dataset}
use Rattle.iim_object.specs.Format.Packing.{packed_sizes}
pub use Rattle.wire_message.specs.Format.Messages.{Header}
use Rattle.wire_message.specs.{Format.Messages.canonical, declared.fault.MessageCause.TheVariants.Sink}
pub use Rattle.iim_places.specs.Format.Admitted.{Value}
use Rattle.iim_fields.specs.Format.{Causes.joined, Records.IsWithin}
use Rattle.wire_story.specs.Format.Texts as story
pub use Rattle.iim_pack.specs.Format.Packed.{Packed}
use Rattle.iim_unpack.specs.Format.Pieces.{HasParts}
use Rattle.iim_dataset.specs.Format.Octets.{CounterRose}
use Rattle.iim_unpack.specs.Format.Pieces as pieces
use Rattle.iim_places.specs.{Format.Streams.Answer, declared.refusal.Cause.TheVariants.Message}
pub use Rattle.iim_object.specs.declared.plan.Plan.{Plan}
pub use Rattle.iim_fields.specs.declared.limits.Limits.{Limits}
pub use Rattle.iim_unpack.specs.declared.unpacker.Unpacked.{Unpacked}
pub use Rattle.iim_round_trip.specs.declared.unpacking.UnpackFault.{UnpackFault}
pub use Rattle.iim_round_trip.specs.declared.unpacking.UnpackFault.TheVariants.{OutOfMemory, Refused}

-- The fields are within the limits on octets and on datasets.
abbrev pub FieldsAreWithinLimits : Limits → List Dataset → Type 0
FieldsAreWithinLimits limits fields = IsWithin limits (length (joined fields)) (length fields)

-- The stream begins with the packed form of these fields, header, lines and trailer, within the
-- limits. Anything may follow.
pub record BeginsWithPacked (limits : Limits) (stream : List ℕ) : Type 0 where
  pub fields : List Dataset
  pub head : Header
  pub lines : List (List ℕ)
  pub trailer : List ℕ
  pub plan : Plan
  pub octets : List ℕ
  pub packed : Packed fields head lines trailer plan octets
  pub within : FieldsAreWithinLimits limits fields
  pub rest : List ℕ
  pub parts : stream ≡ octets ++ rest

-- ---- an unpacked stream

-- the value that was packed, if the object is in these subfiles
abbrev pub packed_value : List Dataset → Header → List (List ℕ) → List ℕ → Plan → List (List ℕ) → Value
packed_value fields head lines trailer plan parts =
    let sizes = packed_sizes plan.subfile plan.size (canonical head lines trailer) parts in
    record { fields = fields; head = head; lines = lines; trailer = trailer; sizes = sizes }

-- If the stream begins with a packed form within the limits, then exactly the octets of that form
-- are consumed; the envelope, the header, the trailer and the sizes are those that were packed; and
-- the sink received the lines.
abbrev pub UnpacksPacked : {S : Type 0} → (S → List story.StoryEvent → S → Type 0) → Limits → List ℕ → S → S → Unpacked → ℕ → Type 0
UnpacksPacked goes limits stream a b got used = (p : BeginsWithPacked limits stream) → (used ≡ length p.octets)
    × HasParts got (packed_value p.fields p.head p.lines p.trailer p.plan p.packed.written.parts) × goes a (story.events_of_lines p.lines) b

-- The stream is not the cause of the error: the allocation for the unpacker failed, or the sink
-- stopped.
abbrev pub IsNotFromStream : UnpackFault → Type 0
IsNotFromStream OutOfMemory = Unit {0}
IsNotFromStream (Refused e) = e.cause ≡ Message Sink

-- Why no envelope is returned. If the allocation for the unpacker failed, the sink received
-- nothing. Otherwise the stream does not begin with an envelope, because an octet is rejected or
-- the stream is truncated; or the sink stopped.
abbrev pub IsRejectedUnpacking : {S : Type 0} → (S → List story.StoryEvent → S → Type 0) → Limits → List ℕ → S → S → UnpackFault → Type 0
IsRejectedUnpacking goes limits stream a b OutOfMemory = b ≡ a
IsRejectedUnpacking goes limits stream a b (Refused e) = pieces.IsRejected goes limits stream a b e

-- The returned value represents the result of the stream.
abbrev pub RepresentsUnpackResult : Result (Unpacked × ℕ) UnpackFault → Answer → Type 0
RepresentsUnpackResult (Ok got) answer = pieces.RepresentsResult (Ok got) answer
RepresentsUnpackResult (Err OutOfMemory) answer = ⊥
RepresentsUnpackResult (Err (Refused e)) answer = pieces.RepresentsResult (Err e) answer

-- The sink's count of failures increased if and only if the sink caused the error.
abbrev pub CountsFailureOfSink : UnpackFault → ℕ → ℕ → Type 0
CountsFailureOfSink OutOfMemory old new = new ≡ old
CountsFailureOfSink (Refused e) old new = (e.cause ≡ Message Sink → CounterRose old new) × (e.cause ≢ Message Sink → new ≡ old)
