-- The result of a stream that is split into chunks, and the returned value.
use Rattle.std.specs.Prelude.{◌≡◌, ℕ, ◌⊎◌, List, [], take, flat_map, Result, Ok, Err}
use Rattle.std.specs.Borrow.{Bor}
use Rattle.iim_places.specs.{Format.Admitted.Value, Format.Open.Delivers, declared.refusal.Refusal.Refusal}
use Rattle.iim_places.specs.Format.Streams.{Answer, Finished, Refused, Truncated, IsFinished, IsRefused, IsTruncated}
use Rattle.wire_story.specs.Format.Texts as story
pub use Rattle.iim_unpack.specs.declared.unpacker.Unpacked.{Unpacked}
use Rattle.iim_unpack.specs.declared.unpacker.UnpackedRef.{UnpackedRef}
use Rattle.iim_fields.specs.declared.limits.Limits.{Limits}

-- The returned value has the parts of the value, except the lines.
pub record HasParts (got : Unpacked) (v : Value) : Type 0 where
  pub fields : got.envelope ≡ v.fields
  pub head : got.head ≡ v.head
  pub trailer : got.trailer.items ≡ v.trailer
  pub sizes : got.sizes ≡ v.sizes

-- The borrowed value has the parts of the value, except the lines.
pub record HasBorrowedParts (got : UnpackedRef) (v : Value) : Type 0 where
  pub fields : got.envelope ≡ v.fields
  pub head : got.head.now ≡ v.head
  pub trailer : got.trailer.now ≡ v.trailer
  pub sizes : got.sizes ≡ v.sizes

-- the stream that these chunks form, which is their concatenation
abbrev pub stream_of : List (Bor (List ℕ)) → List ℕ
stream_of pieces = flat_map (λ piece. piece.now) pieces

-- Between the values `a` and `b`, the sink received exactly the text in the octets.
abbrev pub SinkReceivesText : {S : Type 0} → (S → List story.StoryEvent → S → Type 0) → S → List ℕ → S → Type 0
SinkReceivesText {S} goes a octets b = (more : List story.StoryEvent) × goes a more b × Delivers [] octets more

-- The stream begins with an envelope of `used` octets with the parts that were returned, and the
-- sink received its lines.
pub record IsUnpacked {S : Type 0} (goes : S → List story.StoryEvent → S → Type 0) (limits : Limits) (stream : List ℕ) (a b : S) (got : Unpacked) (used : ℕ) : Type 0 where
  pub value : Value
  pub finished : IsFinished limits stream used value
  pub parts : HasParts got value
  pub told : goes a (story.events_of_lines value.lines) b

-- Why a stream does not begin with an envelope. Either an octet is rejected, and the sink received
-- the text in the octets before it; or the stream is truncated, and the sink received all its text.
abbrev pub IsRejected : {S : Type 0} → (S → List story.StoryEvent → S → Type 0) → Limits → List ℕ → S → S → Refusal → Type 0
IsRejected goes limits stream a b e =
    (IsRefused limits stream e × SinkReceivesText goes a (take e.octet stream) b) ⊎ (IsTruncated limits stream e × SinkReceivesText goes a stream b)

-- The returned value represents the result of the stream.
abbrev pub RepresentsResult : Result (Unpacked × ℕ) Refusal → Answer → Type 0
RepresentsResult (Ok got) (Finished used value) = HasParts got.0 value × (got.1 ≡ used)
RepresentsResult (Err e) (Refused f) = e ≡ f
RepresentsResult (Err e) (Truncated f) = e ≡ f
RepresentsResult result answer = ⊥
