-- What a stream returns, or why it returns nothing.
use Rattle.std.proofs.Common.{◌≡◌, ◌≢◌, ℕ, ◌⊎◌, inl, inr, List, length, refl, subst, [], ◌∷◌}
use Rattle.std.specs.Prelude.{Ok, Err}
use Rattle.iim_fields.specs.declared.limits.Limits.{Limits}
use Rattle.iim_places.specs.{Format.Admitted.Value, Format.Streams.Answer, Format.Streams.Answers, Format.Streams.Finished, Laws.StreamsHaveOneResult}
use Rattle.iim_unpack.specs.States.Unpacking as parts
use Rattle.iim_dataset.specs.Format.Octets.{CounterRose}
use Rattle.iim_unpack.specs.Format.Pieces as pieces
use Rattle.iim_places.specs.declared.refusal.Cause.{Cause}
use Rattle.iim_places.specs.declared.refusal.Cause.TheVariants as causes
use Rattle.wire_message.specs.declared.fault.MessageCause.TheVariants as messages
use Rattle.iim_places.specs.declared.refusal.Refusal.{Refusal}
use Rattle.iim_unpack.specs.declared.unpacker.Unpacked.{Unpacked}
use Rattle.iim_round_trip.specs.Format.RoundTrip.{packed_value, UnpacksPacked, BeginsWithPacked, IsRejectedUnpacking}
use Rattle.iim_round_trip.specs.Laws.{packed_result, PackedStreamHasOneResult}
use Rattle.iim_round_trip.specs.Format.Stories.{ReturnsPackedStory, IsStoryOfStream, RepresentsStoryResult, dropped_events}
use Rattle.iim_round_trip.specs.declared.unpacking.UnpackFault.TheVariants.{Refused, OutOfMemory}
use Rattle.wire_story.specs.{States.Reading.Collected, States.Reading.collect, Format.Texts.StoryEvent, Format.Texts.events_of_lines, Format.Texts.IsText}
use Rattle.wire_story.specs.Laws.{TextsAreDeliveredAsLines, TextsAreCollectedAsLines}
use Rattle.iim_unpack.specs.Format.Pieces.{IsUnpacked}
use Rattle.iim_round_trip.specs.declared.unpacking.Story.{Story}
use Rattle.iim_round_trip.specs.declared.unpacking.UnpackFault.{UnpackFault}

-- whether a cause is the sink's
sink_or_not : (c : Cause) → (c ≡ causes.Message messages.Sink) ⊎ (c ≢ causes.Message messages.Sink)
sink_or_not (causes.Message messages.Sink) = inl refl
sink_or_not _ = inr (λ e. cc)

-- the two facts in a count of failures: it increased for the sink's cause, and is unchanged for
-- others
pub counts : (c : Cause) (old new : ℕ) → parts.CountsSinkFailure c old new
    → (c ≡ causes.Message messages.Sink → CounterRose old new) × (c ≢ causes.Message messages.Sink → new ≡ old)
counts (causes.Message messages.Sink) old new h = (λ e. h, λ other. absurd (other refl))
counts _ old new h = (λ e. absurd cc, λ other. h)

-- What holds under the limits of an unpacker holds under the limits that it was created with.
pub given : {S : Type 0} (goes : S → List StoryEvent → S → Type 0) (found limits : Limits) (stream : List ℕ) (a b : S) (got : Unpacked) (used : ℕ)
    → found ≡ limits
    → PackedStreamHasOneResult → ((answer : Answer) → Answers found stream answer → pieces.RepresentsResult (Ok (got, used)) answer)
    → IsUnpacked goes found stream a b got used → UnpacksPacked goes limits stream a b got used
given goes found limits stream a b got used same law only unpacked p =
    let value = packed_value p.fields p.head p.lines p.trailer p.plan p.packed.written.parts in
    let one = law limits stream p in
    let u = rw same at unpacked in
    let answer = only (packed_result p) (rw same one.0) in
    let same_value : Finished used u.value ≡ Finished (length p.octets) value = one.1 (Finished used u.value) u.finished in
    let is : u.value ≡ value = cc in
    (answer.1, answer.0, subst (λ (v : Value). goes a (events_of_lines v.lines) b) is u.told)

pub fails : (found limits : Limits) (stream : List ℕ) (e : Refusal) → found ≡ limits → PackedStreamHasOneResult
    → ((answer : Answer) → Answers found stream answer → e.cause ≢ causes.Message messages.Sink → pieces.RepresentsResult (Err e) answer)
    → BeginsWithPacked limits stream → e.cause ≡ causes.Message messages.Sink
fails found limits stream e same law only p = elim (sink_or_not e.cause) [
  | inl is ↦ is
  | inr other ↦ absurd (only (packed_result p) (rw same (law limits stream p).0) other)
]

-- ---- a story that is collected

-- the relation of a sink that collects the lines
abbrev pub gathers : Collected → List StoryEvent → Collected → Type 0
gathers a events b = b.lines ≡ collect a.lines events

-- Collecting the events of a text's lines, from one empty line on, gives its lines.
collected : TextsAreDeliveredAsLines → TextsAreCollectedAsLines → (text : List ℕ) (lines before after : List (List ℕ)) → IsText text lines → before ≡ [] ∷ []
    → after ≡ collect before (events_of_lines lines) → after ≡ lines
collected deliver gather text lines before after is empty told = rw (told, empty, ← deliver text lines is) (gather text lines is)

pub comes : TextsAreDeliveredAsLines → TextsAreCollectedAsLines → (limits : Limits) (stream : List ℕ) (old : Collected) (got : Story) → old.lines ≡ [] ∷ []
    → UnpacksPacked gathers limits stream old got.lines got.unpacked got.used → ReturnsPackedStory limits stream got
comes deliver gather limits stream old got empty given p =
    let (used, parts, told) = given p in
    let lines = collected deliver gather p.packed.may.text p.lines old.lines got.lines.lines p.packed.may.lined empty told in
    record { used_is = used; parts = parts; lines_are = lines }

pub story_in : TextsAreDeliveredAsLines → TextsAreCollectedAsLines → (limits : Limits) (stream : List ℕ) (old : Collected) (got : Story) → old.lines ≡ [] ∷ []
    → IsUnpacked gathers limits stream old got.lines got.unpacked got.used → IsStoryOfStream limits stream got
story_in deliver gather limits stream old got empty u =
    let admits = u.finished.envelope.admits in
    record {
      value = u.value;
      finished = u.finished;
      story = record {
        used_is = refl;
        parts = u.parts;
        lines_are = collected deliver gather admits.text u.value.lines old.lines got.lines.lines admits.lines empty u.told;
      };
    }

pub one_story : StreamsHaveOneResult → (limits : Limits) (stream : List ℕ) (got : Story) → IsStoryOfStream limits stream got
    → (answer : Answer) → Answers limits stream answer → RepresentsStoryResult (Ok got) answer
one_story one limits stream got is answer h =
    rw (← one limits stream (Finished got.used is.value) answer is.finished h) is.story

pub no_story : (limits : Limits) (stream : List ℕ) (old new : Collected) (fault : UnpackFault) → IsRejectedUnpacking gathers limits stream old new fault
    → IsRejectedUnpacking dropped_events limits stream tt tt fault
no_story limits stream old new OutOfMemory h = refl
no_story limits stream old new (Refused e) (inl (refused, told)) = inl (refused, (told.0, tt, told.2))
no_story limits stream old new (Refused e) (inr (short, told)) = inr (short, (told.0, tt, told.2))
