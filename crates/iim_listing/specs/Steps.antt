-- The state of a story writer, and the steps of writing a listing and stories, item by item.
use Rattle.std.specs.Prelude.{◌≡◌, ℕ, List, ◌⊎◌, [], ◌++◌, Result, Err, ◌+◌, length, Option, Some, None, Ok}
use Rattle.std.proofs.Common.{inl, inr, refl, sym, subst, ◌∙◌, append-nil, append_assoc, arith}
use Rattle.std.specs.List.{AllByRecursion}
use Rattle.iim_dataset.specs.{Format.Octets.CounterRose, Steps.appends_joined}
use Rattle.iim_dataset.specs.States.Devices.{Device, WroteAllOf, WroteOnlyPrefixOf, ReadsGave}
use Rattle.wire_story.specs.Format.Texts.{StoryEvent}
use Rattle.iim_output.specs.States.Holding.{HasEmptyBuffer, KeepsWriter, BuffersEvents, BuffersText, FlushFails, device_of, stops_of as writer_stops, HasBuffered}
use Rattle.iim_output.specs.{HoldingLaws.buffers_no_events, HoldingLaws.buffered_events_joined, Format.limits}
use Rattle.iim_listing.specs.Format.{CommandFault, CannotRead, CannotWrite, OutOfMemory, texts_from, check_line_of, ListingFails, WritesListing, TextIsDelivered, StoriesFail, WritesStories, stories, story_of, text_of}
use Rattle.iim_places.specs.Format.Streams.{SplitsInto, Listed, joined}
pub use Rattle.iim_output.specs.declared.block_writer.BlockWriter.{BlockWriter}
pub use Rattle.iim_listing.specs.declared.story_writer.StoryWriter.{StoryWriter}
use Rattle.iim_unpack.specs.declared.intake.IntakeFault.{IntakeFault, TheVariants.Refused}
use Rattle.iim_places.specs.declared.refusal.Cause.TheVariants.{Message}
use Rattle.wire_message.specs.declared.fault.MessageCause.TheVariants.{Sink}
use Rattle.iim_listing.specs.declared.coming.Next.{Next}
use Rattle.iim_listing.specs.declared.coming.Next.TheVariants as next

-- the targets of a story writer, for the text and for the lines
abbrev pub output_of : {W E : Type 0} → (W → Device) → StoryWriter W E → Device
output_of ws n = device_of ws n.output

abbrev pub errors_of : {W E : Type 0} → (E → Device) → StoryWriter W E → Device
errors_of es n = es n.errors.now

-- the number of failed writes to the output
abbrev pub stops_of : {W E : Type 0} → StoryWriter W E → ℕ
stops_of n = writer_stops n.output

-- The story writer still writes to the targets that it borrowed.
abbrev pub KeepsTargets : {W E : Type 0} → StoryWriter W E → StoryWriter W E → Type 0
KeepsTargets a b = KeepsWriter a.output b.output × (b.errors.ghost_name ≡ a.errors.ghost_name)

-- These lines were buffered, and none of them was written.
abbrev pub BuffersLines : {W E : Type 0} → StoryWriter W E → StoryWriter W E → List ℕ → Type 0
BuffersLines a b lines = (b.lines.items ≡ a.lines.items ++ lines) × (b.errors ≡ a.errors)

-- All buffered lines were written when no text was buffered. Some of these events were passed to
-- the writer before that time, and the others afterwards.
pub record LinesAreWritten {W E : Type 0} (ws : W → Device) (es : E → Device) (a : StoryWriter W E) (events : List StoryEvent) (b : StoryWriter W E) : Type 0 where
  pub mark : BlockWriter W
  pub first : List StoryEvent
  pub then : List StoryEvent
  pub before : BuffersEvents ws a.output first mark
  pub is_flushed : HasEmptyBuffer mark
  pub after : BuffersEvents ws mark then b.output
  pub all : first ++ then ≡ events
  pub none : b.lines.items ≡ []
  pub told : WroteAllOf (errors_of es a) (errors_of es b) a.lines.items

-- These events were passed to the writer. The lines that were buffered are still buffered, or they
-- are written.
pub record PassesEvents {W E : Type 0} (ws : W → Device) (es : E → Device) (a : StoryWriter W E) (events : List StoryEvent) (b : StoryWriter W E) : Type 0 where
  pub put : BuffersEvents ws a.output events b.output
  pub keeps : b.errors.ghost_name ≡ a.errors.ghost_name
  pub lines : BuffersLines a b [] ⊎ LinesAreWritten ws es a events b

-- The buffers of the writer are empty.
abbrev pub StoryWriterIsFlushed : {W E : Type 0} → StoryWriter W E → Type 0
StoryWriterIsFlushed n = HasEmptyBuffer n.output × (n.lines.items ≡ [])

-- All text is written, and none is buffered.
abbrev pub TextIsWritten : {W E : Type 0} → (W → Device) → StoryWriter W E → StoryWriter W E → Type 0
TextIsWritten ws a b = BuffersText ws a.output b.output [] × HasEmptyBuffer b.output × (stops_of b ≡ stops_of a)

-- Everything that was buffered is written, the text before the lines, and then this line.
pub record FlushesBefore {W E : Type 0} (ws : W → Device) (es : E → Device) (a b : StoryWriter W E) (line : List ℕ) : Type 0 where
  pub text : TextIsWritten ws a b
  pub keeps : b.errors.ghost_name ≡ a.errors.ghost_name
  pub told : WroteAllOf (errors_of es a) (errors_of es b) (a.lines.items ++ line)

-- The buffered text could not be written, and no line was written; or the text is written, and a
-- write to the error output failed inside the lines, which include this one.
pub record FlushLosesLines {W E : Type 0} (ws : W → Device) (es : E → Device) (a b : StoryWriter W E) (line : List ℕ) : Type 0 where
  pub keeps : KeepsTargets a b
  pub broke : (FlushFails ws a.output b.output × (errors_of es b ≡ errors_of es a))
      ⊎ (TextIsWritten ws a b × (n : ℕ) × WroteOnlyPrefixOf (errors_of es a) (errors_of es b) (a.lines.items ++ line) n)

abbrev pub StoryWriterFlushFails : {W E : Type 0} → (W → Device) → (E → Device) → StoryWriter W E → StoryWriter W E → Type 0
StoryWriterFlushFails ws es a b = FlushLosesLines ws es a b []

-- Why a last line is not written. If the allocation for it failed, everything that was buffered is
-- written.
abbrev pub LastLineFails : {W E : Type 0} → (W → Device) → (E → Device) → StoryWriter W E → StoryWriter W E → List ℕ → CommandFault → Type 0
LastLineFails ws es a b line CannotRead = ⊥
LastLineFails ws es a b line CannotWrite = FlushLosesLines ws es a b line
LastLineFails ws es a b line OutOfMemory = FlushesBefore ws es a b []

-- Why a story is not ended: what was buffered is lost or, if the allocation for the line failed, is
-- written; or the LF was not consumed, and no line was written.
abbrev pub EndStoryFails : {W E : Type 0} → (W → Device) → (E → Device) → StoryWriter W E → StoryWriter W E → CommandFault → Type 0
EndStoryFails ws es a b fault = LastLineFails ws es a b [] fault
    ⊎ ((fault ≡ CannotWrite) × BuffersText ws a.output b.output [] × CounterRose (stops_of a) (stops_of b) × (b.errors ≡ a.errors))

pub no_events : {W E : Type 0} (ws : W → Device) (es : E → Device) (n : StoryWriter W E) → PassesEvents ws es n [] n
no_events ws es n = record { put = buffers_no_events ws n.output; keeps = refl; lines = inl (sym (append-nil n.lines.items), refl) }

-- Lines that are still buffered were written later; or they had been written, and no further line
-- was.
lines_joined : {W E : Type 0} (ws : W → Device) (es : E → Device) (a b c : StoryWriter W E) (xs ys : List StoryEvent) → PassesEvents ws es a xs b
    → BuffersEvents ws b.output ys c.output → BuffersLines a b [] ⊎ LinesAreWritten ws es a xs b → BuffersLines b c [] ⊎ LinesAreWritten ws es b ys c
    → BuffersLines a c [] ⊎ LinesAreWritten ws es a (xs ++ ys) c
lines_joined ws es a b c xs ys first put (inl h) (inl k) = inl (k.0 ∙ append-nil b.lines.items ∙ h.0, k.1 ∙ h.1)
lines_joined ws es a b c xs ys first put (inr t) (inl k) = inr (record {
  mark = t.mark;
  first = t.first;
  then = t.then ++ ys;
  before = t.before;
  is_flushed = t.is_flushed;
  after = buffered_events_joined ws t.mark b.output c.output t.then ys t.after put;
  all = rw (← append_assoc t.first t.then ys, t.all) refl;
  none = k.0 ∙ append-nil b.lines.items ∙ t.none;
  told = rw k.1 t.told;
})
lines_joined ws es a b c xs ys first put one (inr u) = inr (record {
  mark = u.mark;
  first = xs ++ u.first;
  then = u.then;
  before = buffered_events_joined ws a.output b.output u.mark xs u.first first.put u.before;
  is_flushed = u.is_flushed;
  after = u.after;
  all = rw (append_assoc xs u.first u.then, u.all) refl;
  none = u.none;
  told = elim one [
    | inl h ↦ subst (WroteAllOf (errors_of es a) (errors_of es c)) (h.0 ∙ append-nil a.lines.items) (rw h.1 at u.told)
    | inr t ↦ (let then = subst (WroteAllOf (errors_of es b) (errors_of es c)) t.none u.told in (
      rw append-nil at (appends_joined (errors_of es a).octets (errors_of es b).octets (errors_of es c).octets a.lines.items [] t.told.0 then.0),
      (then.1.0 ∙ t.told.1.0, omega (arith, t.told.1.1, then.1.1)),
    ))
  ];
})

pub events_joined : {W E : Type 0} (ws : W → Device) (es : E → Device) (a b c : StoryWriter W E) (xs ys : List StoryEvent) → PassesEvents ws es a xs b → PassesEvents ws es b ys c → PassesEvents ws es a (xs ++ ys) c
events_joined ws es a b c xs ys first then = record {
  put = buffered_events_joined ws a.output b.output c.output xs ys first.put then.put;
  keeps = then.keeps ∙ first.keeps;
  lines = lines_joined ws es a b c xs ys first then.put first.lines then.lines;
}

-- ---- How a listing is buffered and flushed.

-- Why the listing is incomplete. If an allocation failed, some of the envelopes that were read are
-- listed, in what is written or buffered.
abbrev pub BufferedListingFails : {W : Type 0} → (W → Device) → (ℕ → Listed → List ℕ) → Device → Device → BlockWriter W → BlockWriter W → CommandFault → Type 0
BufferedListingFails state text source rest old new OutOfMemory = (input : List ℕ) × (envelopes : List Listed) × (begun : List ℕ)
    × SplitsInto limits input envelopes begun × ReadsGave source rest input × HasBuffered state old new (texts_from text 1 envelopes)
BufferedListingFails state text source rest old new fault = ListingFails text source rest (device_of state old) (device_of state new) fault

-- After a failed allocation the buffer is flushed, or the flush fails. Any other result is returned
-- unchanged, and nothing is written.
abbrev pub FlushesAfterFailure : {W : Type 0} → (W → Device) → BlockWriter W → BlockWriter W → Result ℕ CommandFault → Result ℕ CommandFault → Type 0
FlushesAfterFailure state old new (Err OutOfMemory) result = ((result ≡ Err OutOfMemory) × HasBuffered state old new [] × HasEmptyBuffer new)
    ⊎ ((result ≡ Err CannotWrite) × FlushFails state old new)
FlushesAfterFailure state old new answer result = (result ≡ answer) × (new ≡ old)

-- Exactly these envelopes, `count` of them, and then these octets were read from the input.
pub record EnvelopesAreRead (source rest : Device) (count : ℕ) (envelopes : List Listed) (begun : List ℕ) : Type 0 where
  pub divides : SplitsInto limits (joined envelopes ++ begun) envelopes begun
  pub given : ReadsGave source rest (joined envelopes ++ begun)
  pub counted : count ≡ length envelopes

-- Envelopes were read, and a writer whose buffer was empty at first has consumed this text for
-- each.
pub record EnvelopesAreListed {W : Type 0} (state : W → Device) (text : ℕ → Listed → List ℕ) (source rest : Device) (old new : BlockWriter W) (count : ℕ) : Type 0 where
  pub envelopes : List Listed
  pub taken : EnvelopesAreRead source rest count envelopes []
  pub fresh : HasEmptyBuffer old
  pub put : HasBuffered state old new (texts_from text 1 envelopes)

-- The result of a step: more follows; or the output is complete with this status; or this error
-- occurred. The targets are unchanged then.
abbrev pub IsStepResult : Type 0 → (ℕ → Type 0) → (CommandFault → Type 0) → Type 0 → Result (Option ℕ) CommandFault → Type 0
IsStepResult more done fails same (Ok None) = more
IsStepResult more done fails same (Ok (Some status)) = done status × same
IsStepResult more done fails same (Err fault) = fails fault × same

-- The result for the next item after this many envelopes were listed.
abbrev pub ListsNextItem : {W : Type 0} → (W → Device) → (ℕ → Listed → List ℕ) → Device → Device → BlockWriter W → BlockWriter W
    → ℕ → Result (Option ℕ) CommandFault → Type 0
ListsNextItem {W = W} state text mid rest now new count result = (source : Device) (old : BlockWriter W) → EnvelopesAreListed state text source mid old now count
    → IsStepResult (EnvelopesAreListed state text source rest old new (count + 1)) (WritesListing text source rest (device_of state old) (device_of state new))
    (BufferedListingFails state text source rest old new) (KeepsWriter old new) result

-- ---- stories

-- Of these envelopes, and of the text after them, the lines of the first ones are written. When
-- these lines were written, the stories of these envelopes and some text had been passed to the
-- writer, and nothing was buffered. Since then the writer has consumed the rest, and the lines of
-- the other envelopes are buffered.
pub record StoriesAreBuffered {W : Type 0} (ws : W → Device) (first : BlockWriter W) (errors_old : Device) (es : List Listed) (words : List ℕ) (output : BlockWriter W) (errors : Device) (lines : List ℕ) : Type 0 where
  pub fresh : HasEmptyBuffer first × (writer_stops first ≡ 0)
  pub told : List Listed
  pub others : List Listed
  pub parts : es ≡ told ++ others
  pub mark : BlockWriter W
  pub begun : List ℕ
  pub before : BuffersText ws first mark (stories told ++ begun)
  pub is_flushed : HasEmptyBuffer mark
  pub rest : List ℕ
  pub after : BuffersText ws mark output rest
  pub texts : texts_from story_of (1 + length told) others ++ words ≡ begun ++ rest
  pub said : WroteAllOf errors_old errors (texts_from check_line_of 1 told)
  pub pending : lines ≡ texts_from check_line_of (1 + length told) others

-- Exactly `count` envelopes were read from the input, and the text of each is its lines, joined.
-- Their stories were passed to the story writer, and no text after them. The writer writes to the
-- same targets, and no write to the output failed.
pub record HasWrittenStories {W E : Type 0} (ws : W → Device) (es : E → Device) (first : StoryWriter W E) (source rest : Device)
    (n : StoryWriter W E) (count : ℕ) : Type 0 where
  pub envelopes : List Listed
  pub taken : EnvelopesAreRead source rest count envelopes []
  pub texts : AllByRecursion (λ e. TextIsDelivered e.octets (text_of e)) envelopes
  pub stands : StoriesAreBuffered ws first.output (errors_of es first) envelopes [] n.output (errors_of es n) n.lines.items
  pub keeps : KeepsTargets first n
  pub unbroken : stops_of n ≡ 0

-- The result for the next item after the stories of this many envelopes were written.
abbrev pub WritesNextStory : {W E : Type 0} → (W → Device) → (E → Device) → Device → Device → StoryWriter W E → StoryWriter W E
    → ℕ → Result (Option ℕ) CommandFault → Type 0
WritesNextStory {W = W} {E = E} ws es mid rest now new count result = (source : Device) (first : StoryWriter W E) → HasWrittenStories ws es first source mid now count
    → IsStepResult (HasWrittenStories ws es first source rest new (count + 1))
    (WritesStories source rest (output_of ws first) (output_of ws new) (errors_of es first) (errors_of es new))
    (StoriesFail source rest (output_of ws first) (output_of ws new) (errors_of es first) (errors_of es new)) (KeepsTargets first new) result

-- The result for an error of the intake. If the sink stopped, it is an error of the output.
abbrev pub IsNextForFault : IntakeFault → Result Next CommandFault → Type 0
IsNextForFault (Refused e) result = ((e.cause ≡ Message Sink) × (result ≡ Err CannotWrite)) ⊎ ((e.cause ≡ Message Sink → ⊥) × (result ≡ Ok (next.Refused e)))
IsNextForFault _ result = result ≡ Err CannotRead
