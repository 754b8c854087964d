-- Statements of the lemmas about texts and stories. The record at the end has a field for each
-- lemma.
use Rattle.std.specs.Prelude.{◌≡◌, ℕ, List, ◌↔◌, [], ◌∷◌, ◌++◌, map, Option}
use Rattle.wire_story.specs.Format.Texts.{packed_text, IsText, IsTextSoFar, EndsInReturns, HasLines, LinesMakeText, StoryEvent, events_of_lines, delivered, octet_for, StoryLanguage, Octet, End, IsViableStory, words_in, words, HasWords, WordsSoFar, capped, CountsWords}
use Rattle.wire_story.specs.Format.Packing.{packed_events, AreStoryEvents, IsPackedAsLines}
use Rattle.std.specs.List.{join_with_byte}
use Rattle.iim_dataset.specs.Format.Octets.{lf, IsViablePrefix}
use Rattle.wire_story.specs.States.Reading.{collect, TextReaderHasRead, IsTextState}
use Rattle.std.proofs.Common.{false, length}

-- ---- The packed form of events, and the lines that events form.

-- Packing lines gives the same octets as packing their events.
abbrev pub LinesArePackedAsTheirEvents : Type 0
LinesArePackedAsTheirEvents = (lines : List (List ℕ)) → packed_text lines ≡ packed_events (events_of_lines lines)

-- Packing events gives the same octets as packing the lines that they form.
abbrev pub EventsArePackedAsLines : Type 0
EventsArePackedAsLines = (events : List StoryEvent) → AreStoryEvents events → IsPackedAsLines events

-- ---- All texts.

-- Octets can be read as the lines of a text in at most one way.
abbrev pub TextsHaveOneReading : Type 0
TextsHaveOneReading = (x : List ℕ) (lines others : List (List ℕ)) → IsText x lines → IsText x others → lines ≡ others

-- Octets can be read as a text so far in at most one way.
abbrev pub TextsSoFarHaveOneReading : Type 0
TextsSoFarHaveOneReading = (x : List ℕ) (lines others : List (List ℕ)) (line other : List ℕ) (held returns : ℕ)
    → IsTextSoFar x lines line held → IsTextSoFar x others other returns → (lines ≡ others) × (line ≡ other) × (held ≡ returns)

-- The events that are delivered for a text are those of its lines.
abbrev pub TextsAreDeliveredAsLines : Type 0
TextsAreDeliveredAsLines = (x : List ℕ) (lines : List (List ℕ)) → IsText x lines → delivered x ≡ events_of_lines lines

-- The events that are delivered for a text so far are those of its complete lines and the current
-- one. A pending CR has no event.
abbrev pub TextsSoFarAreDeliveredAsLines : Type 0
TextsSoFarAreDeliveredAsLines = (x : List ℕ) (lines : List (List ℕ)) (line : List ℕ) (held : ℕ)
    → IsTextSoFar x lines line held → delivered x ≡ events_of_lines (lines ++ line ∷ [])

-- The events that are delivered for two chunks are the same as for their concatenation.
abbrev pub DeliveryOfChunksJoins : Type 0
DeliveryOfChunksJoins = (x y : List ℕ) → delivered (x ++ y) ≡ delivered x ++ delivered y

-- Octets are a viable prefix of a story if and only if they are a text so far.
abbrev pub StoriesAreViableAsTextsSoFar : Type 0
StoriesAreViableAsTextsSoFar = (x : List ℕ) → IsViableStory x ↔ ((held : ℕ) × EndsInReturns x held)

-- A story may end after octets if and only if they are a text.
abbrev pub StoriesEndAsTexts : Type 0
StoriesEndAsTexts = (x : List ℕ) → IsViablePrefix StoryLanguage (map Octet x ++ End ∷ []) ↔ HasLines x

-- A text so far is a text if and only if it does not end with a pending CR.
abbrev pub TextsEndInNoReturn : Type 0
TextsEndInNoReturn = (x : List ℕ) → HasLines x ↔ EndsInReturns x 0

-- The packed octets of lines that make a text are a text with these lines.
abbrev pub PackedLinesAreAText : Type 0
PackedLinesAreAText = (lines : List (List ℕ)) → LinesMakeText lines → IsText (packed_text lines) lines

-- The lines of a text make a text.
abbrev pub LinesOfATextMakeOne : Type 0
LinesOfATextMakeOne = (x : List ℕ) (lines : List (List ℕ)) → IsText x lines → LinesMakeText lines

-- The octets of the events of lines are the lines, joined by LF.
abbrev pub LinesAreJoinedByLineFeeds : Type 0
LinesAreJoinedByLineFeeds = (lines : List (List ℕ)) → map octet_for (events_of_lines lines) ≡ join_with_byte lf lines

-- Collecting lines from the events of a text, starting with one empty line, gives the lines of the
-- text.
abbrev pub TextsAreCollectedAsLines : Type 0
TextsAreCollectedAsLines = (x : List ℕ) (lines : List (List ℕ)) → IsText x lines → collect ([] ∷ []) (delivered x) ≡ lines

-- The states that satisfy the invariant of a reader are exactly the states that some octets reach.
abbrev pub TextStatesAreReached : Type 0
TextStatesAreReached = (reader : Option ℕ) → IsTextState reader ↔ ((octets : List ℕ) × TextReaderHasRead reader octets)

-- The octets determine the state of a reader, regardless of how they are split into slices.
abbrev pub OctetsDetermineTheTextState : Type 0
OctetsDetermineTheTextState = (octets : List ℕ) (a b : Option ℕ) → TextReaderHasRead a octets → TextReaderHasRead b octets → a ≡ b

-- If two lists of octets reach the same state, then after the same further octets they reach the
-- same state.
abbrev pub TextStatesDetermineLaterOnes : Type 0
TextStatesDetermineLaterOnes = (old new : Option ℕ) (a b x : List ℕ) → TextReaderHasRead old a → TextReaderHasRead old b → TextReaderHasRead new (a ++ x) → TextReaderHasRead new (b ++ x)

-- ---- The words of lines.

-- A line has words in exactly one way, and the counter returns their number.
pub record WordsAreCounted (line : List ℕ) : Type 0 where
  pub some : (found : List (List ℕ)) × HasWords line found
  pub one : (found others : List (List ℕ)) → HasWords line found → HasWords line others → found ≡ others
  pub count : (found : List (List ℕ)) → HasWords line found → words_in line ≡ length found

-- The words of a line are the longest slices of octets other than SP and TAB in it.
abbrev pub WordsAreLongestRuns : Type 0
WordsAreLongestRuns = (line : List ℕ) → WordsAreCounted line

-- Counting words in the events of a text, starting from 0, gives the number of words in its lines.
abbrev pub TextsAreCountedAsLines : Type 0
TextsAreCountedAsLines = (x : List ℕ) (lines : List (List ℕ)) (old new : WordsSoFar) → IsText x lines
    → old.words ≡ 0 → old.inside ≡ false → CountsWords old (delivered x) new → new.words ≡ capped (words lines)

-- The lemmas about stories, with a field for each.
pub record StoryLaws : Type 0 where
  -- lemmas about which octets are texts:
  pub texts_have_one_reading : TextsHaveOneReading
  pub texts_so_far_have_one_reading : TextsSoFarHaveOneReading
  pub stories_are_viable_as_texts_so_far : StoriesAreViableAsTextsSoFar
  pub stories_end_as_texts : StoriesEndAsTexts
  pub texts_end_in_no_return : TextsEndInNoReturn
  -- lemmas about the events of a text:
  pub texts_so_far_are_delivered_as_lines : TextsSoFarAreDeliveredAsLines
  pub lines_are_joined_by_line_feeds : LinesAreJoinedByLineFeeds
  pub texts_are_collected_as_lines : TextsAreCollectedAsLines
  pub words_are_longest_runs : WordsAreLongestRuns
  pub texts_are_counted_as_lines : TextsAreCountedAsLines
  -- lemmas about the packed form:
  pub packed_lines_are_a_text : PackedLinesAreAText
  pub lines_of_a_text_make_one : LinesOfATextMakeOne
  pub events_are_packed_as_lines : EventsArePackedAsLines
  -- lemmas about the states of readers:
  pub octets_determine_the_text_state : OctetsDetermineTheTextState
  pub text_states_determine_later_ones : TextStatesDetermineLaterOnes
