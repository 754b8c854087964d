-- The text of a story: its lines, its tokens, the events that a sink receives, its words, and why
-- an octet is rejected.
use Rattle.std.specs.Prelude.{◌≡◌, ℕ, ◌<◌, ◌≤◌, Bool, not, ◌&&◌, ◌||◌, nat_lt, ◌==◌, IsTrue, List, [], ◌∷◌, ◌++◌, length, replicate, map, if◌then◌else◌, flat_map, ◌+◌, ◌^◌, min, false, codes, decimal}
use Rattle.std.specs.List.{list_all, sum_by}
use Rattle.iim_dataset.specs.Format.Octets.{soh, stx, etx, eot, lf, cr, IsViablePrefix, EndsViablePrefix, greatest_u64, tab, sp}
use Rattle.wire_story.specs.declared.fault.TextCause.{TextCause}
use Rattle.wire_story.specs.declared.fault.TextFault.{TextFault}
use Rattle.wire_story.specs.declared.fault.TextCause.TheVariants.{LoneReturn, ControlOctet, Sink}

-- an octet that is allowed in a line: any but SOH, STX, ETX, EOT, LF and CR
abbrev pub is_line_octet : ℕ → Bool
is_line_octet b = nat_lt b 256 && not (b == soh || b == stx || b == etx || b == eot || b == lf || b == cr)

-- All octets are allowed in a line.
abbrev pub IsLine : List ℕ → Type 0
IsLine xs = IsTrue (list_all is_line_octet xs)

-- the maximum number of CR in a line end
abbrev pub max_returns : ℕ
max_returns = 2

-- a line end: LF, preceded by `returns` CR
abbrev pub line_end : ℕ → List ℕ
line_end returns = replicate returns cr ++ lf ∷ []

-- A text consists of its lines, at least one, with a line end of at most two CR and an LF between
-- each two.
abbrev pub IsText : List ℕ → List (List ℕ) → Type 0
IsText x [] = ⊥
IsText x (line ∷ []) = IsLine line × (x ≡ line)
IsText x (line ∷ next ∷ lines) = IsLine line
    × (returns : ℕ) × (returns ≤ max_returns)
    × (rest : List ℕ) × (x ≡ line ++ (line_end returns ++ rest))
    × IsText rest (next ∷ lines)

-- The octets are a text: they consist of some lines.
abbrev pub HasLines : List ℕ → Type 0
HasLines x = (lines : List (List ℕ)) × IsText x lines

-- A text so far consists of complete lines with their line ends, the current line, and at most two
-- pending CR.
abbrev pub IsTextSoFar : List ℕ → List (List ℕ) → List ℕ → ℕ → Type 0
IsTextSoFar x [] line held = IsLine line × (held ≤ max_returns) × (x ≡ line ++ replicate held cr)
IsTextSoFar x (first ∷ lines) line held = IsLine first
    × (returns : ℕ) × (returns ≤ max_returns)
    × (rest : List ℕ) × (x ≡ first ++ (line_end returns ++ rest))
    × IsTextSoFar rest lines line held

-- The octets are a text so far that ends with `held` pending CR.
abbrev pub EndsInReturns : List ℕ → ℕ → Type 0
EndsInReturns x held = (lines : List (List ℕ)) × (line : List ℕ) × IsTextSoFar x lines line held

-- The lines make a text: there is at least one, and all their octets are allowed in a line.
abbrev pub LinesMakeText : List (List ℕ) → Type 0
LinesMakeText lines = (0 < length lines) × IsTrue (list_all (list_all is_line_octet) lines)

-- the packed text of the lines, in which each line end is CR LF
abbrev pub packed_text : List (List ℕ) → List ℕ
packed_text [] = []
packed_text (line ∷ []) = line
packed_text (line ∷ next ∷ lines) = line ++ (line_end 1 ++ packed_text (next ∷ lines))

-- a token of a text: an octet, or the end of the text
pub data OctetOrEnd : Type 0 where
  Octet : (octet : ℕ) → OctetOrEnd
  End : OctetOrEnd

-- the octets, followed by the end
abbrev pub with_end : List ℕ → List OctetOrEnd
with_end xs = map Octet xs ++ End ∷ []

-- The language of stories: the octets of a text, followed by the end.
pub record StoryLanguage (tokens : List OctetOrEnd) : Type 0 where
  pub text : List ℕ
  pub lines : List (List ℕ)
  pub lined : IsText text lines
  pub tokens_are : tokens ≡ with_end text

-- The octets are a viable prefix of a story.
abbrev pub IsViableStory : List ℕ → Type 0
IsViableStory octets = IsViablePrefix StoryLanguage (map Octet octets)

-- The octets are a viable prefix of a story, but with the next token they are not.
abbrev pub EndsViableStory : List ℕ → OctetOrEnd → Type 0
EndsViableStory octets token = EndsViablePrefix StoryLanguage (map Octet octets) token

-- an event: an octet of a line, or the end of a line
pub data StoryEvent : Type 0 where
  LineOctet : (octet : ℕ) → StoryEvent
  LineEnd : StoryEvent

-- The events of an octet: an LF ends a line. A CR has no event: it belongs to the line end that
-- follows, or is still pending.
abbrev pub events_of_octet : ℕ → List StoryEvent
events_of_octet b = if b == lf then LineEnd ∷ [] else if b == cr then [] else LineOctet b ∷ []

-- the events that are delivered for octets of a text, which may be incomplete
abbrev pub delivered : List ℕ → List StoryEvent
delivered x = flat_map events_of_octet x

-- the events of lines: the octets of each line, and the end of a line between each two
abbrev pub events_of_lines : List (List ℕ) → List StoryEvent
events_of_lines [] = []
events_of_lines (line ∷ []) = map LineOctet line
events_of_lines (line ∷ next ∷ lines) = map LineOctet line ++ (LineEnd ∷ events_of_lines (next ∷ lines))

-- the octet of an event, if lines are joined by LF
abbrev pub octet_for : StoryEvent → ℕ
octet_for (LineOctet b) = b
octet_for LineEnd = lf

-- ---- The words of lines, and a counter of words that a sink updates with each event.

-- an octet of a word: any but SP and TAB
abbrev pub is_word_octet : ℕ → Bool
is_word_octet b = not (b == sp || b == tab)

-- SP or TAB
abbrev pub is_blank : ℕ → Bool
is_blank b = not (is_word_octet b)

-- 1 if a word begins at the octet, otherwise 0: the octet is part of a word, and the one before it
-- in its line is not
abbrev pub words_begun_with : Bool → ℕ → ℕ
words_begun_with inside b = if is_word_octet b && not inside then 1 else 0

-- the number of words that begin in octets of a line; `inside` is whether the octets before them
-- end inside a word
abbrev pub words_begun : Bool → List ℕ → ℕ
words_begun inside [] = 0
words_begun inside (b ∷ xs) = words_begun_with inside b + words_begun (is_word_octet b) xs

-- the number of words in a line
abbrev pub words_in : List ℕ → ℕ
words_in line = words_begun false line

-- the number of words in the lines
abbrev pub words : List (List ℕ) → ℕ
words lines = sum_by words_in lines

-- ---- The definition of words.

-- A word before these octets is as long as possible: nothing follows it, or SP, or TAB.
abbrev pub EndsWord : List ℕ → Type 0
EndsWord [] = Unit {0}
EndsWord (b ∷ xs) = is_word_octet b ≡ false

-- The line consists of these words, in order, each non-empty and as long as possible, with blanks
-- before, between and after them.
abbrev pub HasWords : List ℕ → List (List ℕ) → Type 0
HasWords line [] = IsTrue (list_all is_blank line)
HasWords line (word ∷ others) = (blank : List ℕ) × IsTrue (list_all is_blank blank) × ((0 < length word) × IsTrue (list_all is_word_octet word))
    × (rest : List ℕ) × (line ≡ blank ++ (word ++ rest)) × EndsWord rest × HasWords rest others

-- ---- Words of events.

-- the state of a counter of words: the number of words, and whether the current line so far ends
-- inside a word
pub record WordsSoFar : Type 0 where
  pub words : ℕ
  pub inside : Bool

-- the number, or the greatest number of 64 bits if the number exceeds it
abbrev pub capped : ℕ → ℕ
capped n = min n greatest_u64

-- the number of words that begin in the events; `inside` is whether the events before them end
-- inside a word
abbrev pub words_of_events : Bool → List StoryEvent → ℕ
words_of_events inside [] = 0
words_of_events inside (LineOctet b ∷ events) = words_begun_with inside b + words_of_events (is_word_octet b) events
words_of_events inside (LineEnd ∷ events) = words_of_events false events

-- whether the current line ends inside a word after the events
abbrev pub inside_after : Bool → List StoryEvent → Bool
inside_after inside [] = inside
inside_after inside (LineOctet b ∷ events) = inside_after (is_word_octet b) events
inside_after inside (LineEnd ∷ events) = inside_after false events

-- The words of the events were counted, with a counter of 64 bits.
pub record CountsWords (old : WordsSoFar) (events : List StoryEvent) (new : WordsSoFar) : Type 0 where
  pub words : old.words < 2 ^ 64 → new.words ≡ capped (old.words + words_of_events old.inside events)
  pub inside : new.inside ≡ inside_after old.inside events

abbrev pub number_of_text : TextCause → ℕ
number_of_text LoneReturn = 40
number_of_text ControlOctet = 41
number_of_text Sink = 60

abbrev pub name_of_text : TextCause → List ℕ
name_of_text LoneReturn = codes "LoneReturn"
name_of_text ControlOctet = codes "ControlOctet"
name_of_text Sink = codes "Sink"

-- the printed form of a cause: its number and its name
abbrev pub print_of_text : TextCause → List ℕ
print_of_text cause = decimal (number_of_text cause) ++ (codes " " ++ name_of_text cause)

-- The printed form of a fault: the number of octets before the rejected one, and the cause.
abbrev pub print_of_fault : TextFault → List ℕ
print_of_fault fault = codes "refused after " ++ (decimal fault.taken ++ (codes " octets, cause " ++ print_of_text fault.cause))
