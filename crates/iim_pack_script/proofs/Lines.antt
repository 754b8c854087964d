-- Packing the lines of a text, one after another.
use Rattle.iim_pack_script.proofs.Words.{◌≡◌, ℕ, ◌+◌, ◌≤◌, List, [], ◌∷◌, ◌++◌, length, length-append, map, refl, ap, sym, arith, append_assoc, IsLine, IsText, StoryEvent, LineOctet, LineEnd, events_of_lines, events_append, line_packed}
use Rattle.wire_story.specs.{Format.Packing.lines_of, Format.Packing.packed_events, Laws.TextsAreDeliveredAsLines}
use Rattle.wire_story.proofs.Collected.{text_collected}

-- The lines of the events of lines are these lines.
pub again : TextsAreDeliveredAsLines → (text : List ℕ) (lines : List (List ℕ)) → IsText text lines → lines_of (events_of_lines lines) ≡ lines
again delivers text lines is = rw (← delivers text lines is) (text_collected text lines is)

-- the events of a line and its end, and those of the lines after it
pub line_more : (line : List ℕ) (rest : List (List ℕ)) (text : List ℕ) → IsText text rest
    → events_of_lines (line ∷ rest) ≡ (map LineOctet line ++ LineEnd ∷ []) ++ events_of_lines rest
line_more line [] text h = absurd h
line_more line (next ∷ rest) text h = sym (append_assoc (map LineOctet line) (LineEnd ∷ []) (events_of_lines (next ∷ rest)))

pub first_is : (text line : List ℕ) (rest : List (List ℕ)) (after : List ℕ) → IsText text (line ∷ rest) → IsText after rest → IsLine line
first_is text line [] after h more = absurd more
first_is text line (next ∷ rest) after h more = h.0

pub last_is : (text : List ℕ) (left : List (List ℕ)) → IsText text left → left ≡ text ∷ [] → IsLine text
last_is text left h e = (rw e at h).0

-- the lines before, the line and its end, and the lines after it
pub parts_more : (all done : List StoryEvent) (left rest : List (List ℕ)) (line after : List ℕ) → all ≡ done ++ events_of_lines left → left ≡ line ∷ rest
    → IsText after rest
    → all ≡ done ++ ((map LineOctet line ++ LineEnd ∷ []) ++ events_of_lines rest)
parts_more all done left rest line after e f h = rw (e, f, line_more line rest after h) refl

pub parts_last : (all done : List StoryEvent) (left : List (List ℕ)) (line : List ℕ) → all ≡ done ++ events_of_lines left → left ≡ line ∷ []
    → all ≡ done ++ map LineOctet line
parts_last all done left line e f = rw (e, f) refl

-- the packed size of events, one after another
pub joined_len : (xs ys : List StoryEvent) → length (packed_events (xs ++ ys)) ≡ length (packed_events xs) + length (packed_events ys)
joined_len xs ys = rw (events_append xs ys) (length-append (packed_events xs) (packed_events ys))

pub fits_line : (all done rest : List StoryEvent) (line : List ℕ) (total now most : ℕ) → all ≡ done ++ ((map LineOctet line ++ LineEnd ∷ []) ++ rest)
    → total + (length (packed_events all) + 2) ≤ most → now ≡ total + length (packed_events done) → now + (length line + 2 + 2) ≤ most
fits_line all done rest line total now most e fits is =
    let more : List StoryEvent = map LineOctet line ++ LineEnd ∷ [] in
    let whole = ap (λ (x : List StoryEvent). length (packed_events x)) e in
    let two : length (packed_events (LineEnd ∷ [])) ≡ 2 = refl in
    omega (
      arith,
      fits,
      is,
      whole,
      joined_len done (more ++ rest),
      joined_len more rest,
      joined_len (map LineOctet line) (LineEnd ∷ []),
      ap length (line_packed line),
      two,
    )

pub fits_last : (all done : List StoryEvent) (line : List ℕ) (total now most : ℕ) → all ≡ done ++ map LineOctet line
    → total + (length (packed_events all) + 2) ≤ most → now ≡ total + length (packed_events done) → now + (length line + 2) ≤ most
fits_last all done line total now most e fits is =
    let whole = ap (λ (x : List StoryEvent). length (packed_events x)) e in
    omega (arith, fits, is, whole, joined_len done (map LineOctet line), ap length (line_packed line))
