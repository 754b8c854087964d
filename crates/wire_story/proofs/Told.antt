-- The events delivered of a text are those of its lines, and a longer text delivers more at the
-- end.
use Rattle.std.proofs.lemmas.List.{take_rest}
use Rattle.std.proofs.Math.Seq.{take-add}
use Rattle.std.specs.List.{slice_range}
use Rattle.std.proofs.Common.{◌≡◌, ℕ, zero, suc, ◌+◌, true, List, [], ◌∷◌, ◌++◌, map, take, replicate, refl, sym, ap, ◌∙◌, append-nil, length}
use Rattle.std.proofs.lemmas.List.Concat.{flat_map-append}
use Rattle.wire_story.specs.Format.Texts.{is_line_octet, IsLine, line_end, IsText, IsTextSoFar, StoryEvent, LineOctet, LineEnd, events_of_octet, delivered, events_of_lines}
use Rattle.wire_story.proofs.{Spans.Are-head, Spans.Are-tail, HeldReturns.not_at}

delivered-append : (x y : List ℕ) → delivered (x ++ y) ≡ delivered x ++ delivered y
delivered-append x y = flat_map-append events_of_octet x y

-- A prefix, and then one of what remains.
pub consume_prefix : (piece : List ℕ) (i k : ℕ) → take (i + k) piece ≡ take i piece ++ take k (slice_range piece i (length piece))
consume_prefix piece i k = take-add i k piece ∙ ap (λ r. take i piece ++ take k r) (sym (take_rest piece i))

pub delivered_front : (piece : List ℕ) (i k : ℕ)
    → delivered (take i piece) ++ delivered (take k (slice_range piece i (length piece))) ≡ delivered (take (i + k) piece)
delivered_front piece i k = sym (ap delivered (consume_prefix piece i k) ∙ delivered-append (take i piece) (take k (slice_range piece i (length piece))))

events_line : (b : ℕ) → is_line_octet b ≡ true → events_of_octet b ≡ LineOctet b ∷ []
events_line b h = rw (not_at b 10 h refl, not_at b 13 h refl) refl

pub delivered_line : (line : List ℕ) → IsLine line → delivered line ≡ map LineOctet line
delivered_line [] h = refl
delivered_line (b ∷ bs) h =
    ap (λ (t : List StoryEvent). t ++ delivered bs) (events_line b (Are-head is_line_octet b bs h))
    ∙ ap (λ (t : List StoryEvent). LineOctet b ∷ t) (delivered_line bs (Are-tail is_line_octet b bs h))

pub delivered_end : (k : ℕ) → delivered (line_end k) ≡ LineEnd ∷ []
delivered_end zero = refl
delivered_end (suc k) = delivered_end k

-- The events of a line and its end come before those of what follows.
delivered_next : (x first : List ℕ) (returns : ℕ) (rest : List ℕ) → IsLine first → x ≡ first ++ (line_end returns ++ rest)
    → delivered x ≡ map LineOctet first ++ (LineEnd ∷ delivered rest)
delivered_next x first returns rest h e =
    ap delivered e ∙ delivered-append first (line_end returns ++ rest)
    ∙ ap (λ (t : List StoryEvent). delivered first ++ t) (delivered-append (line_end returns) rest)
    ∙ rw (delivered_line first h, delivered_end returns) refl

pub delivered_lines : (x : List ℕ) (lines : List (List ℕ)) → IsText x lines → delivered x ≡ events_of_lines lines
delivered_lines x [] h = absurd h
delivered_lines x (line ∷ []) h = ap delivered h.1 ∙ delivered_line line h.0
delivered_lines x (line ∷ next ∷ lines) h =
    delivered_next x line h.1 h.3 h.0 h.4 ∙ ap (λ (t : List StoryEvent). map LineOctet line ++ (LineEnd ∷ t)) (delivered_lines h.3 (next ∷ lines) h.5)

delivered_returns : (k : ℕ) → delivered (replicate k 13) ≡ []
delivered_returns zero = refl
delivered_returns (suc k) = delivered_returns k

pub delivered_so_far : (x : List ℕ) (lines : List (List ℕ)) (line : List ℕ) (held : ℕ) → IsTextSoFar x lines line held
    → delivered x ≡ events_of_lines (lines ++ line ∷ [])
delivered_so_far x [] line held h =
    ap delivered h.2 ∙ (delivered-append line (replicate held 13) ∙ rw (delivered_line line h.0, delivered_returns held) (append-nil (map LineOctet line)))
delivered_so_far x (first ∷ []) line held h =
    delivered_next x first h.1 h.3 h.0 h.4 ∙ ap (λ (t : List StoryEvent). map LineOctet first ++ (LineEnd ∷ t)) (delivered_so_far h.3 [] line held h.5)
delivered_so_far x (first ∷ next ∷ lines) line held h =
    delivered_next x first h.1 h.3 h.0 h.4 ∙ ap (λ (t : List StoryEvent). map LineOctet first ++ (LineEnd ∷ t))
    (delivered_so_far h.3 (next ∷ lines) line held h.5)
