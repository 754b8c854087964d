-- Lines are packed as their events, and events as their lines; which lines make a text.
use Rattle.std.proofs.Common.{◌≡◌, ℕ, ◌<◌, true, List, [], ◌∷◌, ◌++◌, length, map, refl, sym, ap, ◌∙◌, arith, append-nil, append_assoc, length-append}
use Rattle.std.specs.List.{list_all, join_with_byte}
use Rattle.std.proofs.lemmas.Bool.{and_parts, and_from}
use Rattle.std.proofs.lemmas.List.{map-append}
use Rattle.std.proofs.lemmas.List.Concat.{flat_map-append}
use Rattle.wire_story.specs.Format.Texts.{is_line_octet, line_end, packed_text, IsText, LinesMakeText, StoryEvent, LineOctet, LineEnd, events_of_lines, octet_for}
use Rattle.wire_story.specs.{States.Reading.add_octet, States.Reading.collect, Format.Packing.packed_event, Format.Packing.packed_events, Steps.octets_of_line}
use Rattle.wire_story.specs.Laws.{LinesArePackedAsTheirEvents, EventsArePackedAsLines}
use Rattle.wire_story.proofs.Collected.{octet_some, collected_made}

pub line_packed : (line : List ℕ) → packed_events (map LineOctet line) ≡ line
line_packed [] = refl
line_packed (b ∷ bs) = ap (λ (t : List ℕ). b ∷ t) (line_packed bs)

pub events_append : (xs ys : List StoryEvent) → packed_events (xs ++ ys) ≡ packed_events xs ++ packed_events ys
events_append xs ys = flat_map-append packed_event xs ys

pub lines_packed : LinesArePackedAsTheirEvents
lines_packed [] = refl
lines_packed (line ∷ []) = sym (line_packed line)
lines_packed (line ∷ next ∷ lines) =
    sym (events_append (map LineOctet line) (LineEnd ∷ events_of_lines (next ∷ lines))
    ∙ (λ i. line_packed line i ++ (line_end 1 ++ sym (lines_packed (next ∷ lines)) i)))

-- ---- Events.

octet_packed : (lines : List (List ℕ)) (b : ℕ) → 0 < length lines → packed_text (add_octet lines b) ≡ packed_text lines ++ b ∷ []
octet_packed [] b some = absurd (omega (arith, some))
octet_packed (line ∷ []) b some = refl
octet_packed (line ∷ next ∷ []) b some = sym (append_assoc line (line_end 1 ++ next) (b ∷ []))
octet_packed (line ∷ next ∷ third ∷ lines) b some =
    ap (λ (t : List ℕ). line ++ (line_end 1 ++ t)) (octet_packed (next ∷ third ∷ lines) b (omega arith))
    ∙ sym (append_assoc line (line_end 1 ++ packed_text (next ∷ third ∷ lines)) (b ∷ []))

end_packed : (lines : List (List ℕ)) → 0 < length lines → packed_text (lines ++ [] ∷ []) ≡ packed_text lines ++ line_end 1
end_packed [] some = absurd (omega (arith, some))
end_packed (line ∷ []) some = refl
end_packed (line ∷ next ∷ lines) some =
    ap (λ (t : List ℕ). line ++ (line_end 1 ++ t)) (end_packed (next ∷ lines) (omega arith))
    ∙ sym (append_assoc line (line_end 1 ++ packed_text (next ∷ lines)) (line_end 1))

collected_packed : (lines : List (List ℕ)) (events : List StoryEvent) → 0 < length lines
    → packed_text (collect lines events) ≡ packed_text lines ++ packed_events events
collected_packed lines [] some = sym (append-nil (packed_text lines))
collected_packed lines (LineOctet b ∷ events) some =
    collected_packed (add_octet lines b) events (octet_some lines b)
    ∙ (ap (λ (t : List ℕ). t ++ packed_events events) (octet_packed lines b some) ∙ append_assoc (packed_text lines) (b ∷ []) (packed_events events))
collected_packed lines (LineEnd ∷ events) some =
    collected_packed (lines ++ [] ∷ []) events (omega (arith, length-append lines ([] ∷ [])))
    ∙ (ap (λ (t : List ℕ). t ++ packed_events events) (end_packed lines some) ∙ append_assoc (packed_text lines) (line_end 1) (packed_events events))

pub events_packed : EventsArePackedAsLines
events_packed events h = record { text = collected_packed ([] ∷ []) events (omega arith); make = collected_made ([] ∷ []) events h (omega arith, refl) }

-- ---- Lines that make a text.

pub packed : (lines : List (List ℕ)) → LinesMakeText lines → IsText (packed_text lines) lines
packed [] h = absurd (omega (arith, h.0))
packed (line ∷ []) h = ((and_parts (list_all is_line_octet line) true h.1).0, refl)
packed (line ∷ next ∷ lines) h =
    let parts = and_parts (list_all is_line_octet line) (list_all (list_all is_line_octet) (next ∷ lines)) h.1 in
    (parts.0, 1, omega arith, packed_text (next ∷ lines), refl, packed (next ∷ lines) (omega arith, parts.1))

pub made : (x : List ℕ) (lines : List (List ℕ)) → IsText x lines → LinesMakeText lines
made x [] h = absurd h
made x (line ∷ []) h = (omega arith, and_from (list_all is_line_octet line) true h.0 refl)
made x (line ∷ next ∷ lines) h =
    (omega arith, and_from (list_all is_line_octet line) (list_all (list_all is_line_octet) (next ∷ lines)) h.0 (made h.3 (next ∷ lines) h.5).1)

pub joined_lines : (lines : List (List ℕ)) → map octet_for (events_of_lines lines) ≡ join_with_byte 10 lines
joined_lines [] = refl
joined_lines (line ∷ []) = octets_of_line line
joined_lines (line ∷ next ∷ lines) =
    map-append octet_for (map LineOctet line) (LineEnd ∷ events_of_lines (next ∷ lines)) ∙ (λ i. octets_of_line line i ++ (10 ∷ joined_lines (next ∷ lines) i))
