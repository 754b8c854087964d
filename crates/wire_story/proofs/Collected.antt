-- Lines that are stored joined by LF grow with the events.
use Rattle.std.proofs.Common.{◌≡◌, ℕ, ◌+◌, ◌<◌, ◌≤◌, true, false, ◌==◌, List, [], ◌∷◌, ◌++◌, length, take, drop, cond, map, count_by, IsTrue, inl, inr, refl, sym, ap, subst, ◌∙◌, arith, append-nil, append_assoc, length-append}
use Rattle.std.proofs.lemmas.List.{take_rest, drop-drop}
use Rattle.std.proofs.lemmas.List.Sums.{sum_by-take-drop, count_by-le-length}
use Rattle.std.specs.List.{slice_range, onto_first, list_all, join_with_byte}
use Rattle.std.proofs.lemmas.Bool.{and_parts, and_from, cases_Bool}
use Rattle.std.proofs.lemmas.List.Splits.{slice_split-cons_yes, slice_split-cons_no, length-slice_split, join_with_byte-slice_split}
use Rattle.std.proofs.lemmas.List.Folds.{list_all-append}
use Rattle.wire_story.specs.Format.Texts.{is_line_octet, IsLine, IsText, IsTextSoFar, LinesMakeText, packed_text, StoryEvent, LineOctet, LineEnd, delivered, events_of_lines}
use Rattle.wire_story.specs.{States.Reading.add_octet, States.Reading.collect, Format.Packing.AreStoryEvents, Steps.lines_in, Steps.collect-append}
use Rattle.wire_story.specs.Laws.{TextsHaveOneReading, TextsSoFarHaveOneReading}
use Rattle.wire_story.proofs.{Spans.Are-head, Spans.Are-tail, Spans.Are-append, HeldReturns.not_at, HeldReturns.held_is}
use Rattle.wire_story.proofs.Told.{delivered_lines, delivered_so_far}
use Rattle.std.proofs.lemmas.Option.{same_Some}

-- ---- The lines that are stored.

pub some_line : (octets : List ℕ) → 0 < length (lines_in octets)
some_line octets = omega (arith, length-slice_split (λ b. b == 10) octets)

first_more : (x b : ℕ) (parts : List (List ℕ)) → 0 < length parts → onto_first x (add_octet parts b) ≡ add_octet (onto_first x parts) b
first_more x b [] some = absurd (omega (arith, some))
first_more x b (part ∷ []) some = refl
first_more x b (part ∷ next ∷ parts) some = refl

empty_more : (b : ℕ) (parts : List (List ℕ)) → 0 < length parts → [] ∷ add_octet parts b ≡ add_octet ([] ∷ parts) b
empty_more b [] some = absurd (omega (arith, some))
empty_more b (part ∷ parts) some = refl

first_end : (x : ℕ) (parts : List (List ℕ)) → 0 < length parts → onto_first x (parts ++ [] ∷ []) ≡ onto_first x parts ++ [] ∷ []
first_end x [] some = absurd (omega (arith, some))
first_end x (part ∷ parts) some = refl

-- What one more octet does to the lines does not depend on the octets before the last line.
push_by : (f : List (List ℕ) → List (List ℕ)) (b : ℕ) → ((parts : List (List ℕ)) → 0 < length parts → [] ∷ f parts ≡ f ([] ∷ parts))
    → ((x : ℕ) (parts : List (List ℕ)) → 0 < length parts → onto_first x (f parts) ≡ f (onto_first x parts)) → lines_in (b ∷ []) ≡ f ([] ∷ [])
    → (xs : List ℕ) → lines_in (xs ++ b ∷ []) ≡ f (lines_in xs)
push_by f b empty first one [] = one
push_by f b empty first one (x ∷ xs) =
    let more = push_by f b empty first one xs in
    elim (cases_Bool (x == 10)) [
      | inl e ↦
          slice_split-cons_yes (λ b. b == 10) x (xs ++ b ∷ []) e ∙ ap (λ (lines : List (List ℕ)). [] ∷ lines) more
          ∙ empty (lines_in xs) (some_line xs) ∙ ap f (sym (slice_split-cons_yes (λ b. b == 10) x xs e))
      | inr e ↦
          slice_split-cons_no (λ b. b == 10) x (xs ++ b ∷ []) e ∙ ap (onto_first x) more
          ∙ first x (lines_in xs) (some_line xs) ∙ ap f (sym (slice_split-cons_no (λ b. b == 10) x xs e))
    ]

-- An octet of a line is appended to the last line.
push_octet : (xs : List ℕ) (b : ℕ) → (b == 10) ≡ false → lines_in (xs ++ b ∷ []) ≡ add_octet (lines_in xs) b
push_octet xs b n = push_by (λ lines. add_octet lines b) b (empty_more b) (λ x. first_more x b) (slice_split-cons_no (λ b. b == 10) b [] n) xs

-- An LF begins an empty line.
pub push_end : (xs : List ℕ) → lines_in (xs ++ 10 ∷ []) ≡ lines_in xs ++ [] ∷ []
push_end xs = push_by (λ lines. lines ++ [] ∷ []) 10 (λ parts some. refl) first_end refl xs

pub push_run : (octets run : List ℕ) → IsLine run → lines_in (octets ++ run) ≡ collect (lines_in octets) (map LineOctet run)
push_run octets [] l = ap lines_in (append-nil octets)
push_run octets (b ∷ bs) l =
    let octet : (b == 10) ≡ false = not_at b 10 (Are-head is_line_octet b bs l) refl in
    ap lines_in (sym (append_assoc octets (b ∷ []) bs))
    ∙ (push_run (octets ++ b ∷ []) bs (Are-tail is_line_octet b bs l)
    ∙ ap (λ (lines : List (List ℕ)). collect lines (map LineOctet bs)) (push_octet octets b octet))

-- ---- The lines make a text.

abbrev pub EachLine : List (List ℕ) → Type 0
EachLine lines = IsTrue (list_all (list_all is_line_octet) lines)

pub octet_made : (lines : List (List ℕ)) (b : ℕ) → is_line_octet b ≡ true → EachLine lines → EachLine (add_octet lines b)
octet_made [] b t h = and_from (list_all is_line_octet (b ∷ [])) true (and_from (is_line_octet b) true t refl) refl
octet_made (line ∷ []) b t h =
    let parts = and_parts (list_all is_line_octet line) true h in
    and_from (list_all is_line_octet (line ++ b ∷ [])) true (Are-append is_line_octet line (b ∷ []) parts.0 (and_from (is_line_octet b) true t refl)) refl
octet_made (line ∷ next ∷ lines) b t h =
    let parts = and_parts (list_all is_line_octet line) (list_all (list_all is_line_octet) (next ∷ lines)) h in
    and_from (list_all is_line_octet line) (list_all (list_all is_line_octet) (add_octet (next ∷ lines) b)) parts.0 (octet_made (next ∷ lines) b t parts.1)

pub octet_some : (lines : List (List ℕ)) (b : ℕ) → 0 < length (add_octet lines b)
octet_some [] b = omega arith
octet_some (line ∷ []) b = omega arith
octet_some (line ∷ next ∷ lines) b = omega arith

-- Lines collected from events make a text.
pub collected_made : (lines : List (List ℕ)) (events : List StoryEvent) → AreStoryEvents events → LinesMakeText lines → LinesMakeText (collect lines events)
collected_made lines [] h made = made
collected_made lines (LineOctet b ∷ events) h made = collected_made (add_octet lines b) events h.1 (octet_some lines b, octet_made lines b h.0 made.1)
collected_made lines (LineEnd ∷ events) h made =
    collected_made (lines ++ [] ∷ []) events h.1 (
      omega (arith, length-append lines ([] ∷ [])),
      list_all-append (list_all is_line_octet) lines ([] ∷ []) ∙ and_from (list_all (list_all is_line_octet) lines) true made.1 refl,
    )

line_events : (run : List ℕ) → IsLine run → AreStoryEvents (map LineOctet run)
line_events [] l = tt
line_events (b ∷ bs) l = (Are-head is_line_octet b bs l, line_events bs (Are-tail is_line_octet b bs l))

pub text_made : (octets run : List ℕ) → IsLine run → LinesMakeText (lines_in octets) → LinesMakeText (lines_in (octets ++ run))
text_made octets run l h = subst LinesMakeText (sym (push_run octets run l)) (collected_made (lines_in octets) (map LineOctet run) (line_events run l) h)

pub end_made : (octets : List ℕ) → LinesMakeText (lines_in octets) → LinesMakeText (lines_in (octets ++ 10 ∷ []))
end_made octets h = subst LinesMakeText (sym (push_end octets)) (collected_made (lines_in octets) (LineEnd ∷ []) (tt, tt) h)

-- ---- The lines collected from a text.

pub add_last : (front : List (List ℕ)) (line : List ℕ) (b : ℕ) → add_octet (front ++ line ∷ []) b ≡ front ++ (line ++ b ∷ []) ∷ []
add_last [] line b = refl
add_last (f ∷ []) line b = refl
add_last (f ∷ g ∷ fs) line b = ap (λ (lines : List (List ℕ)). f ∷ lines) (add_last (g ∷ fs) line b)

pub line_collected : (front : List (List ℕ)) (line more : List ℕ) → collect (front ++ line ∷ []) (map LineOctet more) ≡ front ++ (line ++ more) ∷ []
line_collected front line [] = ap (λ (t : List ℕ). front ++ t ∷ []) (sym (append-nil line))
line_collected front line (b ∷ bs) =
    ap (λ (lines : List (List ℕ)). collect lines (map LineOctet bs)) (add_last front line b)
    ∙ (line_collected front (line ++ b ∷ []) bs ∙ ap (λ (t : List ℕ). front ++ t ∷ []) (append_assoc line (b ∷ []) bs))

lines_collected : (front : List (List ℕ)) (line : List ℕ) (lines : List (List ℕ))
    → collect (front ++ [] ∷ []) (events_of_lines (line ∷ lines)) ≡ front ++ line ∷ lines
lines_collected front line [] = line_collected front [] line
lines_collected front line (next ∷ lines) =
    collect-append (front ++ [] ∷ []) (map LineOctet line) (LineEnd ∷ events_of_lines (next ∷ lines))
    ∙ (ap (λ (ls : List (List ℕ)). collect ls (LineEnd ∷ events_of_lines (next ∷ lines))) (line_collected front [] line)
    ∙ (lines_collected (front ++ line ∷ []) next lines ∙ append_assoc front (line ∷ []) (next ∷ lines)))

pub text_collected : (x : List ℕ) (lines : List (List ℕ)) → IsText x lines → collect ([] ∷ []) (delivered x) ≡ lines
text_collected x [] h = absurd h
text_collected x (line ∷ lines) h = ap (collect ([] ∷ [])) (delivered_lines x (line ∷ lines) h) ∙ lines_collected [] line lines

-- The lines collected from a text so far.
pub so_far_collected : (x : List ℕ) (lines : List (List ℕ)) (line : List ℕ) (held : ℕ) → IsTextSoFar x lines line held
    → collect ([] ∷ []) (delivered x) ≡ lines ++ line ∷ []
so_far_collected x [] line held h = ap (collect ([] ∷ [])) (delivered_so_far x [] line held h) ∙ lines_collected [] line []
so_far_collected x (f ∷ fs) line held h = ap (collect ([] ∷ [])) (delivered_so_far x (f ∷ fs) line held h) ∙ lines_collected [] f (fs ++ line ∷ [])

-- ---- Octets are lines in at most one way: as they are collected.

pub one_text : TextsHaveOneReading
one_text x lines others h k = sym (text_collected x lines h) ∙ text_collected x others k

-- The last line is determined, and so are those before it.
last_is : (xs ys : List (List ℕ)) (a b : List ℕ) → xs ++ a ∷ [] ≡ ys ++ b ∷ [] → (xs ≡ ys) × (a ≡ b)
last_is [] [] a b e = (refl, cc)
last_is [] (y ∷ ys) a b e = absurd (omega (arith, ap length e, length-append ys (b ∷ [])))
last_is (x ∷ xs) [] a b e = absurd (omega (arith, ap length e, length-append xs (a ∷ [])))
last_is (x ∷ xs) (y ∷ ys) a b e =
    let first : x ≡ y = cc in
    let more = last_is xs ys a b cc in
    let rest : xs ≡ ys = more.0 in
    (cc, more.1)

pub one_text_so_far : TextsSoFarHaveOneReading
one_text_so_far x lines others line other held returns h k =
    let s = last_is lines others line other (sym (so_far_collected x lines line held h) ∙ so_far_collected x others other returns k) in
    (s.0, s.1, same_Some held returns (sym (held_is x lines line held h) ∙ held_is x others other returns k))

-- ---- The length of packed lines.

packed_more : (lines : List (List ℕ)) → 0 < length lines → length (packed_text lines) + 1 ≡ length (join_with_byte 10 lines) + length lines
packed_more [] some = absurd (omega (arith, some))
packed_more (line ∷ []) some = refl
packed_more (line ∷ next ∷ lines) some =
    let more : length (packed_text (next ∷ lines)) + 1 ≡ length (join_with_byte 10 (next ∷ lines)) + length (next ∷ lines) = packed_more (next ∷ lines)
    (omega arith) in
    omega (arith, more, length-append line (13 ∷ 10 ∷ packed_text (next ∷ lines)), length-append line (10 ∷ join_with_byte 10 (next ∷ lines)))

pub packed_len : (octets : List ℕ) → length (packed_text (lines_in octets)) ≡ length octets + count_by (λ b. b == 10) octets
packed_len octets =
    omega (arith, packed_more (lines_in octets) (some_line octets), ap length (join_with_byte-slice_split 10 octets), length-slice_split (λ b. b == 10) octets)

-- ---- The number of LF.

-- The LF of the next block, and of what follows it.
pub next_feeds : (xs : List ℕ) (at : ℕ)
    → count_by (λ b. b == 10) (take 16 (slice_range xs at (length xs))) + count_by (λ b. b == 10) (drop (at + 16) xs) ≡ count_by (λ b. b == 10) (drop at xs)
next_feeds xs at =
    ap (λ (ys : List ℕ). count_by (λ b. b == 10) (take 16 ys) + count_by (λ b. b == 10) (drop (at + 16) xs)) (take_rest xs at)
    ∙ ap (λ (ys : List ℕ). count_by (λ b. b == 10) (take 16 (drop at xs)) + count_by (λ b. b == 10) ys) (sym (drop-drop 16 at xs))
    ∙ sum_by-take-drop (λ b. cond (b == 10) 1 0) (drop at xs) 16

-- The LF of all that remains.
pub rest_feeds : (xs : List ℕ) (at : ℕ) → count_by (λ b. b == 10) (slice_range xs at (length xs)) ≡ count_by (λ b. b == 10) (drop at xs)
rest_feeds xs at = ap (count_by (λ b. b == 10)) (take_rest xs at)

pub few_feeds : (xs : List ℕ) → count_by (λ b. b == 10) xs ≤ length xs
few_feeds xs = count_by-le-length (λ b. b == 10) xs
