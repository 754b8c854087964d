-- The words of lines.
use Rattle.std.proofs.Common.{◌≡◌, ℕ, ◌+◌, cond, Bool, true, false, not, List, [], ◌∷◌, ◌++◌, length, map, inl, inr, refl, sym, ap, subst, ◌∙◌, arith, append-nil}
use Rattle.std.proofs.lemmas.Bool.{cases_Bool, both_ways}
use Rattle.std.proofs.lemmas.List.Sums.{sum_by-cons}
use Rattle.wire_story.specs.Format.Texts.{LineOctet, LineEnd, delivered, events_of_lines, is_word_octet, is_blank, words_begun, words_in, words, EndsWord, HasWords, capped, words_of_events}
use Rattle.wire_story.specs.{Laws.WordsAreLongestRuns, Laws.TextsAreCountedAsLines, Steps.told-append}
use Rattle.wire_story.proofs.{Spans.Are, Spans.Are-head, Spans.Are-tail, Spans.Are-cons, Spans.span, Spans.no_stop, Told.delivered_lines}
use Rattle.std.proofs.lemmas.Bool.Decides.{nat_tests}

-- ---- The number of longest slices.

-- No word begins with a blank.
blank_first : (b : ℕ) (inside : Bool) (xs : List ℕ) → is_blank b ≡ true → words_begun inside (b ∷ xs) ≡ words_begun false xs
blank_first b inside xs e = grind (arith, nat_tests)

-- With an octet of a word one begins if none is in progress.
word_first : (b : ℕ) (inside : Bool) (xs : List ℕ) → is_word_octet b ≡ true → words_begun inside (b ∷ xs) ≡ cond inside 0 1 + words_begun true xs
word_first b inside xs e = grind (arith, nat_tests)

count_blank : (xs rest : List ℕ) → Are is_blank xs → words_begun false (xs ++ rest) ≡ words_begun false rest
count_blank [] rest h = refl
count_blank (b ∷ xs) rest h = blank_first b false (xs ++ rest) (Are-head is_blank b xs h) ∙ count_blank xs rest (Are-tail is_blank b xs h)

count_word : (xs rest : List ℕ) → Are is_word_octet xs → words_begun true (xs ++ rest) ≡ words_begun true rest
count_word [] rest h = refl
count_word (b ∷ xs) rest h = omega (arith, word_first b true (xs ++ rest) (Are-head is_word_octet b xs h), count_word xs rest (Are-tail is_word_octet b xs h))

count_after : (rest : List ℕ) → EndsWord rest → words_begun true rest ≡ words_begun false rest
count_after [] h = refl
count_after (b ∷ xs) h = blank_first b true xs (ap not h) ∙ sym (blank_first b false xs (ap not h))

count_is : (line : List ℕ) (found : List (List ℕ)) → HasWords line found → words_in line ≡ length found
count_is line [] h = ap (words_begun false) (sym (append-nil line)) ∙ count_blank line [] h
count_is line ([] ∷ others) h = absurd (omega (arith, h.2.0))
count_is line ((b ∷ ws) ∷ others) h =
    let first : words_begun false line ≡ words_begun false (b ∷ (ws ++ h.3)) = ap (words_begun false) h.4 ∙ count_blank h.0 (b ∷ (ws ++ h.3)) h.1 in
    let begun = word_first b false (ws ++ h.3) (Are-head is_word_octet b ws h.2.1) in
    omega (arith, first, begun, count_word ws h.3 (Are-tail is_word_octet b ws h.2.1), count_after h.3 h.5, count_is h.3 others h.6)

-- ---- Each line has words.

-- The octets of a word at the beginning, perhaps none, and the words of what follows them.
record Split (line : List ℕ) : Type 0 where
  word : List ℕ
  rest : List ℕ
  found : List (List ℕ)
  is_word : Are is_word_octet word
  parts : line ≡ word ++ rest
  ends : EndsWord rest
  has : HasWords rest found

blank_before : (b : ℕ) (rest : List ℕ) (found : List (List ℕ)) → is_word_octet b ≡ false → HasWords rest found → HasWords (b ∷ rest) found
blank_before b rest [] e h = Are-cons is_blank b rest (ap not e) h
blank_before b rest (word ∷ others) e h =
    (b ∷ h.0, Are-cons is_blank b h.0 (ap not e) h.1, h.2, h.3, ap (λ (u : List ℕ). b ∷ u) h.4, h.5, h.6)

-- The words of a word, perhaps empty, and of what follows it.
with_word : (word rest line : List ℕ) (found : List (List ℕ)) → Are is_word_octet word → line ≡ word ++ rest → EndsWord rest → HasWords rest found
    → (all : List (List ℕ)) × HasWords line all
with_word [] rest line found is parts ends has = (found, subst (λ (u : List ℕ). HasWords u found) (sym parts) has)
with_word (c ∷ w) rest line found is parts ends has = ((c ∷ w) ∷ found, ([], refl, (omega arith, is), rest, parts, ends, has))

all_words : {line : List ℕ} → Split line → (all : List (List ℕ)) × HasWords line all
all_words {line = line} s = with_word s.word s.rest line s.found s.is_word s.parts s.ends s.has

split : (line : List ℕ) → Split line
split [] = record { word = []; rest = []; found = []; is_word = refl; parts = refl; ends = tt; has = refl }
split (b ∷ xs) =
    let s = split xs in
    let all = all_words s in
    elim (cases_Bool (is_word_octet b)) [
      | inl e ↦ record {
        word = b ∷ s.word;
        rest = s.rest;
        found = s.found;
        is_word = Are-cons is_word_octet b s.word e s.is_word;
        parts = ap (λ (u : List ℕ). b ∷ u) s.parts;
        ends = s.ends;
        has = s.has;
      }
      | inr e ↦ record { word = []; rest = b ∷ xs; found = all.0; is_word = refl; parts = refl; ends = e; has = blank_before b xs all.0 e all.1 }
    ]

-- ---- In one way.

-- What ends a word begins no word.
no_word : (b : ℕ) (w x y : List ℕ) → Are is_word_octet (b ∷ w) → EndsWord x → x ≡ b ∷ (w ++ y) → ⊥
no_word b w [] y is ends e = cc
no_word b w (c ∷ x) y is ends e = let same : c ≡ b = cc in both_ways (is_word_octet c) ends (ap is_word_octet same ∙ Are-head is_word_octet b w is)

-- A word is determined, and so is what follows it.
same_word : (v w x y : List ℕ) → Are is_word_octet v → Are is_word_octet w → EndsWord x → EndsWord y → v ++ x ≡ w ++ y → (v ≡ w) × (x ≡ y)
same_word [] [] x y iv iw ex ey e = (refl, e)
same_word [] (b ∷ w) x y iv iw ex ey e = absurd (no_word b w x y iw ex e)
same_word (b ∷ v) [] x y iv iw ex ey e = absurd (no_word b v y x iv ey (sym e))
same_word (b ∷ v) (c ∷ w) x y iv iw ex ey e =
    let first : b ≡ c = cc in
    let rest : v ++ x ≡ w ++ y = cc in
    let more = same_word v w x y (Are-tail is_word_octet b v iv) (Are-tail is_word_octet c w iw) ex ey rest in
    let others : v ≡ w = more.0 in
    (cc, more.1)

-- The first octet of a word is not a blank.
word_is : (b : ℕ) (ws : List ℕ) → Are is_word_octet (b ∷ ws) → is_blank b ≡ false
word_is b ws h = ap not (Are-head is_word_octet b ws h)

one_way : (line : List ℕ) (found others : List (List ℕ)) → HasWords line found → HasWords line others → found ≡ others
one_way line [] [] h k = refl
one_way line [] ([] ∷ others) h k = absurd (omega (arith, k.2.0))
one_way line [] ((b ∷ ws) ∷ others) h k = absurd (no_stop is_blank k.0 b (ws ++ k.3) (subst (Are is_blank) k.4 h) (word_is b ws k.2.1))
one_way line ([] ∷ found) others h k = absurd (omega (arith, h.2.0))
one_way line ((b ∷ ws) ∷ found) [] h k = absurd (no_stop is_blank h.0 b (ws ++ h.3) (subst (Are is_blank) h.4 k) (word_is b ws h.2.1))
one_way line ((b ∷ ws) ∷ found) ([] ∷ others) h k = absurd (omega (arith, k.2.0))
one_way line ((b ∷ ws) ∷ found) ((c ∷ vs) ∷ others) h k =
    let s = span is_blank h.0 k.0 b c (ws ++ h.3) (vs ++ k.3) h.1 k.1 (word_is b ws h.2.1) (word_is c vs k.2.1) (sym h.4 ∙ k.4) in
    let w = same_word (b ∷ ws) (c ∷ vs) h.3 k.3 h.2.1 k.2.1 h.5 k.5 s.1 in
    let first : ◌≡◌ {A = List ℕ} (b ∷ ws) (c ∷ vs) = w.0 in
    let more : found ≡ others = one_way h.3 found others h.6 (subst (λ (u : List ℕ). HasWords u others) (sym w.1) k.6) in
    cc

pub longest_runs : WordsAreLongestRuns
longest_runs line = record { some = all_words (split line); one = one_way line; count = count_is line }

-- ---- Words of events.

pub told_last : (inside : Bool) (line : List ℕ) → words_of_events inside (map LineOctet line) ≡ words_begun inside line
told_last inside [] = refl
told_last inside (b ∷ xs) = omega (arith, told_last (is_word_octet b) xs)

told_lines : (lines : List (List ℕ)) → words_of_events false (events_of_lines lines) ≡ words lines
told_lines [] = refl
told_lines (line ∷ []) = omega (arith, told_last false line)
told_lines (line ∷ next ∷ lines) =
    let parts = (told-append false (map LineOctet line) (LineEnd ∷ events_of_lines (next ∷ lines))).0 in
    omega (arith, parts, told_last false line, told_lines (next ∷ lines), sum_by-cons words_in line (next ∷ lines))

pub texts_counted : TextsAreCountedAsLines
texts_counted x lines old new text none out counts =
    let told : words_of_events old.inside (delivered x) ≡ words lines =
    ap (λ (inside : Bool). words_of_events inside (delivered x)) out ∙ (ap (words_of_events false) (delivered_lines x lines text) ∙ told_lines lines) in
    let all : old.words + words_of_events old.inside (delivered x) ≡ words lines = omega (arith, none, told) in
    counts.words (omega (arith, none)) ∙ ap capped all
