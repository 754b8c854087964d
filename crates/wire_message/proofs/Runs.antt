-- Octets that match a state reach it when they are read, and a message reaches its end.
use Rattle.std.proofs.Common.{◌≡◌, ℕ, ◌+◌, ◌≤◌, Bool, true, false, ◌||◌, ◌==◌, ◌<◌, nat_lt, cond, List, [], ◌∷◌, ◌++◌, length, Some, None, refl, sym, ap, ◌∙◌, arith, inl, inr, append_assoc, append-nil}
use Rattle.wire_message.proofs.Names.{cond-true, cond-false, and_from, or_right, lt-ltb, and_left, nat_tests, or_assoc, or-false, Are, IsField, is_alphanumeric, is_info_octet, is_trailer_octet, is_filler_octet, is_text_octet, max_filler, max_number, max_words, max_info, max_trailer, is_digit, Header, header_of, IsHeader, IsFiller, IsGap, IsTrailer, EncodesInfo, fixed_header, has_feed, IsMessageState, so_far, lengthens_gap, ends, begins, is_octet_of, most_of_part, octets_of_part, HeaderPart, Source, Number, Priority, Category, Words, HeaderTexts, Place, Filler, InHeader, Info, Gap, Text, Trailer, AfterEnd, Are-head, Are-tail}
use Rattle.wire_message.proofs.Machine.{next, of, texts, texts_of, words_place, no_texts, put, Stands, unread, run, step_to, field_run, count_run, extends, reads_part, ends_next}
use Rattle.wire_message.proofs.Transitions.{field_none, join1, join2, join3, join4, join5, none}

-- ---- The header.

reads_filler : (f rest : List ℕ) → IsFiller f → run (Filler 0) (f ++ rest) ≡ run (Filler (length f)) rest
reads_filler f rest h = count_run (λ k. Filler k) (λ k b t lt. cond-true _ _ _ (extends is_filler_octet b k max_filler t lt)) f rest h

-- The parts, with later ones empty.
same_texts : (t : HeaderTexts) (n p c w : List ℕ) → t.number.items ≡ n → t.priority.items ≡ p → t.category.items ≡ c → t.words.items ≡ w
    → texts t.source.items n p c w ≡ t
same_texts t n p c w en ep ec ew = rw (sym en, sym ep, sym ec, sym ew) refl

-- The first digit of the number ends the source.
reads_number : (t : HeaderTexts) (n rest : List ℕ) → 0 < length t.source.items → IsField is_digit 1 max_number n
    → run (InHeader Source t) (n ++ rest) ≡ run (InHeader Number (put Number n t)) rest
reads_number t [] rest some h = absurd (omega (arith, h.1))
reads_number t (b ∷ n) rest some h =
    step_to (InHeader Source t) _ b (n ++ rest) (ends_next Source t b (Are-head is_digit b n h.0) some)
    ∙ reads_part Number (put Number (b ∷ []) t) n rest (Are-tail is_digit b n h.0) (omega (arith, h.2))

-- SP ends a part, and the next one is read.
reads_next : (part next : HeaderPart) (t : HeaderTexts) (xs rest : List ℕ) → ends part 32 ≡ true → 0 < length (octets_of_part part t)
    → begins part 32 t ≡ InHeader next t → octets_of_part next t ≡ [] → IsField (is_octet_of next) 0 (most_of_part next) xs
    → run (InHeader part t) (32 ∷ (xs ++ rest)) ≡ run (InHeader next (put next xs t)) rest
reads_next part next t xs rest on some then none h =
    step_to (InHeader part t) _ 32 (xs ++ rest) (ends_next part t 32 on some)
    ∙ (ap (λ (p : Place). run p (xs ++ rest)) then
    ∙ (reads_part next t xs rest h.0 (omega (arith, ap length none, h.2))
    ∙ ap (λ (u : List ℕ). run (InHeader next (put next (u ++ xs) t)) rest) none))

-- The parts so far are read, each after the one before it.
abbrev Reads : HeaderPart → Type 0
Reads part = (t : HeaderTexts) (f rest : List ℕ) → IsFiller f → IsMessageState (InHeader part t)
    → run (Filler 0) (f ++ (1 ∷ (so_far part t ++ rest))) ≡ run (InHeader part t) rest

regrouped : (f xs ys : List ℕ) → xs ≡ ys → run (Filler 0) (f ++ (1 ∷ xs)) ≡ run (Filler 0) (f ++ (1 ∷ ys))
regrouped f xs ys e = ap (λ (u : List ℕ). run (Filler 0) (f ++ (1 ∷ u))) e

to_source : Reads Source
to_source t f rest hf i =
    reads_filler f (1 ∷ (t.source.items ++ rest)) hf
    ∙ (reads_part Source no_texts t.source.items rest i.0.0 (omega (arith, i.0.2))
    ∙ ap (λ (u : HeaderTexts). run (InHeader Source u) rest)
    (same_texts t [] [] [] [] (none is_digit t.number.items i.1) (none is_digit t.priority.items i.2) (none is_alphanumeric t.category.items i.3)
    (none is_digit t.words.items i.4)))

to_number : Reads Number
to_number t f rest hf i =
    regrouped f _ _ (append_assoc t.source.items t.number.items rest)
    ∙ (to_source (put Number [] t) f (t.number.items ++ rest) hf ((i.0.0, omega arith, i.0.2), field_none is_digit 0, i.2, i.3, i.4)
    ∙ reads_number (put Number [] t) t.number.items rest i.0.1 i.1)

to_priority : Reads Priority
to_priority t f rest hf i =
    regrouped f (so_far Priority t ++ rest) (so_far Number t ++ (32 ∷ (t.priority.items ++ rest))) (simp append_assoc)
    ∙ (to_number (put Priority [] t) f (32 ∷ (t.priority.items ++ rest)) hf (i.0, i.1, field_none is_digit 0, i.3, i.4)
    ∙ reads_next Number Priority (put Priority [] t) t.priority.items rest refl i.1.1 refl refl i.2)

to_category : Reads Category
to_category t f rest hf i =
    regrouped f (so_far Category t ++ rest) (so_far Priority t ++ (32 ∷ (t.category.items ++ rest))) (simp append_assoc)
    ∙ (to_priority (put Category [] t) f (32 ∷ (t.category.items ++ rest)) hf (i.0, i.1, (i.2.0, omega arith, i.2.2), field_none is_alphanumeric 0, i.4)
    ∙ reads_next Priority Category (put Category [] t) t.category.items rest refl i.2.1 refl refl i.3)

to_words : Reads Words
to_words t f rest hf i =
    regrouped f (so_far Words t ++ rest) (so_far Category t ++ (32 ∷ (t.words.items ++ rest))) (simp append_assoc)
    ∙ (to_category (put Words [] t) f (32 ∷ (t.words.items ++ rest)) hf (i.0, i.1, i.2, (i.3.0, omega arith, i.3.2), field_none is_digit 0)
    ∙ reads_next Category Words (put Words [] t) t.words.items rest refl i.3.1 refl refl i.4)

to_part : (part : HeaderPart) → Reads part
to_part Source = to_source
to_part Number = to_number
to_part Priority = to_priority
to_part Category = to_category
to_part Words = to_words

abbrev words_of : Header → Place
words_of h = InHeader Words (texts_of h)

to_header : (f : List ℕ) (h : Header) (rest : List ℕ) → IsFiller f → IsHeader h → run (Filler 0) (f ++ (1 ∷ (fixed_header h ++ rest))) ≡ run (words_of h) rest
to_header f h rest hf p = to_words (texts_of h) f rest hf (words_place h p)

-- ---- The info and the gap.

abbrev with_info : Header → List ℕ → Header
with_info h i = header_of h.source h.number h.priority h.category h.words i

reads_info : (h : Header) (i rest : List ℕ) → IsField is_digit 1 max_words h.words → IsField is_info_octet 0 max_info i
    → run (words_of h) (32 ∷ (i ++ rest)) ≡ run (Info (with_info h i)) rest
reads_info h i rest hw hi =
    step_to (words_of h) _ 32 (i ++ rest) (ends_next Words (texts_of h) 32 refl hw.1)
    ∙ field_run (λ ys. Info (with_info h ys)) is_info_octet max_info
    (λ ys d t lt. cond-true _ _ _ (extends is_info_octet d (length ys) max_info t lt)) i [] rest hi.0 (omega (arith, hi.2))

same_gap : (h : Header) (k j : ℕ) (f g : Bool) (rest : List ℕ) → k ≡ j → f ≡ g → run (Gap h k f) rest ≡ run (Gap h j g) rest
same_gap h k j f g rest e d = rw (e, d) refl

-- An octet of a gap may come if the gap can continue after the last one.
gap_octet : (b : ℕ) (xs : List ℕ) (k : ℕ) (feed : Bool) → is_filler_octet b ≡ true → k + length (b ∷ xs) ≤ max_filler
    → ((feed || has_feed (b ∷ xs)) || nat_lt (k + length (b ∷ xs)) max_filler) ≡ true → lengthens_gap k feed b ≡ true
gap_octet b [] k feed t le on = and_from _ _ (extends is_filler_octet b k max_filler t (omega arith)) (rw (or-false (b == 10)) at on)
gap_octet b (c ∷ xs) k feed t le on =
    and_from _ _ (extends is_filler_octet b k max_filler t (omega arith)) (or_right (feed || b == 10) _ (lt-ltb (k + 1) max_filler (omega arith)))

reads_gap : (h : Header) (xs : List ℕ) (k : ℕ) (feed : Bool) (rest : List ℕ) → Are is_filler_octet xs → k + length xs ≤ max_filler
    → ((feed || has_feed xs) || nat_lt (k + length xs) max_filler) ≡ true
    → run (Gap h k feed) (xs ++ rest) ≡ run (Gap h (k + length xs) (feed || has_feed xs)) rest
reads_gap h [] k feed rest t le on = same_gap h k (k + 0) feed (feed || false) rest (omega arith) (sym (or-false feed))
reads_gap h (b ∷ xs) k feed rest t le on =
    let count : (k + 1) + length xs ≡ k + length (b ∷ xs) = omega arith in
    let feeds : ((feed || b == 10) || has_feed xs) ≡ (feed || has_feed (b ∷ xs)) = or_assoc feed (b == 10) (has_feed xs) in
    step_to (Gap h k feed) (Gap h (k + 1) (feed || b == 10)) b (xs ++ rest) (cond-true _ _ _ (gap_octet b xs k feed (Are-head is_filler_octet b xs t) le on))
    ∙ (reads_gap h xs (k + 1) (feed || b == 10) rest (Are-tail is_filler_octet b xs t) (omega arith) (rw (count, feeds) on)
    ∙ same_gap h ((k + 1) + length xs) (k + length (b ∷ xs)) ((feed || b == 10) || has_feed xs) (feed || has_feed (b ∷ xs)) rest count feeds)

-- the gap so far can continue
abbrev GapContinues : List ℕ → Type 0
GapContinues gap = (has_feed gap || nat_lt (length gap) max_filler) ≡ true

no_space : (b : ℕ) → is_filler_octet b ≡ true → (b == 32) ≡ false
no_space b fills = grind (arith, nat_tests)

no_info : (b : ℕ) → is_filler_octet b ≡ true → is_info_octet b ≡ false
no_info b fills = grind (arith, nat_tests)

-- A gap after the part that its first octet ends.
first_gap : (p : Place) (h : Header) (gap rest : List ℕ) → ((b : ℕ) → is_filler_octet b ≡ true → next p b ≡ Some (Gap h 1 (b == 10)))
    → IsField is_filler_octet 1 max_filler gap → GapContinues gap → run p (gap ++ rest) ≡ run (Gap h (length gap) (has_feed gap)) rest
first_gap p h [] rest step g on = absurd (omega (arith, g.1))
first_gap p h (b ∷ gap) rest step g on =
    let count : 1 + length gap ≡ length (b ∷ gap) = omega arith in
    step_to p (Gap h 1 (b == 10)) b (gap ++ rest) (step b (Are-head is_filler_octet b gap g.0))
    ∙ (reads_gap h gap 1 (b == 10) rest (Are-tail is_filler_octet b gap g.0) (omega (arith, g.2)) (rw count on)
    ∙ same_gap h (1 + length gap) (length (b ∷ gap)) (has_feed (b ∷ gap)) (has_feed (b ∷ gap)) rest count refl)

ends_words : (h : Header) (b : ℕ) → h.info ≡ [] → 0 < length h.words → is_filler_octet b ≡ true → next (words_of h) b ≡ Some (Gap h 1 (b == 10))
ends_words h b none some fills =
    ends_next Words (texts_of h) b (or_right (b == 32) (is_filler_octet b) fills) some
    ∙ (ap (λ (k : Bool). Some (cond k (Info (with_info h [])) (Gap (with_info h []) 1 (b == 10)))) (no_space b fills)
    ∙ ap (λ (u : List ℕ). Some (Gap (with_info h u) 1 (b == 10))) (sym none))

ends_info : (h : Header) (b : ℕ) → is_filler_octet b ≡ true → next (Info h) b ≡ Some (Gap h 1 (b == 10))
ends_info h b fills = cond-false _ _ _ (and_left (is_info_octet b) (nat_lt (length h.info) max_info) (no_info b fills)) ∙ cond-true _ _ _ fills

to_gap : (h : Header) (spelled gap rest : List ℕ) → IsHeader h → EncodesInfo h.info spelled → IsField is_filler_octet 1 max_filler gap → GapContinues gap
    → run (words_of h) (spelled ++ (gap ++ rest)) ≡ run (Gap h (length gap) (has_feed gap)) rest
to_gap h spelled gap rest p (inl none) g on = rw none.1 (first_gap (words_of h) h gap rest (λ b. ends_words h b none.0 p.words.1) g on)
to_gap h spelled gap rest p (inr some) g on =
    rw some (reads_info h h.info (gap ++ rest) p.words p.info ∙ first_gap (Info h) h gap rest (ends_info h) g on)

-- ---- The text and what follows.

whole_gap : (gap : List ℕ) → IsGap gap → GapContinues gap
whole_gap gap g = ap (λ (t : Bool). t || nat_lt (length gap) max_filler) g.1

to_text : (h : Header) (spelled gap text rest : List ℕ) → IsHeader h → EncodesInfo h.info spelled → IsGap gap → Are is_text_octet text
    → run (words_of h) (spelled ++ (gap ++ (2 ∷ (text ++ rest)))) ≡ run (Text h None) rest
to_text h spelled gap text rest p sp g x =
    to_gap h spelled gap (2 ∷ (text ++ rest)) p sp g.0 (whole_gap gap g)
    ∙ (step_to (Gap h (length gap) (has_feed gap)) (Text h None) 2 (text ++ rest) (cond-true _ _ _ g.1)
    ∙ field_run (λ ys. Text h None) is_text_octet (length text) (λ ys b t lt. cond-true _ _ _ t) text [] rest x (omega arith))

to_trailer : (h : Header) (spelled gap text trailer rest : List ℕ) → IsHeader h → EncodesInfo h.info spelled → IsGap gap → Are is_text_octet text
    → IsTrailer trailer
    → run (words_of h) (spelled ++ (gap ++ (2 ∷ (text ++ (3 ∷ (trailer ++ rest)))))) ≡ run (Trailer h (of trailer)) rest
to_trailer h spelled gap text trailer rest p sp g x t =
    to_text h spelled gap text (3 ∷ (trailer ++ rest)) p sp g x
    ∙ field_run (λ ys. Trailer h (of ys)) is_trailer_octet max_trailer
    (λ ys b q lt. cond-true _ _ _ (extends is_trailer_octet b (length ys) max_trailer q lt)) trailer [] rest t.0 (omega (arith, t.2))

-- ---- Octets that match a state reach it.

-- What follows is read from that state on.
runs_on : (octets text rest : List ℕ) (p : Place) → Stands octets text p → run (Filler 0) (octets ++ rest) ≡ run (unread p) rest
runs_on octets text rest (Filler k) s = reads_filler octets rest s.spelled.0 ∙ ap (λ (n : ℕ). run (Filler n) rest) s.spelled.1
runs_on octets text rest (InHeader part t) s =
    let l = s.spelled in
    rw (l.2, append_assoc l.0 (1 ∷ so_far part t) rest) (to_part part t l.0 rest l.1 s.bare)
runs_on octets text rest (Info h) s =
    let l = s.spelled in
    rw (l.2, join1 l.0 (fixed_header h) (32 ∷ h.info) rest)
    (to_header l.0 h (32 ∷ (h.info ++ rest)) l.1 s.bare ∙ reads_info h h.info rest s.bare.words s.bare.info)
runs_on octets text rest (Gap h k feed) s =
    let l = s.spelled in
    let i = s.bare in
    let is_gap : IsField is_filler_octet 1 max_filler l.2 = (l.5, omega (arith, i.1, l.6), omega (arith, i.2, l.6)) in
    let on : GapContinues l.2 = rw (l.6, l.7) i.3 in
    rw (l.8, join2 l.0 (fixed_header h) l.1 l.2 rest)
    (to_header l.0 h (l.1 ++ (l.2 ++ rest)) l.3 i.0
    ∙ (to_gap h l.1 l.2 rest i.0 l.4 is_gap on ∙ same_gap h (length l.2) k (has_feed l.2) feed rest l.6 l.7))
runs_on octets text rest (Text h reader) s =
    let l = s.spelled in
    rw (l.7, join3 l.0 (fixed_header h) l.1 l.2 text rest)
    (to_header l.0 h (l.1 ++ (l.2 ++ (2 ∷ (text ++ rest)))) l.3 s.bare ∙ to_text h l.1 l.2 text rest s.bare l.4 l.5 l.6)
runs_on octets text rest (Trailer h t) s =
    let l = s.spelled in
    rw (l.7, join4 l.0 (fixed_header h) l.1 l.2 text t.items rest)
    (to_header l.0 h (l.1 ++ (l.2 ++ (2 ∷ (text ++ (3 ∷ (t.items ++ rest)))))) l.3 s.bare.0
    ∙ to_trailer h l.1 l.2 text t.items rest s.bare.0 l.4 l.5 l.6 s.bare.1)
runs_on octets text rest (AfterEnd h t k) s =
    let m = s.spelled.0 in
    rw (m.parts, join5 m.before (fixed_header h) m.info m.gap text t.items m.after rest)
    (to_header m.before h (m.info ++ (m.gap ++ (2 ∷ (text ++ (3 ∷ (t.items ++ (4 ∷ (m.after ++ rest)))))))) m.is_before m.is_header
    ∙ (to_trailer h m.info m.gap text t.items (4 ∷ (m.after ++ rest)) m.is_header m.is_info m.is_gap m.is_text m.is_trailer
    ∙ (count_run (λ k. AfterEnd h t k) (λ k b q lt. cond-true _ _ _ (extends is_filler_octet b k max_filler q lt)) m.after rest m.is_after
    ∙ ap (λ (n : ℕ). run (AfterEnd h t n) rest) s.spelled.1)))

pub spelled_runs : {octets text : List ℕ} {p : Place} → Stands octets text p → run (Filler 0) octets ≡ Some (unread p)
spelled_runs {octets} {text} {p} s = rw (append-nil octets) at (runs_on octets text [] p s)
