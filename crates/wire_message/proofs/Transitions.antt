-- What further octets reach from each state; how a part of the header is extended, and how the next
-- one begins.
use Rattle.std.proofs.Common.{◌≡◌, ℕ, ◌+◌, ◌≤◌, Bool, true, ◌||◌, ◌==◌, List, [], ◌∷◌, ◌++◌, length, refl, arith, inr, append_assoc, length-append, ◌<◌, ap, ◌∙◌, inl}
use Rattle.wire_message.proofs.Names.{and_from, list_any-append, or-false, ArrayVec, Are, IsField, is_filler_octet, is_text_octet, max_filler, Header, IsHeader, IsFiller, IsGap, IsTrailer, IsMessage, EncodesInfo, fixed_header, has_feed, MatchesState, Filler, InHeader, Info, Gap, Text, Trailer, AfterEnd, Are-append, Source, TextReader, or_right, eqb-true, cond_both, is_digit, is_letter, is_alphanumeric, is_info_octet, max_source, max_number, max_priority, max_category, max_words, max_info, IsMessageState, IsStoryState, so_far, ends, begins, is_octet_of, most_of_part, octets_of_part, begun, HeaderPart, Number, Priority, Category, Words, HeaderTexts, Place}
use Rattle.wire_message.proofs.Machine.{of, no_texts, more_info, put}

-- ---- Parts with more octets.

pub field_more : (test : ℕ → Bool) (low least most : ℕ) (xs ys : List ℕ) → IsField test low most xs → Are test ys → length xs + length ys ≤ most
    → least ≤ length xs + length ys → IsField test least most (xs ++ ys)
field_more test low least most xs ys h t le more =
    (Are-append test xs ys h.0 t, omega (arith, length-append xs ys), omega (arith, length-append xs ys))

pub one_is : (test : ℕ → Bool) (b : ℕ) → test b ≡ true → Are test (b ∷ [])
one_is test b t = and_from (test b) true t refl

field_one : (test : ℕ → Bool) (most b : ℕ) → test b ≡ true → 1 ≤ most → IsField test 1 most (b ∷ [])
field_one test most b t le = (one_is test b t, omega arith, omega arith)

pub field_none : (test : ℕ → Bool) (most : ℕ) → IsField test 0 most []
field_none test most = (refl, omega arith, omega arith)

field_from : (test : ℕ → Bool) (low most : ℕ) (xs : List ℕ) → IsField test 0 most xs → low ≤ length xs → IsField test low most xs
field_from test low most xs h le = (h.0, le, h.2)

-- ---- What is added at the end of joined parts is added to the last one.

pub join1 : (a f r ys : List ℕ) → (a ++ (1 ∷ (f ++ r))) ++ ys ≡ a ++ (1 ∷ (f ++ (r ++ ys)))
join1 a f r ys = simp append_assoc

pub join2 : (a f i g ys : List ℕ) → (a ++ (1 ∷ (f ++ (i ++ g)))) ++ ys ≡ a ++ (1 ∷ (f ++ (i ++ (g ++ ys))))
join2 a f i g ys = simp append_assoc

pub join3 : (a f i g x ys : List ℕ) → (a ++ (1 ∷ (f ++ (i ++ (g ++ (2 ∷ x)))))) ++ ys ≡ a ++ (1 ∷ (f ++ (i ++ (g ++ (2 ∷ (x ++ ys))))))
join3 a f i g x ys = simp append_assoc

pub join4 : (a f i g x t ys : List ℕ) → (a ++ (1 ∷ (f ++ (i ++ (g ++ (2 ∷ (x ++ (3 ∷ t)))))))) ++ ys
    ≡ a ++ (1 ∷ (f ++ (i ++ (g ++ (2 ∷ (x ++ (3 ∷ (t ++ ys))))))))
join4 a f i g x t ys = simp append_assoc

pub join5 : (a f i g x t y ys : List ℕ) → (a ++ (1 ∷ (f ++ (i ++ (g ++ (2 ∷ (x ++ (3 ∷ (t ++ (4 ∷ y)))))))))) ++ ys
    ≡ a ++ (1 ∷ (f ++ (i ++ (g ++ (2 ∷ (x ++ (3 ∷ (t ++ (4 ∷ (y ++ ys))))))))))
join5 a f i g x t y ys = simp append_assoc

-- the message of these parts
abbrev pub message_from : (object : List ℕ) (h : Header) (x t before info gap after : List ℕ) → IsFiller before → IsHeader h → EncodesInfo h.info info
    → IsGap gap → Are is_text_octet x → IsTrailer t → IsFiller after
    → object ≡ before ++ (1 ∷ (fixed_header h ++ (info ++ (gap ++ (2 ∷ (x ++ (3 ∷ (t ++ (4 ∷ after))))))))) → IsMessage object h x t
message_from object h x t before info gap after is_before is_header is_info is_gap is_text is_trailer is_after parts = record {
  before = before;
  info = info;
  gap = gap;
  after = after;
  is_before = is_before;
  is_header = is_header;
  is_info = is_info;
  is_gap = is_gap;
  is_text = is_text;
  is_trailer = is_trailer;
  is_after = is_after;
  parts = parts;
}

-- ---- From each state.

pub filler_more : (xs text ys : List ℕ) (k : ℕ) → Are is_filler_octet ys → k + length ys ≤ max_filler → MatchesState xs text (Filler k)
    → MatchesState (xs ++ ys) text (Filler (k + length ys))
filler_more xs text ys k t le l = (
  field_more is_filler_octet 0 0 max_filler xs ys l.0 t (omega (arith, l.1, le)) (omega arith),
  omega (arith, length-append xs ys, l.1),
  l.2,
)

pub filler_soh : (xs text : List ℕ) (k : ℕ) → MatchesState xs text (Filler k) → MatchesState (xs ++ (1 ∷ [])) text (InHeader Source no_texts)
filler_soh xs text k l = (xs, l.0, refl, l.2)

pub info_more : (xs text ys : List ℕ) (h k : Header) → k ≡ record h { info = h.info ++ ys } → MatchesState xs text (Info h) → MatchesState (xs ++ ys) text
    (Info k)
info_more xs text ys h k e l = rw e (l.0, l.1, rw l.2 (join1 l.0 (fixed_header h) (32 ∷ h.info) ys), l.3)

pub info_gap : (xs text : List ℕ) (h : Header) (b : ℕ) → is_filler_octet b ≡ true → MatchesState xs text (Info h) → MatchesState (xs ++ (b ∷ [])) text (Gap h 1
    (b == 10))
info_gap xs text h b t l =
    let parts : xs ++ (b ∷ []) ≡ l.0 ++ (1 ∷ (fixed_header h ++ ((32 ∷ h.info) ++ (b ∷ [])))) = rw l.2 (join1 l.0 (fixed_header h) (32 ∷ h.info) (b ∷ [])) in
    (l.0, 32 ∷ h.info, b ∷ [], l.1, inr refl, one_is is_filler_octet b t, refl, or-false (b == 10), parts, l.3)

pub gap_more : (xs text : List ℕ) (h : Header) (k : ℕ) (feed : Bool) (b : ℕ) → is_filler_octet b ≡ true → MatchesState xs text (Gap h k feed)
    → MatchesState (xs ++ (b ∷ [])) text (Gap h (k + 1) (feed || b == 10))
gap_more xs text h k feed b t l =
    let fills = Are-append is_filler_octet l.2 (b ∷ []) l.5 (one_is is_filler_octet b t) in
    let many : length (l.2 ++ (b ∷ [])) ≡ k + 1 = omega (arith, length-append l.2 (b ∷ []), l.6) in
    let feeds : has_feed (l.2 ++ (b ∷ [])) ≡ (feed || b == 10) = simp (list_any-append, l.7, or-false) in
    let parts : xs ++ (b ∷ []) ≡ l.0 ++ (1 ∷ (fixed_header h ++ (l.1 ++ (l.2 ++ (b ∷ []))))) = rw l.8 (join2 l.0 (fixed_header h) l.1 l.2 (b ∷ [])) in
    (l.0, l.1, l.2 ++ (b ∷ []), l.3, l.4, fills, many, feeds, parts, l.9)

pub gap_stx : (xs text : List ℕ) (h : Header) (k : ℕ) (reader : TextReader) → 1 ≤ k → k ≤ max_filler → MatchesState xs text (Gap h k true)
    → MatchesState (xs ++ (2 ∷ [])) text (Text h reader)
gap_stx xs text h k reader low high l =
    let is_gap : IsGap l.2 = ((l.5, omega (arith, low, l.6), omega (arith, high, l.6)), l.7) in
    (l.0, l.1, l.2, l.3, l.4, is_gap, rw l.9 refl, rw (l.8, l.9) (join2 l.0 (fixed_header h) l.1 l.2 (2 ∷ [])))

pub text_more : (xs text ys : List ℕ) (h : Header) (old new : TextReader) → Are is_text_octet ys → MatchesState xs text (Text h old)
    → MatchesState (xs ++ ys) (text ++ ys) (Text h new)
text_more xs text ys h old new t l = (l.0, l.1, l.2, l.3, l.4, l.5, Are-append is_text_octet text ys l.6 t, rw l.7 (join3 l.0 (fixed_header h) l.1 l.2 text ys))

pub text_etx : (xs text : List ℕ) (h : Header) (reader : TextReader) → MatchesState xs text (Text h reader) → MatchesState (xs ++ (3 ∷ [])) text (Trailer h
    (of []))
text_etx xs text h reader l = (l.0, l.1, l.2, l.3, l.4, l.5, l.6, rw l.7 (join3 l.0 (fixed_header h) l.1 l.2 text (3 ∷ [])))

pub trailer_more : (xs text ys : List ℕ) (h : Header) (t : ArrayVec ℕ) → MatchesState xs text (Trailer h t) → MatchesState (xs ++ ys) text (Trailer h (of
    (t.items ++ ys)))
trailer_more xs text ys h t l = (l.0, l.1, l.2, l.3, l.4, l.5, l.6, rw l.7 (join4 l.0 (fixed_header h) l.1 l.2 text t.items ys))

pub trailer_eot : (xs text : List ℕ) (h : Header) (t : ArrayVec ℕ) → IsHeader h → IsTrailer t.items → MatchesState xs text (Trailer h t)
    → MatchesState (xs ++ (4 ∷ [])) text (AfterEnd h t 0)
trailer_eot xs text h t i it l = (
  message_from (xs ++ (4 ∷ [])) h text t.items l.0 l.1 l.2 [] l.3 i l.4 l.5 l.6 it (field_none is_filler_octet max_filler)
      (rw l.7 (join4 l.0 (fixed_header h) l.1 l.2 text t.items (4 ∷ []))),
  refl,
)

pub end_more : (xs text ys : List ℕ) (h : Header) (t : ArrayVec ℕ) (k : ℕ) → Are is_filler_octet ys → k + length ys ≤ max_filler
    → MatchesState xs text (AfterEnd h t k) → MatchesState (xs ++ ys) text (AfterEnd h t (k + length ys))
end_more xs text ys h t k f le l =
    let m = l.0 in
    let is_after = field_more is_filler_octet 0 0 max_filler m.after ys m.is_after f (omega (arith, l.1, le)) (omega arith) in (
      message_from (xs ++ ys) h text t.items m.before m.info m.gap (m.after ++ ys) m.is_before m.is_header m.is_info m.is_gap m.is_text m.is_trailer is_after
          (rw m.parts (join5 m.before (fixed_header h) m.info m.gap text t.items m.after ys)),
      omega (arith, length-append m.after ys, l.1),
    )

-- ---- More octets of a part.

pub longer_is : (part : HeaderPart) (t : HeaderTexts) (ys : List ℕ) → IsMessageState (InHeader part t) → Are (is_octet_of part) ys
    → length (octets_of_part part t) + length ys ≤ most_of_part part
    → IsMessageState (InHeader part (put part (octets_of_part part t ++ ys) t))
longer_is Source t ys i are le = (field_more is_letter 0 0 max_source t.source.items ys i.0 are le (omega arith), i.1, i.2, i.3, i.4)
longer_is Number t ys i are le = (i.0, field_more is_digit 1 1 max_number t.number.items ys i.1 are le (omega (arith, i.1.1)), i.2, i.3, i.4)
longer_is Priority t ys i are le = (i.0, i.1, field_more is_digit 0 0 max_priority t.priority.items ys i.2 are le (omega arith), i.3, i.4)
longer_is Category t ys i are le = (i.0, i.1, i.2, field_more is_alphanumeric 0 0 max_category t.category.items ys i.3 are le (omega arith), i.4)
longer_is Words t ys i are le = (i.0, i.1, i.2, i.3, field_more is_digit 0 0 max_words t.words.items ys i.4 are le (omega arith))

longer_octets : (part : HeaderPart) (t : HeaderTexts) (ys : List ℕ) → so_far part t ++ ys ≡ so_far part (put part (octets_of_part part t ++ ys) t)
longer_octets Source t ys = refl
longer_octets _ t ys = simp append_assoc

-- What follows SOH is extended.
after_soh : (xs before old more new : List ℕ) → xs ≡ before ++ (1 ∷ old) → old ++ more ≡ new → xs ++ more ≡ before ++ (1 ∷ new)
after_soh xs before old more new e more_is = rw (e, ← more_is) (append_assoc before (1 ∷ old) more)

pub longer_spells : (part : HeaderPart) (t : HeaderTexts) (xs text ys : List ℕ) → MatchesState xs text (InHeader part t)
    → MatchesState (xs ++ ys) text (InHeader part (put part (octets_of_part part t ++ ys) t))
longer_spells part t xs text ys l = (l.0, l.1, after_soh xs l.0 (so_far part t) ys _ l.2 (longer_octets part t ys), l.3)

pub longer_info : (h : Header) (b : ℕ) → IsHeader h → IsField is_info_octet 0 max_info (h.info ++ (b ∷ [])) → IsHeader (more_info h b)
longer_info h b i is_info =
    record { source = i.source; number = i.number; priority = i.priority; category = i.category; words = i.words; info = is_info }

-- ---- The octet that ends a part.

pub no_texts_yet : IsMessageState (InHeader Source no_texts)
no_texts_yet = (field_none is_letter max_source, field_none is_digit 0, field_none is_digit 0, field_none is_alphanumeric 0, field_none is_digit 0)

pub none : (test : ℕ → Bool) (xs : List ℕ) → IsField test 0 0 xs → xs ≡ []
none test [] h = refl
none test (b ∷ xs) h = absurd (omega (arith, h.2))

-- An empty part may have octets.
room : (test : ℕ → Bool) (most : ℕ) (xs : List ℕ) → IsField test 0 0 xs → IsField test 0 most xs
room test most xs h = (h.0, h.1, omega (arith, h.2))

pub next_is : (part : HeaderPart) (b : ℕ) (t : HeaderTexts) → IsMessageState (InHeader part t) → ends part b ≡ true → 0 < length (octets_of_part part t)
    → IsMessageState (begins part b t)
next_is Source b t i on some = (field_from is_letter 1 max_source t.source.items i.0 some, field_one is_digit max_number b on (omega arith), i.2, i.3, i.4)
next_is Number b t i on some = (i.0, i.1, room is_digit max_priority t.priority.items i.2, i.3, i.4)
next_is Priority b t i on some = (
  i.0,
  i.1,
  field_from is_digit 1 max_priority t.priority.items i.2 some,
  room is_alphanumeric max_category t.category.items i.3,
  i.4,
)
next_is Category b t i on some = (i.0, i.1, i.2, field_from is_alphanumeric 1 max_category t.category.items i.3 some, room is_digit max_words t.words.items i.4)
next_is Words b t i on some =
    let words = field_from is_digit 1 max_words t.words.items i.4 some in
    let is : IsMessageState (Info (begun t)) =
    record { source = i.0; number = i.1; priority = i.2; category = i.3; words = words; info = field_none is_info_octet max_info } in
    cond_both (b == 32) (Info (begun t)) (Gap (begun t) 1 (b == 10)) IsMessageState (λ e. is) (λ e. (
      is,
      omega arith,
      omega arith,
      or_right
          (b == 10) true refl,
    ))

-- SP ends a part, and the next one is empty.
spaced : (part next : HeaderPart) (t : HeaderTexts) (b : ℕ) (xs text : List ℕ) → (b == 32) ≡ true → so_far part t ++ (32 ∷ []) ≡ so_far next t
    → MatchesState xs text (InHeader part t) → MatchesState (xs ++ (b ∷ [])) text (InHeader next t)
spaced part next t b xs text on e l = (
  l.0,
  l.1,
  after_soh xs l.0 (so_far part t) (b ∷ []) (so_far next t) l.2 (ap (λ (k : ℕ). so_far part t ++ (k ∷ [])) (eqb-true b 32 on) ∙ e),
  l.3,
)

pub next_spells : (part : HeaderPart) (b : ℕ) (t : HeaderTexts) (xs text : List ℕ) → IsMessageState (InHeader part t) → ends part b ≡ true
    → MatchesState xs text (InHeader part t) → MatchesState (xs ++ (b ∷ [])) text (begins part b t)
next_spells Source b t xs text i on l = (l.0, l.1, after_soh xs l.0 t.source.items (b ∷ []) _ l.2 refl, l.3)
next_spells Number b t xs text i on l = spaced Number Priority t b xs text on (rw (none is_digit t.priority.items i.2) (simp append_assoc)) l
next_spells Priority b t xs text i on l = spaced Priority Category t b xs text on (rw (none is_alphanumeric t.category.items i.3) (simp append_assoc)) l
next_spells Category b t xs text i on l = spaced Category Words t b xs text on (rw (none is_digit t.words.items i.4) (simp append_assoc)) l
next_spells Words b t xs text i on l = cond_both (b == 32) (Info (begun t)) (Gap (begun t) 1 (b == 10)) (λ (p : Place). MatchesState (xs ++ (b ∷ [])) text p)
    (λ e. (
      l.0,
      l.1,
      after_soh xs l.0 (so_far Words t) (b ∷ []) (so_far Words t ++ (32 ∷ [])) l.2 (ap (λ (k : ℕ). so_far Words t ++ (k ∷ [])) (eqb-true b 32 e)),
      l.3,
    ))
    (λ e.
    let fills : is_filler_octet b ≡ true = rw e at on in
    let parts : xs ++ (b ∷ []) ≡ l.0 ++ (1 ∷ (so_far Words t ++ (b ∷ []))) = after_soh xs l.0 (so_far Words t) (b ∷ []) _ l.2 refl in
    (l.0, [], b ∷ [], l.1, inl (refl, refl), one_is is_filler_octet b fills, refl, or-false (b == 10), parts, l.3))

pub next_story : (part : HeaderPart) (b : ℕ) (t : HeaderTexts) (text : List ℕ) → text ≡ [] → IsStoryState text (begins part b t)
next_story Words b t text none = cond_both (b == 32) (Info (begun t)) (Gap (begun t) 1 (b == 10)) (IsStoryState text) (λ e. none) (λ e. none)
next_story _ b t text none = none
