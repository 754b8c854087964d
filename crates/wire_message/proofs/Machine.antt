-- Reading a message octet by octet: the state after each octet, without the reader of the text.
use Rattle.std.proofs.Common.{◌≡◌, ℕ, ◌+◌, ◌<◌, ◌≤◌, Bool, true, false, ◌&&◌, ◌||◌, ◌==◌, nat_lt, cond, List, [], ◌∷◌, ◌++◌, length, Option, Some, None, refl, ap, ◌∙◌, arith, append_assoc, append-nil, length-append, option_and_then}
use Rattle.wire_message.proofs.Names.{cond-true, cond-false, and_from, and_parts, lt-ltb, ltb-true, and_left, nat_tests, ArrayVec, Are, is_info_octet, is_trailer_octet, is_filler_octet, is_text_octet, max_filler, max_source, max_info, max_trailer, is_letter, Header, header_of, IsHeader, IsFiller, IsMessage, IsMessageState, MatchesState, ReachesMessageState, lengthens_gap, ends, begins, is_octet_of, most_of_part, octets_of_part, HeaderPart, Source, Number, Priority, Category, Words, HeaderTexts, Place, Filler, InHeader, Info, Gap, Text, Trailer, AfterEnd, Are-head, Are-tail}

abbrev pub of : List ℕ → ArrayVec ℕ
of xs = record { items = xs }

abbrev pub more_info : Header → ℕ → Header
more_info h b = header_of h.source h.number h.priority h.category h.words (h.info ++ (b ∷ []))

-- the parts of a header
abbrev pub texts : List ℕ → List ℕ → List ℕ → List ℕ → List ℕ → HeaderTexts
texts s n p c w = record { source = of s; number = of n; priority = of p; category = of c; words = of w }

abbrev pub no_texts : HeaderTexts
no_texts = texts [] [] [] [] []

-- the parts of a header, as those of a place
abbrev pub texts_of : Header → HeaderTexts
texts_of h = texts h.source h.number h.priority h.category h.words

pub words_place : (h : Header) → IsHeader h → IsMessageState (InHeader Words (texts_of h))
words_place h i = (i.source, i.number, i.priority, i.category, (i.words.0, omega arith, i.words.2))

-- the parts, with these octets for one of them
abbrev pub put : HeaderPart → List ℕ → HeaderTexts → HeaderTexts
put Source xs t = record t { source = of xs }
put Number xs t = record t { number = of xs }
put Priority xs t = record t { priority = of xs }
put Category xs t = record t { category = of xs }
put Words xs t = record t { words = of xs }

-- ---- Octets that match a state, whatever its reader of the text.

abbrev pub IsBare : Place → Type 0
IsBare (Text h reader) = IsHeader h
IsBare p = IsMessageState p

pub record Stands (xs text : List ℕ) (p : Place) : Type 0 where
  pub bare : IsBare p
  pub spelled : MatchesState xs text p

pub stands : (xs text : List ℕ) (p : Place) → IsMessageState p → MatchesState xs text p → Stands xs text p
stands xs text (Text h reader) i l = record { bare = i.0; spelled = l }
stands xs text p i l = record { bare = i; spelled = l }

-- Octets that reach a state match it.
pub led : {xs text : List ℕ} {p : Place} → ReachesMessageState xs text p → Stands xs text p
led {xs} {text} {p} l = stands xs text p l.is_place l.spelled

-- a state without its reader of the text
abbrev pub unread : Place → Place
unread (Text h reader) = Text h None
unread p = p

pub stands_unread : (xs text : List ℕ) (p : Place) → Stands xs text p → Stands xs text (unread p)
stands_unread xs text (Text h reader) s = record { bare = s.bare; spelled = s.spelled }
stands_unread xs text p s = s

-- A message matches the state at its end.
pub message_stands : (object : List ℕ) (h : Header) (x t : List ℕ) (m : IsMessage object h x t) → Stands object x (AfterEnd h (of t) (length m.after))
message_stands object h x t m = record { bare = (m.is_header, m.is_trailer, m.is_after.2); spelled = (m, refl) }

-- ---- The state after an octet.

abbrev pub guarded : Bool → Place → Option Place → Option Place
guarded b p o = cond b (Some p) o

-- the state after the octet
abbrev pub next : Place → ℕ → Option Place
next (Filler k) b = guarded (is_filler_octet b && nat_lt k max_filler) (Filler (k + 1)) (guarded (b == 1) (InHeader Source no_texts) None)
next (InHeader part t) b =
    guarded (is_octet_of part b && nat_lt (length (octets_of_part part t)) (most_of_part part)) (InHeader part (put part (octets_of_part part t ++ (b ∷ [])) t))
    (guarded (ends part b && nat_lt 0 (length (octets_of_part part t))) (begins part b t) None)
next (Info h) b = guarded (is_info_octet b && nat_lt (length h.info) max_info) (Info (more_info h b)) (guarded (is_filler_octet b) (Gap h 1 (b == 10)) None)
next (Gap h k feed) b = guarded (lengthens_gap k feed b) (Gap h (k + 1) (feed || b == 10)) (guarded (b == 2 && feed) (Text h None) None)
next (Text h r) b = guarded (is_text_octet b) (Text h None) (guarded (b == 3) (Trailer h (of [])) None)
next (Trailer h t) b = guarded (is_trailer_octet b && nat_lt (length t.items) max_trailer) (Trailer h (of (t.items ++ (b ∷ []))))
    (guarded (b == 4) (AfterEnd h t 0) None)
next (AfterEnd h t k) b = guarded (is_filler_octet b && nat_lt k max_filler) (AfterEnd h t (k + 1)) None

abbrev pub run : Place → List ℕ → Option Place
run s [] = Some s
run s (b ∷ bs) = option_and_then (λ t. run t bs) (next s b)

-- ---- One octet.

pub step_to : (s q : Place) (b : ℕ) (rest : List ℕ) → next s b ≡ Some q → run s (b ∷ rest) ≡ run q rest
step_to s q b rest e = ap (option_and_then (λ t. run t rest)) e

pub and_then_place : (o : Option Place) (f : Place → Option Place) (q : Place) → option_and_then f o ≡ Some q → (s : Place) × (o ≡ Some s) × (f s ≡ Some q)
and_then_place None f q e = absurd cc
and_then_place (Some s) f q e = (s, refl, e)

pub run_parts : (s : Place) (xs ys : List ℕ) (q : Place) → run s (xs ++ ys) ≡ Some q → (m : Place) × (run s xs ≡ Some m) × (run m ys ≡ Some q)
run_parts s [] ys q e = (s, refl, e)
run_parts s (b ∷ xs) ys q e =
    let a = and_then_place (next s b) (λ t. run t (xs ++ ys)) q e in
    let more = run_parts a.0 xs ys q a.2 in
    (more.0, step_to s a.0 b xs a.1 ∙ more.1, more.2)

-- Octets determine the state.
pub one_end : (xs : List ℕ) {p q : Place} → run (Filler 0) xs ≡ Some p → run (Filler 0) xs ≡ Some q → p ≡ q
one_end xs e d = cc

-- ---- Slices of octets.

-- An octet of a class extends a part that has capacity, and no other octet does.
pub extends : (test : ℕ → Bool) (b count most : ℕ) → test b ≡ true → count < most → (test b && nat_lt count most) ≡ true
extends test b count most t lt = and_from (test b) (nat_lt count most) t (lt-ltb count most lt)

pub extended : (test : ℕ → Bool) (b count most : ℕ) → (test b && nat_lt count most) ≡ true → (test b ≡ true) × (count < most)
extended test b count most t = let both = and_parts (test b) (nat_lt count most) t in (both.0, ltb-true count most both.1)

-- A part is read octet by octet.
pub field_run : (mk : List ℕ → Place) (test : ℕ → Bool) (most : ℕ)
    → ((ys : List ℕ) (b : ℕ) → test b ≡ true → length ys < most → next (mk ys) b ≡ Some (mk (ys ++ (b ∷ []))))
    → (xs ys rest : List ℕ) → Are test xs → length ys + length xs ≤ most → run (mk ys) (xs ++ rest) ≡ run (mk (ys ++ xs)) rest
field_run mk test most step [] ys rest h le = rw (append-nil ys) refl
field_run mk test most step (b ∷ xs) ys rest h le =
    step_to (mk ys) (mk (ys ++ (b ∷ []))) b (xs ++ rest) (step ys b (Are-head test b xs h) (omega arith))
    ∙ rw (append_assoc ys (b ∷ []) xs) at
    (field_run mk test most step xs (ys ++ (b ∷ [])) rest (Are-tail test b xs h) (omega (arith, length-append ys (b ∷ []))))

-- Filler is counted.
pub count_run : (mk : ℕ → Place) → ((k b : ℕ) → is_filler_octet b ≡ true → k < max_filler → next (mk k) b ≡ Some (mk (k + 1)))
    → (xs rest : List ℕ) → IsFiller xs → run (mk 0) (xs ++ rest) ≡ run (mk (length xs)) rest
count_run mk step xs rest h =
    field_run (λ ys. mk (length ys)) is_filler_octet max_filler (λ ys b t lt. rw (length-append ys (b ∷ [])) (step (length ys) b t lt)) xs [] rest h.0
    (omega (arith, h.2))

-- The octets of a part extend it.
pub reads_part : (part : HeaderPart) (t : HeaderTexts) (xs rest : List ℕ) → Are (is_octet_of part) xs → length
    (octets_of_part part t) + length xs ≤ most_of_part part
    → run (InHeader part t) (xs ++ rest) ≡ run (InHeader part (put part (octets_of_part part t ++ xs) t)) rest
reads_part Source t xs rest are le =
    field_run (λ ys. InHeader Source (put Source ys t)) is_letter max_source
    (λ ys b e lt. cond-true _ _ _ (extends is_letter b (length ys) max_source e lt)) xs t.source.items rest are le
reads_part part t xs rest are le = field_run (λ ys. InHeader part (put part ys t)) (is_octet_of part) (most_of_part part)
    (λ ys b e lt. cond-true _ _ _ (extends (is_octet_of part) b (length ys) (most_of_part part) e lt)) xs (octets_of_part part t) rest are le

-- An octet that ends a part is not one that it may have.
ends_not : (part : HeaderPart) (b : ℕ) → ends part b ≡ true → is_octet_of part b ≡ false
ends_not Source b on = grind (arith, nat_tests)
ends_not _ b on = grind (arith, nat_tests)

-- An octet that ends a part reaches the part that it begins.
pub ends_next : (part : HeaderPart) (t : HeaderTexts) (b : ℕ) → ends part b ≡ true → 0 < length (octets_of_part part t)
    → next (InHeader part t) b ≡ Some (begins part b t)
ends_next part t b on some =
    cond-false _ _ _ (and_left (is_octet_of part b) (nat_lt (length (octets_of_part part t)) (most_of_part part)) (ends_not part b on))
    ∙ cond-true _ _ _ (extends (ends part) b 0 (length (octets_of_part part t)) on some)
