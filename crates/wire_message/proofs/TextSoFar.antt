-- The text so far in octets that match a state.
use Rattle.std.proofs.Common.{◌≡◌, ℕ, ◌+◌, Bool, true, false, not, ◌==◌, cond, nat_lt, List, [], ◌∷◌, ◌++◌, length, take, drop, map, Some, None, refl, sym, ap, ◌∙◌, arith, inl, inr, append-nil}
use Rattle.wire_message.proofs.Names.{list_any, position_or_len, before_first, after_first, and_parts, and_from, or_right, or_left, or_from, not-true, list_all-append, list_any-append, nat_tests, drop-append-add, take-append_seam, take-length, Octet, End, TextReader, Are, IsField, is_alphanumeric, is_info_octet, is_filler_octet, is_text_octet, max_info, is_digit, is_letter, Header, IsHeader, IsFiller, IsGap, IsMessage, EncodesInfo, BeginsWithHeader, fixed_header, ArrayVec, after_stx, text_so_far, story_tokens_of, IsMessageState, MatchesState, so_far, head_read, HeaderPart, Source, Words, HeaderTexts, Place, Filler, InHeader, Info, Gap, Text, Trailer, AfterEnd, Are-append, Are-head, Are-tail, Are-cons}
use Rattle.wire_message.proofs.{Machine.texts_of, Machine.words_place, Machine.Stands, Transitions.join2}

-- ---- What is before and after the first octet of a kind.

abbrev pub is_not : ℕ → ℕ → Bool
is_not k b = not (b == k)

place_of_first : (k : ℕ) (front x : List ℕ) → Are (is_not k) front → (k == k) ≡ true → position_or_len (λ b. b == k) (front ++ (k ∷ x)) ≡ length front
place_of_first k [] x h e = rw e refl
place_of_first k (b ∷ front) x h e =
    let more = place_of_first k front x (Are-tail (is_not k) b front h) e in
    rw (not-true (b == k) (Are-head (is_not k) b front h)) (omega (arith, more))

no_first : (k : ℕ) (xs : List ℕ) → Are (is_not k) xs → position_or_len (λ b. b == k) xs ≡ length xs
no_first k [] h = refl
no_first k (b ∷ xs) h =
    let more = no_first k xs (Are-tail (is_not k) b xs h) in
    rw (not-true (b == k) (Are-head (is_not k) b xs h)) (omega (arith, more))

pub after_is : (k : ℕ) (front x : List ℕ) → Are (is_not k) front → (k == k) ≡ true → after_first (λ b. b == k) (front ++ (k ∷ x)) ≡ x
after_is k front x h e = ap (λ (n : ℕ). drop (n + 1) (front ++ (k ∷ x))) (place_of_first k front x h e) ∙ drop-append-add front (k ∷ x) 1

pub before_is : (k : ℕ) (front x : List ℕ) → Are (is_not k) front → (k == k) ≡ true → before_first (λ b. b == k) (front ++ (k ∷ x)) ≡ front
before_is k front x h e = ap (λ (n : ℕ). take n (front ++ (k ∷ x))) (place_of_first k front x h e) ∙ take-append_seam front (k ∷ x)

pub before_none : (k : ℕ) (xs : List ℕ) → Are (is_not k) xs → before_first (λ b. b == k) xs ≡ xs
before_none k xs h = ap (λ (n : ℕ). take n xs) (no_first k xs h) ∙ take-length xs

pub any_none : (k : ℕ) (xs : List ℕ) → Are (is_not k) xs → list_any (λ b. b == k) xs ≡ false
any_none k [] h = refl
any_none k (b ∷ xs) h = or_from (b == k) _ (not-true (b == k) (Are-head (is_not k) b xs h)) (any_none k xs (Are-tail (is_not k) b xs h))

pub any_found : (k : ℕ) (front x : List ℕ) → (k == k) ≡ true → list_any (λ b. b == k) (front ++ (k ∷ x)) ≡ true
any_found k front x e = rw list_any-append (or_right (list_any (λ b. b == k) front) _ (or_left (k == k) _ e))

-- ---- No STX is before the text, and no ETX in it.

pub each : (p q : ℕ → Bool) (xs : List ℕ) → ((b : ℕ) → p b ≡ true → q b ≡ true) → Are p xs → Are q xs
each p q [] f h = refl
each p q (b ∷ xs) f h = Are-cons q b xs (f b (Are-head p b xs h)) (each p q xs f (Are-tail p b xs h))

letters : (xs : List ℕ) → Are is_letter xs → Are is_info_octet xs
letters xs are = each is_letter is_info_octet xs (λ b h. grind (arith, nat_tests)) are

digits : (xs : List ℕ) → Are is_digit xs → Are is_info_octet xs
digits xs are = each is_digit is_info_octet xs (λ b h. grind (arith, nat_tests)) are

-- All octets of a header are octets that an info may have, SP among them.
so_far_info : (part : HeaderPart) (t : HeaderTexts) → IsMessageState (InHeader part t) → Are is_info_octet (so_far part t)
so_far_info Source t i = letters t.source.items i.0.0
so_far_info _ t i =
    let s = letters t.source.items i.0.0 in
    let n = digits t.number.items i.1.0 in
    let p = digits t.priority.items i.2.0 in
    let c = each is_alphanumeric is_info_octet t.category.items (λ b h. grind (arith, nat_tests)) i.3.0 in
    let w = digits t.words.items i.4.0 in
    simp list_all-append (search and_from)

pub header_info : (h : Header) → IsHeader h → Are is_info_octet (fixed_header h)
header_info h i = so_far_info Words (texts_of h) (words_place h i)

pub spelled_info : (info xs : List ℕ) → IsField is_info_octet 0 max_info info → EncodesInfo info xs → Are is_info_octet xs
spelled_info info xs i (inl none) = rw none.1 refl
spelled_info info xs i (inr some) = rw some i.0

filler_not : (xs : List ℕ) → Are is_filler_octet xs → Are (is_not 2) xs
filler_not xs are = each is_filler_octet (is_not 2) xs (λ b h. grind (arith, nat_tests)) are

info_not : (xs : List ℕ) → Are is_info_octet xs → Are (is_not 2) xs
info_not xs are = each is_info_octet (is_not 2) xs (λ b h. grind (arith, nat_tests)) are

-- SOH and the octets of a header have no STX.
after_soh : (before rest : List ℕ) → IsFiller before → Are is_info_octet rest → Are (is_not 2) (before ++ (1 ∷ rest))
after_soh before rest f are = Are-append (is_not 2) before (1 ∷ rest) (filler_not before f.0) (info_not rest are)

before_text : (before info gap : List ℕ) (h : Header) → IsFiller before → IsHeader h → EncodesInfo h.info info → Are is_filler_octet gap
    → Are (is_not 2) (before ++ (1 ∷ (fixed_header h ++ (info ++ gap))))
before_text before info gap h f i sp g =
    Are-append (is_not 2) before (1 ∷ (fixed_header h ++ (info ++ gap))) (filler_not before f.0)
    (Are-append (is_not 2) (fixed_header h) (info ++ gap) (info_not (fixed_header h) (header_info h i))
    (Are-append (is_not 2) info gap (info_not info (spelled_info h.info info i.info sp)) (filler_not gap g)))

-- octets that begin with a header, by their parts
abbrev pub head_begins : (octets : List ℕ) (h : Header) (before info gap rest : List ℕ) → IsFiller before → IsHeader h → EncodesInfo h.info info → IsGap gap
    → octets ≡ before ++ (1 ∷ (fixed_header h ++ (info ++ (gap ++ (2 ∷ rest))))) → BeginsWithHeader octets h
head_begins octets h before info gap rest f i sp g parts =
    record { before = before; info = info; gap = gap; rest = rest; is_before = f; is_header = i; is_info = sp; is_gap = g; parts = parts }

abbrev pub text_begins : (octets text : List ℕ) (h : Header) (reader : TextReader) → IsHeader h → MatchesState octets text (Text h reader)
    → BeginsWithHeader octets h
text_begins octets text h reader i l = head_begins octets h l.0 l.1 l.2 text l.3 i l.4 l.5 l.7

abbrev pub trailer_begins : (octets text : List ℕ) (h : Header) (t : ArrayVec ℕ) → IsHeader h → MatchesState octets text (Trailer h t)
    → BeginsWithHeader octets h
trailer_begins octets text h t i l = head_begins octets h l.0 l.1 l.2 (text ++ (3 ∷ t.items)) l.3 i l.4 l.5 l.7

abbrev pub message_begins : (object : List ℕ) (h : Header) (x t : List ℕ) → IsMessage object h x t → BeginsWithHeader object h
message_begins object h x t m = head_begins object h m.before m.info m.gap (x ++ (3 ∷ t ++ (4 ∷ m.after))) m.is_before m.is_header m.is_info m.is_gap m.parts

pub after_head : (octets : List ℕ) (h : Header) (m : BeginsWithHeader octets h) → after_stx octets ≡ m.rest
after_head octets h m =
    rw (m.parts, ← join2 m.before (fixed_header h) m.info m.gap (2 ∷ m.rest))
    (after_is 2 (m.before ++ (1 ∷ (fixed_header h ++ (m.info ++ m.gap)))) m.rest
    (before_text m.before m.info m.gap h m.is_before m.is_header m.is_info m.is_gap.0.0) refl)

pub no_etx : (text : List ℕ) → Are is_text_octet text → Are (is_not 3) text
no_etx text h = each is_text_octet (is_not 3) text (λ b t. (and_parts (nat_lt b 256) (not (b == 3)) t).1) h

-- ---- The text so far, and what the story sees of it.

-- The text so far of octets, and whether it has ended.
pub record TextIs (octets text : List ℕ) (ended : Bool) : Type 0 where
  pub text_is : text_so_far octets ≡ text
  pub ended_is : list_any (λ b. b == 3) (after_stx octets) ≡ ended

leads_on : (octets text : List ℕ) → after_stx octets ≡ text → Are is_text_octet text → TextIs octets text false
leads_on octets text e are = record { text_is = rw e (before_none 3 text (no_etx text are)); ended_is = rw e (any_none 3 text (no_etx text are)) }

has_ended : (octets text rest : List ℕ) → after_stx octets ≡ text ++ (3 ∷ rest) → Are is_text_octet text → TextIs octets text true
has_ended octets text rest e are =
    record { text_is = rw e (before_is 3 text rest (no_etx text are) refl); ended_is = rw e (any_found 3 text rest refl) }

pub tokens_of : (octets text : List ℕ) (ended : Bool) → TextIs octets text ended → story_tokens_of octets ≡ map Octet text ++ cond ended (End ∷ []) []
tokens_of octets text ended is =
    ap (λ (t : List ℕ). map Octet t ++ cond (list_any (λ b. b == 3) (after_stx octets)) (End ∷ []) []) is.text_is
    ∙ ap (λ (b : Bool). map Octet text ++ cond b (End ∷ []) []) is.ended_is

-- ---- The text so far in each state.

-- whether ETX was received
abbrev pub text_ended : Place → Bool
text_ended (Trailer h t) = true
text_ended (AfterEnd h t k) = true
text_ended _ = false

pub none_after : (k : ℕ) (octets : List ℕ) → Are (is_not k) octets → after_first (λ b. b == k) octets ≡ []
none_after k octets h =
    ap (λ (n : ℕ). drop (n + 1) octets) (no_first k octets h) ∙ (ap (drop (length octets + 1)) (sym (append-nil octets)) ∙ drop-append-add octets [] 1)

-- Before STX no octet is STX.
pub no_stx : (octets text : List ℕ) (p : Place) → Stands octets text p → head_read (Some p) ≡ None → Are (is_not 2) octets
no_stx octets text (Filler k) s e = filler_not octets s.spelled.0.0
no_stx octets text (InHeader part t) s e = rw s.spelled.2 (after_soh s.spelled.0 (so_far part t) s.spelled.1 (so_far_info part t s.bare))
no_stx octets text (Info h) s e = rw s.spelled.2
    (after_soh s.spelled.0 (fixed_header h ++ (32 ∷ h.info)) s.spelled.1
    (Are-append is_info_octet (fixed_header h) (32 ∷ h.info) (header_info h s.bare) s.bare.info.0))
no_stx octets text (Gap h k feed) s e = let l = s.spelled in rw l.8 (before_text l.0 l.1 l.2 h l.3 s.bare.0 l.4 l.5)
no_stx octets text _ s e = absurd cc

-- Before STX there is no text.
pub none_yet : (octets text : List ℕ) (p : Place) → MatchesState octets text p → head_read (Some p) ≡ None → text ≡ []
none_yet octets text (Filler k) l e = l.2
none_yet octets text (Gap h k feed) l e = l.9
none_yet octets text (InHeader part t) l e = l.3
none_yet octets text (Info h) l e = l.3
none_yet octets text _ l e = absurd cc

pub text_at : (octets text : List ℕ) (p : Place) → Stands octets text p → TextIs octets text (text_ended p)
text_at octets text (Text h reader) s = leads_on octets text (after_head octets h (text_begins octets text h reader s.bare s.spelled)) s.spelled.6
text_at octets text (Trailer h t) s = has_ended octets text t.items (after_head octets h (trailer_begins octets text h t s.bare.0 s.spelled)) s.spelled.6
text_at octets text (AfterEnd h t k) s =
    let m = s.spelled.0 in
    has_ended octets text (t.items ++ (4 ∷ m.after)) (after_head octets h (message_begins octets h text t.items m)) m.is_text
text_at octets text p s =
    let none = none_after 2 octets (no_stx octets text p s refl) in
    record { text_is = ap (before_first (λ b. b == 3)) none ∙ sym (none_yet octets text p s.spelled refl); ended_is = ap (list_any (λ b. b == 3)) none }

pub text_is : {octets text : List ℕ} {h : Header} {reader : TextReader} → Stands octets text (Text h reader) → text_so_far octets ≡ text
text_is {octets} {text} {h} {reader} s = (text_at octets text (Text h reader) s).text_is

pub tokens_are : {octets text : List ℕ} {h : Header} {reader : TextReader} → Stands octets text (Text h reader) → story_tokens_of octets ≡ map Octet text
tokens_are {octets} {text} {h} {reader} s = tokens_of octets text false (text_at octets text (Text h reader) s) ∙ append-nil (map Octet text)
