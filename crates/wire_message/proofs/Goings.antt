-- What octets do in a state.
use Rattle.std.proofs.Common.{◌≡◌, ℕ, ◌+◌, ◌<◌, ◌≤◌, Bool, true, false, ◌&&◌, ◌||◌, ◌==◌, nat_lt, length, slice_index, List, [], ◌∷◌, ◌++◌, Some, None, refl, subst, arith, append_assoc, append-nil}
use Rattle.wire_message.proofs.Names.{and_parts, or_right, eqb-true, take_more, same_Some, ArrayVec, TextReader, IsField, is_info_octet, is_trailer_octet, is_filler_octet, is_text_octet, max_filler, max_info, max_trailer, Header, IsHeader, IsMessageState, MatchesState, IsStoryState, ConsumesAnOctet, lengthens_gap, ends, begins, is_octet_of, most_of_part, octets_of_part, HeaderPart, Source, HeaderTexts, Place, Filler, InHeader, Info, Gap, Text, Trailer, AfterEnd}
use Rattle.wire_message.proofs.Machine.{of, no_texts, put, more_info, IsBare, Stands, stands, guarded, next, run, and_then_place, extended}
use Rattle.wire_message.proofs.Transitions.{field_more, field_none, one_is, filler_more, filler_soh, info_more, info_gap, gap_more, gap_stx, text_more, text_etx, trailer_more, trailer_eot, end_more, no_texts_yet, longer_info, longer_is, longer_spells, next_is, next_spells, next_story}
use Rattle.wire_story.specs.States.Reading as story

-- The octet that comes first.
pub first_is : (xs ys : List ℕ) (b : ℕ) → xs ≡ b ∷ ys → slice_index xs 0 ≡ b
first_is xs ys b e = rw e refl

-- ---- One octet.

-- One octet takes a state to another.
takes_one : (p q : Place) (rest : List ℕ) → 0 < length rest → IsMessageState q
    → ((before text : List ℕ) → MatchesState before text p → MatchesState (before ++ (slice_index rest 0 ∷ [])) text q)
    → ((text : List ℕ) → IsStoryState text p → IsStoryState text q) → ConsumesAnOctet p rest q 1
takes_one p q rest some i adds tells = record {
  some = omega arith;
  within = omega (arith, some);
  is_place = i;
  adds = rw (take_more rest 0 0 some) adds;
  story = tells;
}

pub part_ends : (part : HeaderPart) (t : HeaderTexts) (p q : Place) (rest : List ℕ) → 0 < length rest → p ≡ InHeader part t
    → q ≡ begins part (slice_index rest 0) t → IsMessageState p
    → (ends part (slice_index rest 0) && nat_lt 0 (length (octets_of_part part t))) ≡ true → ConsumesAnOctet p rest q 1
part_ends part t p q rest some is goes i on =
    let b = slice_index rest 0 in
    let at : IsMessageState (InHeader part t) = rw is at i in
    let both = extended (ends part) b 0 (length (octets_of_part part t)) on in
    rw (is, goes) (takes_one (InHeader part t) (begins part b t) rest some (next_is part b t at both.0 both.1)
    (λ before text l. next_spells part b t before text at both.0 l) (next_story part b t))

pub info_to_gap : (h : Header) (rest : List ℕ) → 0 < length rest → IsHeader h → is_filler_octet (slice_index rest 0) ≡ true
    → ConsumesAnOctet (Info h) rest (Gap h 1 (slice_index rest 0 == 10)) 1
info_to_gap h rest some i fills =
    let b = slice_index rest 0 in
    takes_one (Info h) (Gap h 1 (b == 10)) rest some (i, omega arith, omega arith, or_right (b == 10) true refl)
    (λ before text l. info_gap before text h b fills l) (λ text l. l)

pub gap_on : (h : Header) (k : ℕ) (feed now : Bool) (rest : List ℕ) → 0 < length rest → IsMessageState (Gap h k feed)
    → lengthens_gap k feed (slice_index rest 0) ≡ true
    → now ≡ (feed || slice_index rest 0 == 10) → ConsumesAnOctet (Gap h k feed) rest (Gap h (k + 1) now) 1
gap_on h k feed now rest some i on e =
    let b = slice_index rest 0 in
    let parts = and_parts (is_filler_octet b && nat_lt k max_filler) (feed || b == 10 || nat_lt (k + 1) max_filler) on in
    let fill = extended is_filler_octet b k max_filler parts.0 in
    takes_one (Gap h k feed) (Gap h (k + 1) now) rest some (i.0, omega arith, omega (arith, fill.1), rw e parts.1)
    (λ before text l. rw e (gap_more before text h k feed b fill.0 l)) (λ text l. l)

pub gap_ends : (h : Header) (k : ℕ) (feed : Bool) (reader : TextReader) (rest : List ℕ) → 0 < length rest → IsMessageState (Gap h k feed) → IsMessageState
    (Text h reader)
    → story.TextReaderHasRead reader [] → (slice_index rest 0 == 2 && feed) ≡ true → ConsumesAnOctet (Gap h k feed) rest (Text h reader) 1
gap_ends h k feed reader rest some i j stands on =
    let parts = and_parts (slice_index rest 0 == 2) feed on in
    takes_one (Gap h k feed) (Text h reader) rest some j
    (λ before text l. rw (eqb-true (slice_index rest 0) 2 parts.0) (gap_stx before text h k reader i.1 i.2 (rw parts.1 at l)))
    (λ text none. rw none stands)

pub trailer_ends : (h : Header) (t : ArrayVec ℕ) (rest : List ℕ) → 0 < length rest → IsMessageState (Trailer h t) → slice_index rest 0 ≡ 4
    → ConsumesAnOctet (Trailer h t) rest (AfterEnd h t 0) 1
trailer_ends h t rest some i eot =
    takes_one (Trailer h t) (AfterEnd h t 0) rest some (i.0, i.1, omega arith)
    (λ before text l. rw eot (trailer_eot before text h t i.0 i.1 l)) (λ text l. l)

pub end_on : (h : Header) (t : ArrayVec ℕ) (k : ℕ) (rest : List ℕ) → 0 < length rest → IsMessageState (AfterEnd h t k)
    → (is_filler_octet (slice_index rest 0) && nat_lt k max_filler) ≡ true → ConsumesAnOctet (AfterEnd h t k) rest (AfterEnd h t (k + 1)) 1
end_on h t k rest some i on =
    let fill = extended is_filler_octet (slice_index rest 0) k max_filler on in
    takes_one (AfterEnd h t k) (AfterEnd h t (k + 1)) rest some (i.0, i.1, omega (arith, fill.1))
    (λ before text l. end_more before text (slice_index rest 0 ∷ []) h t k (one_is is_filler_octet (slice_index rest 0) fill.0) (omega (arith, fill.1)) l)
    (λ text l. l)

-- ---- What octets reach, whatever the reader of the text.

-- From all octets that match p these reach q, and add the same to the text.
abbrev pub Continues : Place → List ℕ → Place → Type 0
Continues p ys q = (more : List ℕ) × ((xs text : List ℕ) → Stands xs text p → Stands (xs ++ ys) (text ++ more) q)

-- The octets add nothing to the text.
quiet : (p q : Place) (ys : List ℕ) → (IsBare p → IsBare q) → ((xs text : List ℕ) → IsBare p → MatchesState xs text p → MatchesState (xs ++ ys) text q)
    → Continues p ys q
quiet p q ys is spells = ([], λ xs text s. rw (append-nil text) (record { bare = is s.bare; spelled = spells xs text s.bare s.spelled }))

quiet_takes : (p q : Place) (b : ℕ) → (IsBare p → ConsumesAnOctet p (b ∷ []) q 1) → Continues p (b ∷ []) q
quiet_takes p q b takes =
    ([], λ xs text s. let t = takes s.bare in rw (append-nil text) (stands (xs ++ (b ∷ [])) text q t.is_place (t.adds xs text s.spelled)))

quiet_at : (p q : Place) (b k : ℕ) → (b == k) ≡ true → (IsBare p → IsBare q)
    → ((xs text : List ℕ) → IsBare p → MatchesState xs text p → MatchesState (xs ++ (k ∷ [])) text q) → Continues p (b ∷ []) q
quiet_at p q b k t is spells = rw (eqb-true b k t) (quiet p q (k ∷ []) is spells)

-- The state after an octet is one of the two that may come.
either : (C : Place → Type 0) (t u : Bool) (s r q : Place) → guarded t s (guarded u r None) ≡ Some q → (t ≡ true → C s) → (u ≡ true → C r) → C q
either C true u s r q e f g = rw (same_Some s q e) at (f refl)
either C false true s r q e f g = rw (same_Some r q e) at (g refl)
either C false false s r q e f g = absurd cc

-- A part with one octet more.
one_more : (test : ℕ → Bool) (most : ℕ) (xs : List ℕ) (b : ℕ) → IsField test 0 most xs → (test b && nat_lt (length xs) most) ≡ true
    → IsField test 0 most (xs ++ (b ∷ []))
one_more test most xs b h t =
    let on = extended test b (length xs) most t in
    field_more test 0 0 most xs (b ∷ []) h (one_is test b on.0) (omega (arith, on.1)) (omega arith)

octet_on : (p q : Place) (b : ℕ) → next p b ≡ Some q → Continues p (b ∷ []) q
octet_on (Filler k) q b e = either (Continues (Filler k) (b ∷ [])) _ _ _ _ q e
    (λ t.
    let fill = extended is_filler_octet b k max_filler t in
    quiet (Filler k) (Filler (k + 1)) (b ∷ []) (λ i. omega (arith, fill.1))
    (λ xs text i l. filler_more xs text (b ∷ []) k (one_is is_filler_octet b fill.0) (omega (arith, fill.1)) l))
    (λ t. quiet_at (Filler k) (InHeader Source no_texts) b 1 t (λ i. no_texts_yet) (λ xs text i l. filler_soh xs text k l))
octet_on (InHeader part t) q b e = either (Continues (InHeader part t) (b ∷ [])) _ _ _ _ q e
    (λ more.
    let on = extended (is_octet_of part) b (length (octets_of_part part t)) (most_of_part part) more in
    quiet (InHeader part t) (InHeader part (put part (octets_of_part part t ++ (b ∷ [])) t)) (b ∷ [])
    (λ i. longer_is part t (b ∷ []) i (one_is (is_octet_of part) b on.0) (omega (arith, on.1))) (λ xs text i l. longer_spells part t xs text (b ∷ []) l))
    (λ on. quiet_takes (InHeader part t) (begins part b t) b (λ i. part_ends part t _ _ (b ∷ []) (omega arith) refl refl i on))
octet_on (Info h) q b e = either (Continues (Info h) (b ∷ [])) _ _ _ _ q e
    (λ t. quiet (Info h) (Info (more_info h b)) (b ∷ []) (λ i. longer_info h b i (one_more is_info_octet max_info h.info b i.info t))
    (λ xs text i l. info_more xs text (b ∷ []) h (more_info h b) refl l))
    (λ t. quiet_takes (Info h) (Gap h 1 (b == 10)) b (λ i. info_to_gap h (b ∷ []) (omega arith) i t))
octet_on (Gap h k feed) q b e = either (Continues (Gap h k feed) (b ∷ [])) _ _ _ _ q e
    (λ t. quiet_takes (Gap h k feed) (Gap h (k + 1) (feed || b == 10)) b (λ i. gap_on h k feed (feed || b == 10) (b ∷ []) (omega arith) i t refl))
    (λ t.
    let parts = and_parts (b == 2) feed t in
    quiet_at (Gap h k feed) (Text h None) b 2 parts.0 (λ i. i.0) (λ xs text i l. gap_stx xs text h k None i.1 i.2 (rw parts.1 at l)))
octet_on (Text h reader) q b e = either (Continues (Text h reader) (b ∷ [])) _ _ _ _ q e
    (λ t. (b ∷ [], λ xs text s. record { bare = s.bare; spelled = text_more xs text (b ∷ []) h reader None (one_is is_text_octet b t) s.spelled }))
    (λ t. quiet_at (Text h reader) (Trailer h (of [])) b 3 t (λ i. (i, field_none is_trailer_octet max_trailer)) (λ xs text i l. text_etx xs text h reader l))
octet_on (Trailer h v) q b e = either (Continues (Trailer h v) (b ∷ [])) _ _ _ _ q e
    (λ t. quiet (Trailer h v) (Trailer h (of (v.items ++ (b ∷ [])))) (b ∷ []) (λ i. (i.0, one_more is_trailer_octet max_trailer v.items b i.1 t))
    (λ xs text i l. trailer_more xs text (b ∷ []) h v l))
    (λ t. quiet_takes (Trailer h v) (AfterEnd h v 0) b (λ i. trailer_ends h v (b ∷ []) (omega arith) i (eqb-true b 4 t)))
octet_on (AfterEnd h v k) q b e = either (Continues (AfterEnd h v k) (b ∷ [])) _ false _ (AfterEnd h v k) q e
    (λ t. quiet_takes (AfterEnd h v k) (AfterEnd h v (k + 1)) b (λ i. end_on h v k (b ∷ []) (omega arith) i t)) (λ none. absurd cc)

pub octets_on : (p q : Place) (ys : List ℕ) → run p ys ≡ Some q → Continues p ys q
octets_on p q [] e = subst (Continues p []) (same_Some p q e) (quiet p p [] (λ i. i) (λ xs text i l. rw (append-nil xs) l))
octets_on p q (b ∷ ys) e =
    let s = and_then_place (next p b) (λ t. run t ys) q e in
    let first = octet_on p s.0 b s.1 in
    let rest = octets_on s.0 q ys s.2 in (
      first.0 ++ rest.0,
      λ xs text at. rw (append_assoc xs (b ∷ []) ys, append_assoc text first.0 rest.0) at (rest.1 (xs ++ (b ∷ [])) (text ++ first.0) (first.1 xs text at)),
    )
