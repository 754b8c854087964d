-- Octets reach each state: of each length that is neither too small nor too great, and of no other.
-- Filler is zeros; a gap has its LF first; a text is letters and its pending CR.
use Rattle.std.proofs.Common.{◌≡◌, ℕ, ◌+◌, ◌-◌, ◌≤◌, ◌↔◌, Bool, true, false, List, [], ◌∷◌, ◌++◌, length, replicate, Option, Some, None, refl, sym, ap, subst, ◌∙◌, arith, inl, inr, length-append, ⊎_elim}
use Rattle.wire_message.proofs.Names.{EndsInReturns, HasLines, cases_lt, length-replicate, same_Some, ArrayVec, IsTextSoFar, is_line_octet, line_end, Are, is_filler_octet, is_text_octet, max_filler, Header, IsFiller, IsGap, EncodesInfo, fixed_header, has_feed, packed_info, IsMessageState, MatchesState, IsStoryState, ReachesMessageState, so_far, MessageStatesAreReached, Place, Filler, InHeader, Info, Gap, Text, Trailer, AfterEnd, Are-append}
use Rattle.wire_message.proofs.{Transitions.field_none, Transitions.message_from, TextSoFar.any_none, TextSoFar.is_not, Packed.spells_packed, Packed.all_pass}
use Rattle.wire_message.specs.States.Reading.{IsReachedByLength, IsPossibleLength, fixed_octets, least_head, least_of, greatest_of}

-- octets of that length reach the state
abbrev IsReached : Place → ℕ → Type 0
IsReached place count = (octets : List ℕ) × (text : List ℕ) × ReachesMessageState octets text place × (length octets ≡ count)

-- NUL, k times
abbrev zeros : ℕ → List ℕ
zeros k = replicate k 0

is_filler : (k : ℕ) → k ≤ max_filler → IsFiller (zeros k)
is_filler k le = (all_pass is_filler_octet 0 k refl, omega arith, omega (arith, le, length-replicate {A = ℕ} k 0))

nothing : IsFiller []
nothing = field_none is_filler_octet max_filler

-- LF alone is a gap.
feed_alone : IsGap (10 ∷ [])
feed_alone = ((refl, omega arith, omega arith), refl)

-- the letter a, k times
abbrev letters : ℕ → List ℕ
letters k = replicate k 97

-- ---- Before SOH, filler makes up the length.

filled : (p : Place) (rest : List ℕ) (least : ℕ) → IsMessageState p → IsStoryState [] p → length rest ≡ least
    → ((before : List ℕ) → IsFiller before → MatchesState (before ++ rest) [] p)
    → (count : ℕ) → least ≤ count → count ≤ max_filler + least → IsReached p count
filled p rest least i story long spells count above below =
    let before : List ℕ = zeros (count - least) in
    let spelled = spells before (is_filler (count - least) (omega (arith, below))) in
    let size : length (before ++ rest) ≡ count = omega (arith, length-append before rest, length-replicate {A = ℕ} (count - least) 0, long, above) in
    (before ++ rest, [], record { is_place = i; spelled = spelled; story = story }, size)

-- ---- The gap.

-- k octets of a gap, with an LF first or without one.
gap_of : (k : ℕ) (feed : Bool) → 1 ≤ k → (gap : List ℕ) × Are is_filler_octet gap × (length gap ≡ k) × (has_feed gap ≡ feed)
gap_of k true some = (10 ∷ zeros (k - 1), all_pass is_filler_octet 0 (k - 1) refl, omega (arith, length-replicate {A = ℕ} (k - 1) 0, some), refl)
gap_of k false some =
    (zeros k, all_pass is_filler_octet 0 k refl, length-replicate {A = ℕ} k 0, any_none 10 (zeros k) (all_pass (is_not 10) 0 k refl))

packed_within : (info : List ℕ) → (length info ≤ length (packed_info info)) × (length (packed_info info) ≤ 1 + length info)
packed_within [] = omega arith
packed_within (b ∷ bs) = omega arith

joined_length : (a b c : List ℕ) → length (1 ∷ (a ++ (b ++ c))) ≡ 1 + length a + length b + length c
joined_length a b c = omega (arith, length-append a (b ++ c), length-append b c)

gap_filled : (h : Header) (k : ℕ) (feed : Bool) (info : List ℕ) → IsMessageState (Gap h k feed) → EncodesInfo h.info info
    → (count : ℕ) → fixed_octets h + length info + k ≤ count → count ≤ max_filler + (fixed_octets h + length info + k) → IsReached (Gap h k feed) count
gap_filled h k feed info i spelled count above below =
    let (gap, fills, many, feeds) = gap_of k feed i.1 in
    filled (Gap h k feed) (1 ∷ (fixed_header h ++ (info ++ gap))) (fixed_octets h + length info + k) i refl
    (omega (arith, joined_length (fixed_header h) info gap, many))
    (λ before fill. (before, info, gap, fill, spelled, fills, many, feeds, refl, refl)) count above below

gap_reached : (h : Header) (k : ℕ) (feed : Bool) → IsMessageState (Gap h k feed)
    → (count : ℕ) → IsPossibleLength (least_of (Gap h k feed)) (greatest_of (Gap h k feed)) count → IsReached (Gap h k feed) count
gap_reached h k feed i count one =
    let least : ℕ = fixed_octets h + length (packed_info h.info) + k in
    ⊎_elim (λ more. gap_filled h k feed (32 ∷ h.info) i (inr refl) count (omega (arith, more, (packed_within h.info).0)) (omega (arith, one.1)))
    (λ few. gap_filled h k feed (packed_info h.info) i (spells_packed h.info) count one.0 few) (cases_lt (max_filler + least) count)

-- ---- From STX on, the text makes up the length.

-- the octets from SOH to STX, with LF alone as the gap
abbrev before_text : Header → List ℕ → List ℕ
before_text h rest = 1 ∷ (fixed_header h ++ (packed_info h.info ++ (10 ∷ 2 ∷ rest)))

before_text_length : (h : Header) (rest : List ℕ) → length (before_text h rest) ≡ least_head h + length rest
before_text_length h rest = omega (arith, joined_length (fixed_header h) (packed_info h.info) (10 ∷ 2 ∷ rest))

text_reached : (h : Header) (held : ℕ) → IsMessageState (Text h (Some held)) → (count : ℕ) → least_of (Text h (Some held)) ≤ count
    → IsReached (Text h (Some held)) count
text_reached h held i count above =
    let k : ℕ = count - (least_head h + held) in
    let text : List ℕ = letters k ++ replicate held 13 in
    let are = Are-append is_text_octet (letters k) (replicate held 13) (all_pass is_text_octet 97 k refl) (all_pass is_text_octet 13 held refl) in
    let same : held ≡ i.1.0 = cc in
    let spelled : MatchesState (before_text h text) text (Text h (Some held)) =
    ([], packed_info h.info, 10 ∷ [], nothing, spells_packed h.info, feed_alone, are, refl) in
    let holds : EndsInReturns text held = ([], letters k, (all_pass is_line_octet 97 k refl, omega (arith, i.1.2, same), refl)) in
    let size : length (before_text h text) ≡ count = omega (arith, before_text_length h text, length-append {A = ℕ}, length-replicate {A = ℕ}, above) in
    (before_text h text, text, record { is_place = i; spelled = spelled; story = (held, refl, holds) }, size)

trailer_reached : (h : Header) (t : ArrayVec ℕ) → IsMessageState (Trailer h t) → (count : ℕ) → least_of (Trailer h t) ≤ count → IsReached (Trailer h t) count
trailer_reached h t i count above =
    let k : ℕ = count - (least_head h + 1 + length t.items) in
    let rest : List ℕ = letters k ++ (3 ∷ t.items) in
    let spelled : MatchesState (before_text h rest) (letters k) (Trailer h t) =
    ([], packed_info h.info, 10 ∷ [], nothing, spells_packed h.info, feed_alone, all_pass is_text_octet 97 k refl, refl) in
    let size : length (before_text h rest) ≡ count = omega (arith, before_text_length h rest, length-append {A = ℕ}, length-replicate {A = ℕ}, above) in
    (before_text h rest, letters k, record { is_place = i; spelled = spelled; story = (letters k ∷ [], (all_pass is_line_octet 97 k refl, refl)) }, size)

end_reached : (h : Header) (t : ArrayVec ℕ) (k : ℕ) → IsMessageState (AfterEnd h t k) → (count : ℕ) → least_of (AfterEnd h t k) ≤ count
    → IsReached (AfterEnd h t k) count
end_reached h t k i count above =
    let more : ℕ = count - (least_head h + 2 + length t.items + k) in
    let text : List ℕ = letters more in
    let rest : List ℕ = text ++ (3 ∷ (t.items ++ (4 ∷ zeros k))) in
    let message = message_from (before_text h rest) h text t.items [] (packed_info h.info) (10 ∷ []) (zeros k) nothing i.0 (spells_packed h.info)
    feed_alone (all_pass is_text_octet 97 more refl) i.1 (is_filler k i.2) refl in
    let lines : HasLines text = (text ∷ [], (all_pass is_line_octet 97 more refl, refl)) in
    let size : length (before_text h rest) ≡ count = omega (arith, before_text_length h rest, length-append {A = ℕ}, length-replicate {A = ℕ}, above) in
    (before_text h rest, text, record { is_place = i; spelled = (message, length-replicate {A = ℕ} k 0); story = lines }, size)

-- ---- All states.

leads : (p : Place) → IsMessageState p → (count : ℕ) → IsPossibleLength (least_of p) (greatest_of p) count → IsReached p count
leads (Filler k) i count one =
    let many = length-replicate {A = ℕ} k 0 in
    (zeros k, [], record { is_place = i; spelled = (is_filler k i, many, refl); story = refl }, omega (arith, many, one.0, one.1))
leads (InHeader part t) i count one =
    filled (InHeader part t) (1 ∷ so_far part t) (least_of (InHeader part t)) i refl (omega arith) (λ before fill. (before, fill, refl, refl)) count one.0 one.1
leads (Info h) i count one = filled (Info h) (1 ∷ (fixed_header h ++ (32 ∷ h.info))) (least_of (Info h)) i refl
    (omega (arith, length-append (fixed_header h) (32 ∷ h.info))) (λ before fill. (before, fill, refl, refl)) count one.0 one.1
leads (Gap h k feed) i count one = gap_reached h k feed i count one
leads (Text h (Some held)) i count one = text_reached h held i count one.0
leads (Text h None) i count one = let none = i.1.1 in absurd cc
leads (Trailer h t) i count one = trailer_reached h t i count one.0
leads (AfterEnd h t k) i count one = end_reached h t k i count one.0

-- The least length is one of the lengths.
least_leads : (p : Place) → IsPossibleLength (least_of p) (greatest_of p) (least_of p)
least_leads (Gap h k feed) = omega (arith, (packed_within h.info).1)
least_leads _ = omega arith

pub reached : MessageStatesAreReached
reached place = (λ i. let led = leads place i (least_of place) (least_leads place) in (led.0, led.1, led.2), λ led. led.2.is_place)

-- ---- Octets of no other length reach a state.

-- A text is at least as long as the CR at its end.
so_far_long : (x : List ℕ) (lines : List (List ℕ)) (line : List ℕ) (held : ℕ) → IsTextSoFar x lines line held → held ≤ length x
so_far_long x [] line held h = omega (arith, ap length h.2, length-append line (replicate held 13), length-replicate {A = ℕ} held 13)
so_far_long x (first ∷ lines) line held h =
    omega (arith, ap length h.4, length-append first (line_end h.1 ++ h.3), length-append (line_end h.1) h.3, so_far_long h.3 lines line held h.5)

-- The length of an info with its SP, and of an empty one with it or without it.
info_within : (info xs : List ℕ) → EncodesInfo info xs → (length (packed_info info) ≤ length xs) × (length xs ≤ 1 + length info)
info_within [] xs (inl none) = omega (arith, ap length none.1)
info_within (b ∷ bs) xs (inl none) = let empty = none.0 in absurd cc
info_within info xs (inr some) = omega (arith, ap length some, (packed_within info).1)

-- The length of filler, SOH, the parts up to the words, the info, and what follows.
object_length : (before fixed info rest : List ℕ)
    → length (before ++ (1 ∷ (fixed ++ (info ++ rest)))) ≡ length before + 1 + length fixed + length info + length rest
object_length before fixed info rest = omega (arith, length-append before (1 ∷ (fixed ++ (info ++ rest))), joined_length fixed info rest)

within : (p : Place) (octets text : List ℕ) → ReachesMessageState octets text p → IsPossibleLength (least_of p) (greatest_of p) (length octets)
within (Filler k) octets text l = omega (arith, l.spelled.1)
within (InHeader part t) octets text l =
    let s = l.spelled in omega (arith, ap length s.2, length-append s.0 (1 ∷ so_far part t), s.1.2)
within (Info h) octets text l =
    let s = l.spelled in omega (arith, ap length s.2 ∙ object_length s.0 (fixed_header h) (32 ∷ []) h.info, s.1.2)
within (Gap h k feed) octets text l =
    let s = l.spelled in
    omega (arith, ap length s.8 ∙ object_length s.0 (fixed_header h) s.1 s.2, info_within h.info s.1 s.4, s.6, s.3.2)
within (Text h (Some held)) octets text l =
    let s = l.spelled in
    let same : held ≡ l.story.0 = let e = l.story.1 in cc in
    let long = so_far_long text l.story.2.0 l.story.2.1 l.story.0 l.story.2.2 in
    let sum = ap length s.7 ∙ object_length s.0 (fixed_header h) s.1 (s.2 ++ (2 ∷ text)) in
    omega (arith, sum, length-append s.2 (2 ∷ text), info_within h.info s.1 s.4, s.5.0.1, same, long)
within (Text h None) octets text l = let none = l.story.1 in absurd cc
within (Trailer h t) octets text l =
    let s = l.spelled in
    let sum = ap length s.7 ∙ object_length s.0 (fixed_header h) s.1 (s.2 ++ (2 ∷ (text ++ (3 ∷ t.items)))) in
    omega (arith, sum, length-append s.2 (2 ∷ (text ++ (3 ∷ t.items))), length-append text (3 ∷ t.items), info_within h.info s.1 s.4, s.5.0.1)
within (AfterEnd h t k) octets text l =
    let m = l.spelled.0 in
    let rest : List ℕ = text ++ (3 ∷ (t.items ++ (4 ∷ m.after))) in
    let sum = ap length m.parts ∙ object_length m.before (fixed_header h) m.info (m.gap ++ (2 ∷ rest)) in
    omega (
      arith,
      sum,
      length-append m.gap (2 ∷ rest),
      length-append text (3 ∷ (t.items ++ (4 ∷ m.after))),
      length-append t.items (4 ∷ m.after),
      info_within h.info m.info m.is_info,
      m.is_gap.0.1,
      l.spelled.1,
    )

-- The bounds of a reader's state are the bounds of these lengths.
pub exactly : (reader : Option Place) (p : Place) (least : ℕ) (greatest : Option ℕ) → reader ≡ Some p → IsMessageState p → least ≡ least_of p
    → greatest ≡ greatest_of p
    → (count : ℕ) → IsReachedByLength reader count ↔ IsPossibleLength least greatest count
exactly reader p least greatest at i low high count = rw (at, low, high) (
  λ led. subst (IsPossibleLength (least_of p) (greatest_of p)) led.3 (within p led.0 led.1 (subst (ReachesMessageState led.0 led.1) (sym
      (same_Some _ _ led.2.1)) led.2.2)),
  λ one. let (octets, text, leads_here, long) = leads p i count one in (octets, text, (p, refl, leads_here), long),
)
