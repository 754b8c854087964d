-- A header is stored as the octets of its parts with one octet between two of them, whichever it
-- is. One that is complete at the start takes the reader from filler to the text.
use Rattle.std.proofs.Common.{◌≡◌, ◌⊎◌, ℕ, ◌+◌, ◌-◌, List, [], ◌∷◌, ◌++◌, length, take, refl, ap, ◌∙◌, arith, append_assoc, length-append, inl, inr}
use Rattle.wire_message.proofs.Names.{slice_range, take-append_seam, drop-append_seam, TextReader, Header, header_of, IsHeader, EncodesInfo, fixed_header, ConsumesAnOctet, Filler, Text, BeginsWithHeader, IsGap}
use Rattle.wire_message.proofs.{Alike.stands_two, TextSoFar.head_begins}
use Rattle.wire_story.specs.States.Reading as story
use Rattle.wire_message.specs.Kept.{parts_in, ends_of, IsKept}
use Rattle.wire_message.specs.declared.ends.Ends.{Ends}

-- the parts, with these octets between them
abbrev laid : (s n p c w i : List ℕ) (x y z v : ℕ) → List ℕ
laid s n p c w i x y z v = s ++ (n ++ (x ∷ (p ++ (y ∷ (c ++ (z ∷ (w ++ (v ∷ i))))))))

part_in : (before part after octets : List ℕ) (from to : ℕ) → octets ≡ before ++ (part ++ after) → from ≡ length before → to ≡ length before + length part
    → slice_range octets from to ≡ part
part_in before part after octets from to is begins ends =
    let long : to - from ≡ length part = omega arith in
    rw (long, begins, is, drop-append_seam before (part ++ after)) (take-append_seam part after)

six : (a b d e f g s n p c w i : List ℕ) → a ≡ s → b ≡ n → d ≡ p → e ≡ c → f ≡ w → g ≡ i → header_of a b d e f g ≡ header_of s n p c w i
six a b d e f g s n p c w i e1 e2 e3 e4 e5 e6 = rw (e1, e2, e3, e4, e5, e6) refl

laid_parts : (s n p c w i : List ℕ) (x y z v : ℕ) → length p ≡ 1 → parts_in (laid s n p c w i x y z v) (ends_of s n c w) ≡ header_of s n p c w i
laid_parts s n p c w i x y z v one =
    let o : List ℕ = laid s n p c w i x y z v in
    let front : List ℕ = s ++ (n ++ (x ∷ (p ++ (y ∷ (c ++ (z ∷ (w ++ (v ∷ [])))))))) in
    let whole : o ≡ front ++ i = simp append_assoc in
    let long : length s + length n + 3 + length c + 1 + length w + 1 ≡ length front = simp length-append (omega arith) in
    six _ _ _ _ _ _ s n p c w i
    (part_in [] s (n ++ (x ∷ (p ++ (y ∷ (c ++ (z ∷ (w ++ (v ∷ i)))))))) o _ _ refl refl (omega arith))
    (part_in s n (x ∷ (p ++ (y ∷ (c ++ (z ∷ (w ++ (v ∷ i))))))) o _ _ refl refl refl)
    (part_in (s ++ (n ++ (x ∷ []))) p (y ∷ (c ++ (z ∷ (w ++ (v ∷ i))))) o _ _ (simp append_assoc) (simp length-append (omega arith))
    (simp length-append (omega arith)))
    (part_in (s ++ (n ++ (x ∷ (p ++ (y ∷ []))))) c (z ∷ (w ++ (v ∷ i))) o _ _ (simp append_assoc) (simp length-append (omega arith))
    (simp length-append (omega arith)))
    (part_in (s ++ (n ++ (x ∷ (p ++ (y ∷ (c ++ (z ∷ []))))))) w (v ∷ i) o _ _ (simp append_assoc) (simp length-append (omega arith))
    (simp length-append (omega arith)))
    (rw (whole, long) (drop-append_seam front i))

-- Parts that are joined so are stored so.
kept_laid : (octets s n p c w i : List ℕ) (x y z v : ℕ) (ends : Ends) → octets ≡ laid s n p c w i x y z v → ends ≡ ends_of s n c w
    → IsHeader (header_of s n p c w i)
    → IsKept octets ends × (parts_in octets ends ≡ header_of s n p c w i)
kept_laid octets s n p c w i x y z v ends same is h =
    let parts = laid_parts s n p c w i x y z v (omega (arith, h.priority)) in
    rw (same, is) (
      record {
        source = omega arith;
        number = omega arith;
        category = omega arith;
        words = simp length-append (omega (arith, h.priority));
        is_header = rw parts h;
      },
      parts,
    )

-- ---- A header made of its parts.

pub kept_made : (s n p c w i o0 o1 o2 o3 o4 o5 : List ℕ) (ends : Ends) → o0 ≡ s → o1 ≡ o0 ++ n → o2 ≡ o1 ++ (32 ∷ p) → o3 ≡ o2 ++ (32 ∷ c)
    → o4 ≡ o3 ++ (32 ∷ w) → o5 ≡ o4 ++ (32 ∷ i)
    → ends ≡ ends_of s n c w → IsHeader (header_of s n p c w i) → IsKept o5 ends × (parts_in o5 ends ≡ header_of s n p c w i)
kept_made s n p c w i o0 o1 o2 o3 o4 o5 ends e0 e1 e2 e3 e4 e5 =
    kept_laid o5 s n p c w i 32 32 32 32 ends (rw (e5, e4, e3, e2, e1, e0) (simp append_assoc))

-- ---- A header that is complete at the start.

-- An info with its SP, or no info.
pub info_spelled : (info octets rest : List ℕ) → (octets ≡ 32 ∷ (info ++ rest)) ⊎ ((info ≡ []) × (octets ≡ rest))
    → (spelled : List ℕ) × EncodesInfo info spelled × (octets ≡ spelled ++ rest)
info_spelled info octets rest (inl some) = (32 ∷ info, inr refl, some)
info_spelled info octets rest (inr (empty, same)) = ([], inl (empty, refl), same)

-- The octet after the words, and what follows the info.
after_words : (i spelled gap rest : List ℕ) → EncodesInfo i spelled → (b : ℕ) × (tail : List ℕ) × (spelled ++ (gap ++ (2 ∷ rest)) ≡ b ∷ (i ++ tail))
after_words i spelled gap rest (inr some) = (32, gap ++ (2 ∷ rest), rw some refl)
after_words i spelled [] rest (inl none) = (2, rest, rw (none.0, none.1) refl)
after_words i spelled (b ∷ gap) rest (inl none) = (b, gap ++ (2 ∷ rest), rw (none.0, none.1) refl)

-- The parts of a header, joined.
joined : (s n p c w xs : List ℕ) → s ++ (n ++ (32 ∷ (p ++ (32 ∷ (c ++ (32 ∷ (w ++ xs))))))) ≡ (s ++ (n ++ (32 ∷ (p ++ (32 ∷ (c ++ (32 ∷ w))))))) ++ xs
joined s n p c w xs = simp append_assoc

-- The octets were split into the parts of a header, each followed by the rest.
pub front_kept : (o r1 s r2 n r3 r4 p r5 r6 c r7 r8 w r9 i r10 rest : List ℕ) (k : ℕ) (ends : Ends) → o ≡ 1 ∷ r1 → r1 ≡ s ++ r2 → r2 ≡ n ++ r3 → r3 ≡ 32 ∷ r4
    → r4 ≡ p ++ r5 → r5 ≡ 32 ∷ r6 → r6 ≡ c ++ r7 → r7 ≡ 32 ∷ r8 → r8 ≡ w ++ r9
    → (spelled : List ℕ) × EncodesInfo i spelled × (r9 ≡ spelled ++ r10) → (gap : List ℕ) × IsGap gap × (r10 ≡ gap ++ (2 ∷ rest))
    → IsHeader (header_of s n p c w i)
    → ends ≡ ends_of s n c w → k ≡ length s + length n + 3 + length c + 1 + length w + 1 + length i
    → ((begins : BeginsWithHeader o (parts_in (take k r1) ends)) × (begins.before ≡ []) × (begins.rest ≡ rest)) × IsKept (take k r1) ends
front_kept o r1 s r2 n r3 r4 p r5 r6 c r7 r8 w r9 i r10 rest k ends e1 e2 e3 e4 e5 e6 e7 e8 e9 (spelled, is_info, info_is) (gap, is_gap, gap_is) is ended long =
    let (v, tail, last) = after_words i spelled gap rest is_info in
    let front : List ℕ = laid s n p c w i 32 32 32 v in
    let cut : r1 ≡ s ++ (n ++ (32 ∷ (p ++ (32 ∷ (c ++ (32 ∷ (w ++ (spelled ++ (gap ++ (2 ∷ rest)))))))))) = rw
    (e2, e3, e4, e5, e6, e7, e8, e9, info_is, gap_is) refl in
    let whole : r1 ≡ front ++ tail = rw (cut, last) (simp append_assoc) in
    let all : k ≡ length front = simp length-append (omega (arith, long, is.priority)) in
    let kept = kept_laid (take k r1) s n p c w i 32 32 32 v ends (rw (all, whole) (take-append_seam front tail)) ended is in
    let parts = e1 ∙ ap (λ (u : List ℕ). 1 ∷ u) (cut ∙ joined s n p c w (spelled ++ (gap ++ (2 ∷ rest)))) in
    (rw kept.1 (head_begins o (header_of s n p c w i) [] spelled gap rest (refl, omega arith, omega arith) is is_info is_gap parts, refl, refl), kept.0)

front_is : (a i g rest : List ℕ) → 1 ∷ (a ++ (i ++ (g ++ (2 ∷ rest)))) ≡ (1 ∷ (a ++ (i ++ (g ++ (2 ∷ []))))) ++ rest
front_is a i g rest = simp append_assoc

pub text_from_head : (k : ℕ) (octets rest : List ℕ) (h : Header) (r : TextReader) → (f : BeginsWithHeader octets h) → f.before ≡ [] → f.rest ≡ rest
    → story.TextReaderHasRead r [] → ConsumesAnOctet (Filler k) octets (Text h r) (length octets - length rest)
text_from_head k octets rest h r f none left stands =
    let front : List ℕ = 1 ∷ (fixed_header h ++ (f.info ++ (f.gap ++ (2 ∷ [])))) in
    let is : octets ≡ front ++ rest = rw (none, left) at f.parts ∙ front_is (fixed_header h) f.info f.gap rest in
    let long : length octets ≡ length front + length rest = ap length is ∙ length-append front rest in
    let used : length octets - length rest ≡ length front = omega (arith, long) in
    let cut : take (length octets - length rest) octets ≡ front = rw (used, is) (take-append_seam front rest) in
    record {
      some = omega (arith, long);
      within = omega arith;
      is_place = (f.is_header, stands_two r [] stands);
      adds = rw cut (λ before text l. (before, f.info, f.gap, l.0, f.is_info, f.is_gap, rw l.2 refl, rw l.2 refl));
      story = λ text none. rw none stands;
    }
