-- Masks of octets, and the octets that they cover.
use Rattle.std.proofs.Common.{pow_pos, pow_mono, ◌≡◌, ℕ, zero, suc, ◌+◌, ◌-◌, ◌*◌, ◌/◌, ◌^◌, ◌<◌, ◌≤◌, Bool, true, false, not, cond, List, [], ◌∷◌, ◌++◌, ◌≢◌, ◌==◌, inl, inr, refl, length, length-drop, take, drop, map, get_or, get_or-drop, ◌∙◌, ap, sym, subst, arith}
use Rattle.std.specs.Int.Count.{count_trailing_zeros}
use Rattle.std.specs.Simd.Lanes.{mask_l}
use Rattle.std.specs.List.{list_all, prefix_len, slice_range}
use Rattle.std.proofs.Math.Nat.{mul_assoc, pow-suc, two-pow-succ, div-eq_of_lt, div-div-eq-div-mul, mul_comm, div-one}
use Rattle.std.proofs.lemmas.Simd.{mask_l-lt, trailing_mask_l, leading_from_mask_l}
use Rattle.std.proofs.lemmas.List.{length-append, length-map, get_or-take, length-take-le, drop-drop, drop-take, drop-append-le, take_rest}
use Rattle.std.proofs.lemmas.List.Sums.{prefix_len_passes, prefix_len-le-length}
use Rattle.std.proofs.lemmas.Bool.{and_from, cases_lt}
use Rattle.std.proofs.lemmas.Bool.Decides.{nat_tests}
use Rattle.std.proofs.lemmas.List.Folds.{list_all_more, prefix_len-append}
use Rattle.wire_story.specs.{Format.Texts.is_line_octet, Format.Texts.IsLine, Steps.is_low, Steps.MaskCovers}
use Rattle.wire_story.specs.declared.marks.Marks.{Marks}

-- ---- Masks.

half : (t : Bool) (n : ℕ) → (cond t 1 0 + 2 * n) / 2 ≡ n
half true n = omega arith
half false n = omega arith

-- A mask without its lowest bits.
pub mask_drop : (p : ℕ → Bool) (n : ℕ) (xs : List ℕ) → n ≤ length xs → mask_l (map p xs) / 2 ^ n ≡ mask_l (map p (drop n xs))
mask_drop p zero xs le = div-one (mask_l (map p xs))
mask_drop p (suc n) [] le = absurd (omega (arith, le))
mask_drop p (suc n) (x ∷ xs) le =
    let whole = mask_l (map p (x ∷ xs)) in
    ap (λ k. whole / k) (pow-suc 2 n ∙ mul_comm (2 ^ n) 2)
    ∙ (sym (div-div-eq-div-mul whole 2 (2 ^ n)) ∙ (ap (λ k. k / 2 ^ n) (half (p x) (mask_l (map p xs))) ∙ mask_drop p n xs (omega (arith, le))))

-- A mask of octets one after another.
pub mask_join : (p : ℕ → Bool) (xs ys : List ℕ) → mask_l (map p (xs ++ ys)) ≡ mask_l (map p xs) + mask_l (map p ys) * 2 ^ length xs
mask_join p [] ys = omega arith
mask_join p (x ∷ xs) ys =
    let m = mask_l (map p ys) in
    let more : m * 2 ^ length (x ∷ xs) ≡ m * 2 ^ length xs * 2 = ap (λ k. m * k) (pow-suc 2 (length xs)) ∙ sym (mul_assoc m (2 ^ length xs) 2) in
    omega (arith, mask_join p xs ys, more)

-- A mask has no bit after those of its octets.
mask_lt : (many : ℕ) (xs : List ℕ) → many ≤ length xs → mask_l (map is_low (take many xs)) < 2 ^ many
mask_lt many xs le = simp (length-map, length-take-le many xs le) at (mask_l-lt (map is_low (take many xs)))

-- The mask of a block of what remains.
pub mask_small : (xs : List ℕ) (at : ℕ) → at + 16 ≤ length xs → mask_l (map is_low (take 16 (slice_range xs at (length xs)))) < 65536
mask_small xs at room = rw (take_rest xs at) (mask_lt 16 (drop at xs) (omega (arith, length-drop at xs)))

-- the octets that a mask covers, and a low one after them
abbrev ended : ℕ → List ℕ → List ℕ
ended many xs = take many xs ++ 0 ∷ []

is_ended : (xs : List ℕ) (many : ℕ) → many ≤ length xs → mask_l (map is_low (ended many xs)) ≡ mask_l (map is_low (take many xs)) + 2 ^ many
is_ended xs many within = omega (arith, mask_join is_low (take many xs) (0 ∷ []), ap (λ n. 2 ^ n) (length-take-le many xs within))

-- ---- Marks.

-- A mask that covers no octet.
pub no_marks : (xs : List ℕ) → MaskCovers xs (record { left = 1 })
no_marks xs = record { many = 0; within = omega arith; few = omega arith; is = refl }

-- the mask of the next sixteen octets
abbrev pub marks_block : (xs : List ℕ) (at mask : ℕ) → at + 16 ≤ length xs → mask ≡ mask_l (map is_low (take 16 (slice_range xs at (length xs))))
    → MaskCovers (drop at xs) (record { left = mask + 65536 })
marks_block xs at mask room is = record {
  many = 16;
  within = omega (arith, length-drop at xs);
  few = omega arith;
  is = ap (λ n. n + 65536) (is ∙ ap (λ (ys : List ℕ). mask_l (map is_low (take 16 ys))) (take_rest xs at));
}

-- Some bit is set.
pub some_left : (xs : List ℕ) (m : Marks) (h : MaskCovers xs m) → 0 < m.left
some_left xs m h = omega (arith, h.is, pow_pos h.many)

-- If a bit remains, the mask covers what is before it.
pub tells_used : (xs : List ℕ) (m : Marks) (h : MaskCovers xs m) (used : ℕ) → m.left / 2 ^ used ≢ 0 → used ≤ h.many
tells_used xs m h used more = elim (cases_lt h.many used) [
  | inl less ↦ absurd (more (div-eq_of_lt (omega
      (arith, h.is, mask_lt h.many xs h.within, two-pow-succ h.many, pow_mono {i = suc h.many} {j = used} (omega (arith, less))))))
  | inr le ↦ le
]

-- The mask after some of the octets.
pub marks_after : (xs : List ℕ) (m : Marks) (h : MaskCovers xs m) (s : ℕ) → s ≤ h.many → MaskCovers (drop s xs) (record { left = m.left / 2 ^ s })
marks_after xs m h s le =
    let more = h.many - s in
    let whole : h.many ≡ s + more = omega (arith, le) in
    let room : more ≤ length (drop s xs) = omega (arith, h.within, le, length-drop s xs) in
    let long = length-take-le h.many xs h.within in
    let rest : drop s (ended h.many xs) ≡ ended more (drop s xs) =
    drop-append-le s (take h.many xs) (0 ∷ []) (omega (arith, long, le))
    ∙ ap (λ (ys : List ℕ). ys ++ 0 ∷ []) (ap (λ n. drop s (take n xs)) whole ∙ drop-take s more xs) in
    record {
      many = more;
      within = room;
      few = omega (arith, h.few);
      is =
          ap (λ n. n / 2 ^ s) (h.is ∙ sym (is_ended xs h.many h.within))
          ∙ mask_drop is_low s (ended h.many xs) (omega (arith, long, le, length-append (take h.many xs) (0 ∷ [])))
          ∙ ap (λ (ys : List ℕ). mask_l (map is_low ys)) rest
          ∙ is_ended (drop s xs) more room;
    }

either_way : (n l : ℕ) → cond (n == l) (l + 0) n ≡ n
either_way n l = grind (arith, nat_tests)

-- The lowest bit that is set is that of the first low octet.
lowest_low : (xs : List ℕ) (m : Marks) (h : MaskCovers xs m) → count_trailing_zeros 64 m.left ≡ prefix_len (λ b. not (is_low b)) (take h.many xs)
lowest_low xs m h =
    let front = take h.many xs in
    let is : m.left ≡ mask_l (map is_low (ended h.many xs)) = h.is ∙ sym (is_ended xs h.many h.within) in
    let short : length (ended h.many xs) ≤ 64 = omega (arith, length-append front (0 ∷ []), length-take-le h.many xs h.within, h.few) in
    ap (count_trailing_zeros 64) is
    ∙ trailing_mask_l is_low 64 (ended h.many xs) short (omega (arith, is, some_left xs m h))
    ∙ prefix_len-append (λ b. not (is_low b)) front (0 ∷ [])
    ∙ either_way (prefix_len (λ b. not (is_low b)) front) (length front)

-- The lowest bit that is set is no later than the sentinel.
pub lowest_few : (xs : List ℕ) (m : Marks) (h : MaskCovers xs m) → count_trailing_zeros 64 m.left ≤ h.many
lowest_few xs m h = omega (arith, lowest_low xs m h, prefix_len-le-length (λ b. not (is_low b)) (take h.many xs), length-take-le h.many xs h.within)

-- ---- Prefixes that lie in one line.

-- The first `at` octets lie in one line, and the mask covers what follows.
pub record IsUnmarkedTo (xs : List ℕ) (at left : ℕ) : Type 0 where
  pub within : at ≤ length xs
  pub line : IsLine (take at xs)
  pub marks : MaskCovers (drop at xs) (record { left = left })

calm_octet : (b : ℕ) → b < 256 → not (is_low b) ≡ true → is_line_octet b ≡ true
calm_octet b fits high = grind (arith, nat_tests)

-- An octet that a line may have continues the line.
pub line_more : (xs : List ℕ) (at : ℕ) → at < length xs → IsLine (take at xs) → is_line_octet (get_or xs at 0) ≡ true → IsLine (take (at + 1) xs)
line_more xs at within front stands = list_all_more is_line_octet xs at 0 within
    ∙ and_from (list_all is_line_octet (take at xs)) (is_line_octet (get_or xs at 0)) front stands

-- Octets before the first low one continue the line.
calm_front : (xs : List ℕ) → ((k : ℕ) → get_or xs k 0 < 256) → (at many n : ℕ) → at + n ≤ length xs → n ≤ many → IsLine (take at xs)
    → n ≤ prefix_len (λ b. not (is_low b)) (take many (drop at xs)) → IsLine (take (at + n) xs)
calm_front xs fits at many zero le few front pre = subst (λ (m : ℕ). IsLine (take m xs)) (omega arith) front
calm_front xs fits at many (suc n) le few front pre =
    let octet : get_or (take many (drop at xs)) n 0 ≡ get_or xs (at + n) 0 = get_or-take many (drop at xs) n 0 few ∙ get_or-drop at xs n 0 in
    let high = subst (λ (b : ℕ). not (is_low b) ≡ true) octet (prefix_len_passes (λ b. not (is_low b)) (take many (drop at xs)) n 0 pre) in
    let before = calm_front xs fits at many n (omega arith) (omega arith) front (omega arith) in
    subst (λ (m : ℕ). IsLine (take m xs)) (omega arith) (line_more xs (at + n) (omega arith) before (calm_octet (get_or xs (at + n) 0) (fits (at + n)) high))

-- A block with an empty mask continues the line.
pub calm_block : (xs : List ℕ) → ((k : ℕ) → get_or xs k 0 < 256) → (at : ℕ) → at + 16 ≤ length xs
    → mask_l (map is_low (take 16 (slice_range xs at (length xs)))) ≡ 0
    → IsLine (take at xs) → IsLine (take (at + 16) xs)
calm_block xs fits at within none front =
    let all = leading_from_mask_l is_low (take 16 (drop at xs)) (ap (λ (ys : List ℕ). mask_l (map is_low (take 16 ys))) (sym (take_rest xs at)) ∙ none) in
    calm_front xs fits at 16 16 within (omega arith) front (omega (arith, all, length-take-le 16 (drop at xs) (omega (arith, within, length-drop at xs))))

-- The octets before the lowest bit that is set continue the line.
pub calm_to : {xs : List ℕ} {at left to s next : ℕ} → ((k : ℕ) → get_or xs k 0 < 256) → IsUnmarkedTo xs at left → s ≡ count_trailing_zeros 64 left
    → next ≡ left / 2 ^ count_trailing_zeros 64 left → to ≡ at + s → IsUnmarkedTo xs to next
calm_to {xs = xs} {at = at} {left = left} {s = s} fits front is digits there =
    let marks = front.marks in
    let low : s ≡ prefix_len (λ b. not (is_low b)) (take marks.many (drop at xs)) = is ∙ lowest_low (drop at xs) (record { left = left }) marks in
    let few : s ≤ marks.many = omega (arith, is, lowest_few (drop at xs) (record { left = left }) marks) in
    let within : at + s ≤ length xs = omega (arith, few, marks.within, front.within, length-drop at xs) in
    let whole : IsUnmarkedTo xs (at + s) (left / 2 ^ s) = record {
      within = within;
      line = calm_front xs fits at marks.many s within few front.line (omega (arith, low));
      marks = rw drop-drop at (marks_after (drop at xs) (record { left = left }) marks s few);
    } in
    rw (there, digits, ← is) whole

-- The octets before the next lowest bit continue the line, after one octet that does.
pub calm_after : {xs : List ℕ} {at left to s next : ℕ} → ((k : ℕ) → get_or xs k 0 < 256) → IsUnmarkedTo xs at left → left ≢ 1 → is_line_octet (get_or xs at 0)
    ≡ true
    → s ≡ count_trailing_zeros 64 (left / 2 ^ 1) → next ≡ left / 2 ^ 1 / 2 ^ count_trailing_zeros 64 (left / 2 ^ 1) → to ≡ at + (1 + s)
    → IsUnmarkedTo xs to next
calm_after {xs = xs} {at = at} {left = left} fits front more stands is digits there =
    let m : Marks = record { left = left } in
    let some = tells_used (drop at xs) m front.marks 1 (λ none. more (omega (arith, none, some_left (drop at xs) m front.marks))) in
    let within : at < length xs = omega (arith, some, front.marks.within, length-drop at xs) in
    let after : IsUnmarkedTo xs (at + 1) (left / 2 ^ 1) = record {
      within = omega arith;
      line = line_more xs at within front.line stands;
      marks = rw drop-drop at (marks_after (drop at xs) m front.marks 1 some);
    } in
    calm_to fits after is digits (omega arith)

-- The mask of the last sixteen octets, after those before `at`.
pub marks_last : (xs : List ℕ) (at mask : ℕ) → 16 ≤ length xs → at ≤ length xs → length xs ≤ at + 16
    → mask ≡ mask_l (map is_low (take 16 (slice_range xs (length xs - 16) (length xs))))
    → MaskCovers (drop at xs) (record { left = (mask + 65536) / 2 ^ (at - (length xs - 16)) })
marks_last xs at mask room within near is =
    let start = length xs - 16 in
    let s = at - start in
    let e : start + s ≡ at = omega arith in
    let h = marks_block xs start mask (omega arith) is in
    subst (λ (ys : List ℕ). MaskCovers ys (record { left = (mask + 65536) / 2 ^ s })) (drop-drop s start xs ∙ ap (λ n. drop n xs) e)
    (marks_after (drop start xs) (record { left = mask + 65536 }) h s (omega arith))
