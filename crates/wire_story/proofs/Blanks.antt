-- Counting the words that begin in a block, by masks.
use Rattle.std.proofs.Common.{replicate, pow_mono, bit_or, ◌≡◌, ℕ, zero, suc, ◌/◌, drop, ◌+◌, ◌-◌, ◌*◌, ◌^◌, ◌%◌, ◌<◌, ◌≤◌, ◌&&◌, ◌==◌, cond, Bool, true, false, not, List, [], ◌∷◌, ◌++◌, length, map, take, get_or, length-drop, refl, sym, ap, ◌∙◌, arith, bit_and}
use Rattle.std.specs.List.{slice_range}
use Rattle.std.specs.Simd.Lanes.{mask_l}
use lib.Lanes.{top, zip2}
use Rattle.std.specs.Int.Bits.{and_zero_l}
use Rattle.std.specs.Int.RustNames.{count_ones}
use Rattle.std.proofs.Math.Nat.{two-pow-succ}
use Rattle.std.proofs.Math.Seq.{take-add}
use Rattle.std.proofs.lemmas.Nat.{and_block}
use Rattle.std.proofs.lemmas.Simd.{zip2_of_maps, zip2_splat, map-map, mask_l-mod, mask_l-lt, ones-mask_l_cons}
use Rattle.std.proofs.lemmas.Bool.Decides.{nat_tests}
use Rattle.std.proofs.lemmas.List.{drop_more, drop_all, drop-drop, take_rest, take-append-drop, length-map, length-append, length-replicate, take_all, length-take-le, map-append}
use Rattle.wire_story.specs.Format.Texts.{LineOctet, WordsSoFar, CountsWords, capped, is_word_octet, is_blank, words_begun, words_begun_with, inside_after}
use Rattle.wire_story.specs.Steps.{told-append, outside_after}
use Rattle.wire_story.proofs.{Words.told_last, Marked.mask_drop, Marked.mask_join}

-- which octets begin a word
abbrev begins : Bool → List ℕ → List Bool
begins inside [] = []
begins inside (b ∷ xs) = (is_word_octet b && not inside) ∷ begins (is_word_octet b) xs

ones_begun : (inside : Bool) (xs : List ℕ) → count_ones (mask_l (begins inside xs)) ≡ words_begun inside xs
unfolding count_ones
ones_begun inside [] = refl
ones_begun inside (b ∷ xs) = ones-mask_l_cons (is_word_octet b && not inside) (begins (is_word_octet b) xs)
    ∙ ap (λ n. words_begun_with inside b + n) (ones_begun (is_word_octet b) xs)

lowest_bits : (t inside : Bool) → bit_and (cond t 1 0) (cond inside 0 1) ≡ cond (t && not inside) 1 0
lowest_bits true true = refl
lowest_bits true false = refl
lowest_bits false true = refl
lowest_bits false false = refl

first_bit : (t inside : Bool) (w k m : ℕ) → bit_and w (k * 2 + cond t 0 1) ≡ m
    → bit_and (cond t 1 0 + 2 * w) ((cond (not t) 1 0 + 2 * k) * 2 + cond inside 0 1) ≡ cond (t && not inside) 1 0 + 2 * m
first_bit t inside w k m e =
    let low : cond t 1 0 + 2 * w ≡ w * 2 ^ 1 + cond t 1 0 = omega arith in
    let high : (cond (not t) 1 0 + 2 * k) * 2 + cond inside 0 1 ≡ (k * 2 + cond t 0 1) * 2 ^ 1 + cond inside 0 1 = grind arith in
    let joined = and_block 1 w (k * 2 + cond t 0 1) (cond t 1 0) (cond inside 0 1) (grind arith) (grind arith) in
    rw (low, high) (omega (arith, joined, lowest_bits t inside, e))

bits_begun : (inside : Bool) (xs : List ℕ)
    → bit_and (mask_l (map is_word_octet xs)) (mask_l (map is_blank xs) * 2 + cond inside 0 1) ≡ mask_l (begins inside xs)
bits_begun inside [] = and_zero_l (cond inside 0 1)
bits_begun inside (b ∷ xs) = first_bit (is_word_octet b) inside (mask_l (map is_word_octet xs)) (mask_l (map is_blank xs))
    (mask_l (begins (is_word_octet b) xs)) (bits_begun (is_word_octet b) xs)

both_bits : (t : Bool) (w k p : ℕ) → w + k + 1 ≡ p → (cond t 1 0 + 2 * w) + (cond (not t) 1 0 + 2 * k) + 1 ≡ 2 * p
both_bits t w k p e = grind arith

-- Each octet belongs to a word or is a blank.
whole_mask : (xs : List ℕ) → mask_l (map is_word_octet xs) + mask_l (map is_blank xs) + 1 ≡ 2 ^ length xs
whole_mask [] = refl
whole_mask (b ∷ xs) =
    omega (
      arith,
      both_bits (is_word_octet b) (mask_l (map is_word_octet xs)) (mask_l (map is_blank xs)) (2 ^ length xs) (whole_mask xs),
      two-pow-succ (length xs),
    )

-- ---- Octets after others.

begun_one : (inside : Bool) (b : ℕ) → words_begun_with inside b ≤ 1
begun_one inside b = grind arith

pub begun_few : (inside : Bool) (xs : List ℕ) → words_begun inside xs ≤ length xs
begun_few inside [] = omega arith
begun_few inside (b ∷ xs) = omega (arith, begun_one inside b, begun_few (is_word_octet b) xs)

begun_append : (inside : Bool) (xs ys : List ℕ)
    → words_begun inside (xs ++ ys) ≡ words_begun inside xs + words_begun (inside_after inside (map LineOctet xs)) ys
begun_append inside [] ys = omega arith
begun_append inside (b ∷ xs) ys = omega (arith, begun_append (is_word_octet b) xs ys)

pub outside_few : (inside : Bool) (xs : List ℕ) → outside_after inside xs ≤ 1
outside_few inside xs = grind arith

of_outside : (t : Bool) (n : ℕ) → n ≡ cond t 0 1 → (n == 0) ≡ t
of_outside t n e = grind (arith, nat_tests)

-- The words of octets joined, by the words of each.
begun_joined : (inside : Bool) (xs ys : List ℕ) → (words_begun inside (xs ++ ys) ≡ words_begun inside xs + words_begun (outside_after inside xs == 0) ys)
    × (outside_after inside (xs ++ ys) ≡ outside_after (outside_after inside xs == 0) ys)
begun_joined inside xs ys =
    let same : (outside_after inside xs == 0) ≡ inside_after inside (map LineOctet xs) = of_outside (inside_after inside (map LineOctet xs))
    (outside_after inside xs) refl in
    let ends = (told-append inside (map LineOctet xs) (map LineOctet ys)).1 in
    rw same (begun_append inside xs ys, ap (λ t. cond t 0 1) (ap (inside_after inside) (map-append LineOctet xs ys) ∙ ends))

-- The octets so far and the next block.
pub next_begun : (inside : Bool) (run : List ℕ) (at : ℕ)
    → (words_begun inside (take (at + 32) run) ≡ words_begun inside (take at run) + words_begun (outside_after inside (take at run) == 0)
    (slice_range run at (at + 32)))
    × (outside_after inside (take (at + 32) run) ≡ outside_after (outside_after inside (take at run) == 0) (slice_range run at (at + 32)))
next_begun inside run at =
    let n : at + 32 - at ≡ 32 = omega arith in
    rw (take-add at 32 run, n) (begun_joined inside (take at run) (take 32 (drop at run)))

-- The octets so far and all others.
pub rest_begun : (inside : Bool) (run : List ℕ) (at : ℕ)
    → (words_begun inside (take at run) + words_begun (outside_after inside (take at run) == 0) (slice_range run at (length run)) ≡ words_begun inside run)
    × (outside_after (outside_after inside (take at run) == 0) (slice_range run at (length run)) ≡ outside_after inside run)
rest_begun inside run at =
    let all : take at run ++ slice_range run at (length run) ≡ run = ap (λ (zs : List ℕ). take at run ++ zs) (take_rest run at) ∙ take-append-drop at run in
    let joined = begun_joined inside (take at run) (slice_range run at (length run)) in
    (sym joined.0 ∙ ap (words_begun inside) all, sym joined.1 ∙ ap (outside_after inside) all)

-- The counter of words after the octets.
pub outside_count : (old : WordsSoFar) (xs : List ℕ) (begun after words : ℕ) → begun ≡ words_begun old.inside xs → after ≡ outside_after old.inside xs
    → words ≡ capped (old.words + begun)
    → CountsWords old (map LineOctet xs) (record { words = words; inside = after == 0 })
outside_count old xs begun after words are ends is = record {
  words = λ few. is ∙ ap (λ n. capped (old.words + n)) (are ∙ sym (told_last old.inside xs));
  inside = of_outside (inside_after old.inside (map LineOctet xs)) after ends;
}

-- ---- The mask of SP and TAB of a block.

abbrev lane : ℕ → ℕ
lane b = bit_or (cond (b == 32) 255 0) (cond (b == 9) 255 0)

-- The top bit of a lane.
lane_blank : (b : ℕ) → top 7 (lane b) ≡ is_blank b
lane_blank b = grind (arith, nat_tests)

pub blank_lanes : (xs : List ℕ) (n : ℕ) → length xs ≡ n → n ≤ 64
    → mask_l (map (top 7) (zip2 bit_or (zip2 (λ a b. cond (a == b) 255 0) xs (replicate n 32)) (zip2 (λ a b. cond (a == b) 255 0) xs (replicate n 9)))) % 2 ^
    64 ≡ mask_l (map is_blank xs)
blank_lanes xs n long few =
    let lanes = zip2_of_maps bit_or (λ b. cond (b == 32) 255 0) (λ b. cond (b == 9) 255 0) xs (zip2_splat (λ (a b : ℕ). cond (a == b) 255 0) xs n 32 long)
    (zip2_splat (λ (a b : ℕ). cond (a == b) 255 0) xs n 9 long) in
    ap (λ (l : List ℕ). mask_l (map (top 7) l) % 2 ^ 64) lanes
    ∙ (ap (λ l. mask_l l % 2 ^ 64) (map-map (top 7) lane xs ∙ λ i. map (λ b. lane_blank b i) xs)
    ∙ mask_l-mod (map is_blank xs) 64 (omega (arith, length-map xs is_blank, long, few)))

-- ---- The masks of the first octets and of the last.

last_block : (xs : List ℕ) (n : ℕ) → n ≤ length xs → take n (slice_range xs (length xs - n) (length xs)) ≡ drop (length xs - n) xs
last_block xs n some = ap (take n) (take_rest xs (length xs - n)) ∙ take_all n (drop (length xs - n) xs) (omega (arith, length-drop (length xs - n) xs))

-- The mask of the first n octets and that of the last n, which may overlap them, are the mask of
-- all.
pub mask_overlap : (p : ℕ → Bool) (n : ℕ) (xs : List ℕ) → n ≤ length xs → length xs ≤ n + n → (first last : ℕ) → first ≡ mask_l (map p (take n xs))
    → last ≡ mask_l (map p (take n (slice_range xs (length xs - n) (length xs)))) → first + last / 2 ^ (n + n - length xs) * 2 ^ n ≡ mask_l (map p xs)
mask_overlap p n xs some few first last is ends =
    let start = length xs - n in
    let over = n + n - length xs in
    let both : start + over ≡ n = omega (arith, some, few) in
    let rest : drop over (drop start xs) ≡ drop n xs = drop-drop over start xs ∙ ap (λ k. drop k xs) both in
    let high : last / 2 ^ over ≡ mask_l (map p (drop n xs)) =
    ap (λ k. k / 2 ^ over) (ends ∙ ap (λ (zs : List ℕ). mask_l (map p zs)) (last_block xs n some))
    ∙ mask_drop p over (drop start xs) (omega (arith, length-drop start xs, some, few)) ∙ ap (λ (zs : List ℕ). mask_l (map p zs)) rest in
    let all : mask_l (map p xs) ≡ mask_l (map p (take n xs)) + mask_l (map p (drop n xs)) * 2 ^ length (take n xs) =
    ap (λ (zs : List ℕ). mask_l (map p zs)) (sym (take-append-drop n xs)) ∙ mask_join p (take n xs) (drop n xs) in
    rw (high, all, length-take-le n xs some, is) refl

-- The last octet determines whether the octets end inside a word.
outside_last : (inside : Bool) (xs : List ℕ) (b : ℕ) → outside_after inside (xs ++ b ∷ []) ≡ mask_l (map is_blank (b ∷ []))
outside_last inside [] b = grind arith
outside_last inside (x ∷ xs) b = outside_last (is_word_octet x) xs b

-- The highest bit of the mask of the last octets determines whether they end inside a word.
pub top_outside : (inside : Bool) (m : ℕ) (xs : List ℕ) → m + 1 ≤ length xs → (last : ℕ)
    → last ≡ mask_l (map is_blank (take (m + 1) (slice_range xs (length xs - (m + 1)) (length xs)))) → last / 2 ^ m ≡ outside_after inside xs
top_outside inside m xs some last ends =
    let start = length xs - (m + 1) in
    let n = length xs - 1 in
    let there : start + m ≡ n = omega (arith, some) in
    let one : drop n xs ≡ get_or xs n 0 ∷ [] = drop_more xs n 0 (omega arith) ∙ ap (λ (zs : List ℕ). get_or xs n 0 ∷ zs) (drop_all (n + 1) xs (omega arith)) in
    ap (λ k. k / 2 ^ m) (ends ∙ ap (λ (zs : List ℕ). mask_l (map is_blank zs)) (last_block xs (m + 1) some))
    ∙ mask_drop is_blank m (drop start xs) (omega (arith, length-drop start xs, some))
    ∙ ap (λ (zs : List ℕ). mask_l (map is_blank zs)) (drop-drop m start xs ∙ ap (λ k. drop k xs) there ∙ one)
    ∙ sym (outside_last inside (take n xs) (get_or xs n 0))
    ∙ ap (outside_after inside) (ap (λ (zs : List ℕ). take n xs ++ zs) (sym one) ∙ take-append-drop n xs)

-- ---- The words that begin in fewer than 64 octets.

-- octets of one word
abbrev more_word : ℕ → List ℕ
more_word k = replicate k 65

no_blanks : (k : ℕ) → mask_l (map is_blank (more_word k)) ≡ 0
no_blanks zero = refl
no_blanks (suc k) = omega (arith, no_blanks k)

none_begins : (k : ℕ) → words_begun true (more_word k) ≡ 0
none_begins zero = refl
none_begins (suc k) = omega (arith, none_begins k)

one_begins : (t : Bool) (k : ℕ) → words_begun t (more_word (suc k)) ≡ cond t 0 1
one_begins t k = grind (arith, none_begins k)

-- The 64 bits count one word more if the last octet is a blank.
begun_short : (inside : Bool) (xs : List ℕ) → length xs < 64
    → count_ones (bit_and (18446744073709551615 - mask_l (map is_blank xs)) (mask_l (map is_blank xs) * 2 + cond inside 0 1)) ≡ words_begun inside xs
    + outside_after inside xs
begun_short inside xs few =
    let k = 63 - length xs in
    let zs : List ℕ = xs ++ more_word (suc k) in
    let same : mask_l (map is_blank zs) ≡ mask_l (map is_blank xs) =
    mask_join is_blank xs (more_word (suc k)) ∙ (ap (λ n. mask_l (map is_blank xs) + n * 2 ^ length xs) (no_blanks (suc k)) ∙ omega arith) in
    let long : length zs ≡ 64 = omega (arith, length-append xs (more_word (suc k)), length-replicate {A = ℕ} (suc k) 65, few) in
    let of_words : 18446744073709551615 - mask_l (map is_blank xs) ≡ mask_l (map is_word_octet zs) = omega (arith, same, whole_mask zs, ap (λ n. 2 ^ n) long) in
    ap (λ n. count_ones (bit_and n (mask_l (map is_blank xs) * 2 + cond inside 0 1))) of_words
    ∙ ap (λ n. count_ones (bit_and (mask_l (map is_word_octet zs)) (n * 2 + cond inside 0 1))) (sym same)
    ∙ ap count_ones (bits_begun inside zs) ∙ ones_begun inside zs
    ∙ begun_append inside xs (more_word (suc k)) ∙ ap (λ n. words_begun inside xs + n) (one_begins (inside_after inside (map LineOctet xs)) k)

one_bit : (n : ℕ) → n ≤ 1 → n ≡ cond (n == 0) 0 1
one_bit n le = grind (arith, nat_tests)

-- The 64 bits count one word more if a number states that the octets do not end inside a word.
pub begun_by_mask : (before : ℕ) (xs : List ℕ) → before ≤ 1 → length xs < 64
    → outside_after (before == 0) xs + words_begun (before == 0) xs ≡ count_ones
    (bit_and (18446744073709551615 - mask_l (map is_blank xs)) (mask_l (map is_blank xs) * 2 + before))
begun_by_mask before xs one short =
    let counted = begun_short (before == 0) xs short in
    let same = ap (λ n. count_ones (bit_and (18446744073709551615 - mask_l (map is_blank xs)) (mask_l (map is_blank xs) * 2 + n))) (one_bit before one) in
    omega (arith, counted, same)

pub blanks_small : (xs : List ℕ) → length xs < 64 → mask_l (map is_blank xs) < 2 ^ 63
blanks_small xs few =
    let short : length xs ≤ 63 = omega (arith, few) in
    let long : length (map is_blank xs) ≡ length xs = length-map xs is_blank in
    omega (arith, mask_l-lt (map is_blank xs), ap (λ n. 2 ^ n) long, pow_mono short)

-- The first sixteen octets and the last sixteen.
pub few_overlap : (xs : List ℕ) (first last : ℕ) → 16 ≤ length xs → length xs ≤ 32 → first ≡ mask_l (map is_blank (take 16 xs))
    → last ≡ mask_l (map is_blank (take 16 (slice_range xs (length xs - 16) (length xs))))
    → first + last / 2 ^ (32 - length xs) * 65536 ≡ mask_l (map is_blank xs)
few_overlap xs first last some few is ends = mask_overlap is_blank 16 xs some few first last is ends

pub few_outside : (inside : Bool) (xs : List ℕ) → 16 ≤ length xs
    → mask_l (map is_blank (take 16 (slice_range xs (length xs - 16) (length xs)))) / 32768 ≡ outside_after inside xs
few_outside inside xs some = top_outside inside 15 xs some _ refl

-- The first thirty-two octets and the last thirty-two.
pub more_overlap : (xs : List ℕ) (first last : ℕ) → 32 ≤ length xs → length xs ≤ 64 → first ≡ mask_l (map is_blank (take 32 xs))
    → last ≡ mask_l (map is_blank (take 32 (slice_range xs (length xs - 32) (length xs))))
    → first + last / 2 ^ (64 - length xs) * 4294967296 ≡ mask_l (map is_blank xs)
more_overlap xs first last some few is ends = mask_overlap is_blank 32 xs some few first last is ends

pub more_outside : (inside : Bool) (xs : List ℕ) → 32 ≤ length xs
    → mask_l (map is_blank (take 32 (slice_range xs (length xs - 32) (length xs)))) / 2147483648 ≡ outside_after inside xs
more_outside inside xs some = top_outside inside 31 xs some _ refl
