-- Stories whose lines end in LF alone.
use Rattle.iim_script.proofs.Words.{◌≡◌, inl, inr, ℕ, zero, suc, ◌+◌, ◌*◌, ◌<◌, ◌==◌, Bool, true, false, cond, List, [], ◌∷◌, ◌++◌, append_assoc, length, take, drop, map, count_by, get_or, refl, ap, sym, ◌∙◌, subst, arith, IsTrue, list_all, AllByRecursion, and_parts, and_from, nat_tests, take-append-drop, is_line_octet, IsLine, IsText, Lacks, NextLine, NextLines, WithoutLast, IsStory, IsPackedTextOf}
use Rattle.std.proofs.Common.{take-add}
use Rattle.std.specs.List.{onto_first, join_with_byte}
use Rattle.std.specs.Simd.Lanes.{mask_l}
use Rattle.std.proofs.lemmas.Bool.{cases_Bool}
use Rattle.std.proofs.lemmas.List.{drop-drop}
use Rattle.std.proofs.lemmas.List.Sums.{sum_by-take-drop}
use Rattle.std.proofs.lemmas.List.Folds.{list_all-append}
use Rattle.std.proofs.lemmas.List.Splits.{slice_split-cons_yes, slice_split-cons_no, join_with_byte-slice_split}
use Rattle.wire_story.specs.Steps.{lines_in, is_low}
use Rattle.wire_story.proofs.Collected.{some_line, packed_len}
use Rattle.iim_script.specs.{Format.Scripts.PrintsStory, Steps.is_plain}
use Rattle.iim_script.proofs.{Cuts.lacks, Cuts.ended, Next.no_feed}

-- ---- octets

bits : (a b : Bool) (m n : ℕ) → cond a 1 0 + 2 * m ≡ cond b 1 0 + 2 * n → (a ≡ b) × (m ≡ n)
bits a b m n e = grind arith

allowed_octet : (b : ℕ) → b < 256 → is_low b ≡ (b == 10) → is_plain b ≡ true
allowed_octet b fits e = grind (arith, nat_tests)

-- if exactly the LF are low, all octets are allowed
pub allowed_prefix : (n : ℕ) (xs : List ℕ) → ((k : ℕ) → get_or xs k 0 < 256) → mask_l (map is_low (take n xs)) ≡ mask_l (map (λ b. b == 10) (take n xs))
    → IsTrue (list_all is_plain (take n xs))
allowed_prefix zero xs fits e = refl
allowed_prefix (suc n) [] fits e = refl
allowed_prefix (suc n) (x ∷ xs) fits e =
    let h = bits (is_low x) (x == 10) (mask_l (map is_low (take n xs))) (mask_l (map (λ b. b == 10) (take n xs))) e in
    and_from (is_plain x) (list_all is_plain (take n xs)) (allowed_octet x (fits 0) h.0) (allowed_prefix n xs (λ k. fits (suc k)) h.1)

-- ---- lines

line_octet : (b : ℕ) → is_plain b ≡ true → (b == 10) ≡ false → is_line_octet b ≡ true
line_octet b h e = grind (arith, nat_tests)

-- each of the lines is allowed in a text
abbrev Each : List (List ℕ) → Type 0
Each = AllByRecursion IsLine

first_each : (x : ℕ) (lines : List (List ℕ)) → 0 < length lines → is_line_octet x ≡ true → Each lines → Each (onto_first x lines)
first_each x [] some is h = absurd (omega (arith, some))
first_each x (line ∷ lines) some is h = (and_from (is_line_octet x) (list_all is_line_octet line) is h.0, h.1)

lines_each : (xs : List ℕ) → IsTrue (list_all is_plain xs) → Each (lines_in xs)
lines_each [] h = (refl, tt)
lines_each (x ∷ xs) h =
    let parts = and_parts (is_plain x) (list_all is_plain xs) h in
    elim (cases_Bool (x == 10)) [
      | inl e ↦ subst Each (sym (slice_split-cons_yes (λ b. b == 10) x xs e)) (refl, lines_each xs parts.1)
      | inr e ↦ subst Each (sym (slice_split-cons_no (λ b. b == 10) x xs e))
          (first_each x (lines_in xs) (some_line xs) (line_octet x parts.0 e) (lines_each xs parts.1))
    ]

-- ---- their text

joined_text : (lines : List (List ℕ)) → 0 < length lines → Each lines → IsText (join_with_byte 10 lines) lines
joined_text [] some h = absurd (omega (arith, some))
joined_text (line ∷ []) some h = (h.0, refl)
joined_text (line ∷ next ∷ lines) some h =
    (h.0, 0, omega arith, join_with_byte 10 (next ∷ lines), refl, joined_text (next ∷ lines) (omega arith) h.1)

-- ---- their story

ends_line : (line after : List ℕ) → IsLine line → NextLine (line ++ 10 ∷ after) line after
ends_line line after is = ended (line ++ 10 ∷ after) line after refl (no_feed line is) (lacks is_line_octet 13 line refl is)

-- The last of the lines has no end.
record Open (lines : List (List ℕ)) (text : List ℕ) : Type 0 where
  before : List (List ℕ)
  last : List ℕ
  lines_are : lines ≡ before ++ last ∷ []
  lined : NextLines text before last
  none : Lacks 10 last

last_open : (lines : List (List ℕ)) → 0 < length lines → Each lines → Open lines (join_with_byte 10 lines)
last_open [] some h = absurd (omega (arith, some))
last_open (line ∷ []) some h = record { before = []; last = line; lines_are = refl; lined = refl; none = no_feed line h.0 }
last_open (line ∷ next ∷ lines) some h =
    let o = last_open (next ∷ lines) (omega arith) h.1 in
    let rest : List ℕ = join_with_byte 10 (next ∷ lines) in
    let lines_are = ap (λ (ls : List (List ℕ)). line ∷ ls) o.lines_are in
    record { before = line ∷ o.before; last = o.last; lines_are = lines_are; lined = (rest, ends_line line rest h.0, o.lined); none = o.none }

-- Each line has its end.
all_ended : (lines : List (List ℕ)) → 0 < length lines → Each lines → NextLines (join_with_byte 10 lines ++ 10 ∷ []) lines []
all_ended [] some h = absurd (omega (arith, some))
all_ended (line ∷ []) some h = ([], ends_line line [] h.0, refl)
all_ended (line ∷ next ∷ lines) some h =
    let rest : List ℕ = join_with_byte 10 (next ∷ lines) in
    (rest ++ 10 ∷ [], rw (append_assoc line (10 ∷ rest) (10 ∷ [])) (ends_line line (rest ++ 10 ∷ []) h.0), all_ended (next ∷ lines) (omega arith) h.1)

-- lines that all have their ends have an LF at the end
feed_at_last : (line : List ℕ) (lines : List (List ℕ)) (octets rest : List ℕ) → NextLines octets (line ∷ lines) rest
    → (front : List ℕ) × (octets ≡ front ++ 10 ∷ rest)
feed_at_last line [] octets rest (after, n, e) = (n.ended, rw e at n.parts)
feed_at_last line (next ∷ lines) octets rest (after, n, more) =
    let (front, e) = feed_at_last next lines after rest more in
    (n.ended ++ 10 ∷ front, n.parts ∙ (ap (λ (l : List ℕ). n.ended ++ 10 ∷ l) e ∙ sym (append_assoc n.ended (10 ∷ front) (10 ∷ rest))))

is_only_line : (before : List (List ℕ)) (last text : List ℕ) → NextLines text before last
    → ((front : List ℕ) → text ≡ front ++ 10 ∷ [] → ⊥) → last ≡ [] → before ≡ []
is_only_line [] last text lined not empty = refl
is_only_line (line ∷ lines) last text lined not empty = let (front, e) = feed_at_last line lines text last lined in
    absurd (not front (e ∙ ap (λ (l : List ℕ). front ++ 10 ∷ l) empty))

-- ---- the complete story

-- What is printed of a story is a story.
pub story_printed : (story : List ℕ) (lines : List (List ℕ)) → 0 < length lines → Each lines → PrintsStory story lines → IsStory story lines
story_printed story lines some each (inl is) = (some, inl (rw is (all_ended lines some each)))
story_printed story lines some each (inr (is, alone)) =
    let o = last_open lines some each in
    let alone_empty = λ (empty : o.last ≡ []). alone o.before (rw empty at o.lines_are) in
    (some, inr (o.before, o.last, o.lines_are, rw is o.lined, o.none, alone_empty))

story_is : (story text : List ℕ) (lines : List (List ℕ)) → 0 < length lines → Each lines → text ≡ join_with_byte 10 lines
    → WithoutLast 10 story text → IsStory story lines
story_is story text lines some each is (inl e) = story_printed story lines some each (inl (rw is at e))
story_is story text lines some each is (inr (e, not)) =
    let o = last_open lines some each in
    let lined : NextLines story o.before o.last = rw (e ∙ is) o.lined in
    (some, inr (o.before, o.last, o.lines_are, lined, o.none, is_only_line o.before o.last story lined not))

pub tells_plain : (story text : List ℕ) (feeds len : ℕ) → WithoutLast 10 story text → IsTrue (list_all is_plain text)
    → feeds ≡ count_by (λ b. b == 10) text → len ≡ length text + feeds
    → IsPackedTextOf story text len
tells_plain story text feeds len cut plain counted e =
    let lines = lines_in text in
    let each = lines_each text plain in
    let is : text ≡ join_with_byte 10 lines = sym (join_with_byte-slice_split 10 text) in
    record {
      lines = lines;
      is_story = story_is story text lines (some_line text) each is cut;
      texts = each;
      is_text = subst (λ (l : List ℕ). IsText l lines) (sym is) (joined_text lines (some_line text) each);
      len_is = omega (arith, e, counted, packed_len text);
    }

-- ---- octets block by block

pub allowed_more : (xs : List ℕ) (at n : ℕ) → IsTrue (list_all is_plain (take at xs)) → IsTrue (list_all is_plain (take n (drop at xs)))
    → IsTrue (list_all is_plain (take (at + n) xs))
allowed_more xs at n h more = rw (take-add, list_all-append, h, more) refl

pub allowed_all : (xs : List ℕ) (at : ℕ) → IsTrue (list_all is_plain (take at xs)) → IsTrue (list_all is_plain (drop at xs)) → IsTrue (list_all is_plain xs)
allowed_all xs at h rest = let whole = list_all-append is_plain (take at xs) (drop at xs) in rw (take-append-drop, h, rest) at whole

-- the next octets after those before them, and the rest
pub count_next : (p : ℕ → Bool) (xs : List ℕ) (at n : ℕ) → count_by p (take n (drop at xs)) + count_by p (drop (at + n) xs) ≡ count_by p (drop at xs)
count_next p xs at n =
    ap (λ (ys : List ℕ). count_by p (take n (drop at xs)) + count_by p ys) (sym (drop-drop n at xs)) ∙ sum_by-take-drop (λ x. cond (p x) 1 0) (drop at xs) n
