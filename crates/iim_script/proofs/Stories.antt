-- The lines of a story, one after another.
use Rattle.iim_script.proofs.Words.{◌≡◌, ◌⊎◌, inl, inr, ℕ, ◌+◌, ◌<◌, List, [], ◌∷◌, ◌++◌, append_assoc, length, length-append, take, refl, ap, sym, ◌∙◌, subst, arith, Option, Some, None, IfSome, IfNone, Bor, AllByRecursion, all_append, IsLine, IsText, Lacks, NextLine, NextLines, WithoutLast, IsStory, IsPackedTextOf}
use Rattle.std.proofs.Common.{append-nil}
use Rattle.std.proofs.Math.Seq.{take-append_seam}
use Rattle.iim_dataset.proofs.Lists.{some_none}
use Rattle.wire_story.specs.Format.Texts.{packed_text}
use Rattle.iim_script.specs.Format.Causes.{IsBadStory}
use Rattle.iim_script.proofs.Next.{lines_more, count_more}

-- The line is the last of a story: with its end, or without one.
abbrev pub IsLastLine : List ℕ → List ℕ → Type 0
IsLastLine rest line = NextLine rest line [] ⊎ (Lacks 10 rest × (line ≡ rest))

-- The lines of a story so far, and the rest of it: what makes a text of the rest makes a text of
-- the whole, and adds this many octets to its packed size.
pub record StoryStands (story : List ℕ) (before : ℕ) (rest : List ℕ) (count len : ℕ) : Type 0 where
  pub done : List (List ℕ)
  pub front : List ℕ
  pub lined : NextLines story done rest
  pub parts : story ≡ front ++ rest
  pub texts : AllByRecursion IsLine done
  pub count_is : count ≡ before + length done
  pub more : rest ≡ [] → done ≡ []
  pub text : (left : List ℕ) (lines : List (List ℕ)) → IsText left lines → IsText (front ++ left) (done ++ lines)
  pub len_is : (lines : List (List ℕ)) → 0 < length lines → length (packed_text (done ++ lines)) ≡ len + length (packed_text lines)

pub story_begins : (story : List ℕ) (before : ℕ) → StoryStands story before story before 0
story_begins story before = record {
  done = [];
  front = [];
  lined = refl;
  parts = refl;
  texts = tt;
  count_is = omega arith;
  more = λ empty. refl;
  text = λ left lines h. h;
  len_is = λ lines some. omega arith;
}

-- a line with its end precedes a text
text_more : (line ended left : List ℕ) (lines : List (List ℕ)) → IsLine line → WithoutLast 13 ended line → IsText left lines
    → IsText (ended ++ 10 ∷ left) (line ∷ lines)
text_more line ended left [] is ends h = absurd h
text_more line ended left (next ∷ lines) is (inl e) h =
    (is, 1, omega arith, left, ap (λ (l : List ℕ). l ++ 10 ∷ left) e ∙ append_assoc line (13 ∷ []) (10 ∷ left), h)
text_more line ended left (next ∷ lines) is (inr e) h = (is, 0, omega arith, left, ap (λ (l : List ℕ). l ++ 10 ∷ left) e.0, h)

len_more : (line : List ℕ) (lines : List (List ℕ)) → 0 < length lines → length (packed_text (line ∷ lines)) ≡ length line + 2 + length (packed_text lines)
len_more line [] some = absurd (omega (arith, some))
len_more line (next ∷ lines) some = omega (arith, length-append line (13 ∷ 10 ∷ packed_text (next ∷ lines)))

pub story_step : {story rest line after : List ℕ} {before count next len longer : ℕ} → StoryStands story before rest count len → NextLine rest line after
    → 0 < length after → IsLine line → next ≡ count + 1 → longer ≡ len + (length line + 2)
    → StoryStands story before after next longer
story_step {story = story} {line = line} {after = after} s n some is e f = record {
  done = s.done ++ line ∷ [];
  front = s.front ++ (n.ended ++ 10 ∷ []);
  lined = lines_more story s.done s.lined n;
  parts = rw (s.parts, n.parts) (simp append_assoc);
  texts = all_append IsLine s.done (line ∷ []) s.texts (is, tt);
  count_is = omega (arith, e, s.count_is, count_more s.done line);
  more = λ none. absurd (some_none after some none);
  text = λ left lines h. rw (append_assoc s.done (line ∷ []) lines, append_assoc s.front (n.ended ++ 10 ∷ []) left, append_assoc n.ended (10 ∷ []) left)
      (s.text (n.ended ++ 10 ∷ left) (line ∷ lines) (text_more line n.ended left lines is n.is_line h));
  len_is = λ lines some. rw (append_assoc s.done (line ∷ []) lines) (omega (arith, f, s.len_is (line ∷ lines) (omega arith), len_more line lines some));
}

is_whole : (story rest line : List ℕ) (before count len : ℕ) (s : StoryStands story before rest count len) → IsLastLine rest line
    → IsStory story (s.done ++ line ∷ [])
is_whole story rest line before count len s (inl n) =
    (omega (arith, count_more s.done line), inl (lines_more story s.done s.lined n))
is_whole story rest line before count len s (inr (none, is)) =
    (omega (arith, count_more s.done line), inr (s.done, line, refl, rw is s.lined, rw is none, λ empty. s.more (sym is ∙ empty)))

-- the last line is the beginning of the rest
last_begins : (rest line : List ℕ) → IsLastLine rest line → (end : List ℕ) × (rest ≡ line ++ end)
last_begins rest line (inl n) =
    elim n.is_line [ inl e ↦ (13 ∷ 10 ∷ [], rw (n.parts, e) (simp append_assoc)) | inr e ↦ (10 ∷ [], rw (n.parts, e.0) refl) ]
last_begins rest line (inr (none, is)) = ([], rw is (sym (append-nil rest)))

take_parts : (front line end : List ℕ) (n : ℕ) → n ≡ length front + length line → take n (front ++ (line ++ end)) ≡ front ++ line
take_parts front line end n e = rw (e, ← length-append front line, ← append_assoc front line end) (take-append_seam (front ++ line) end)

pub story_ends : {story rest line text : List ℕ} {before count len whole : ℕ} (at : ℕ) → StoryStands story before rest count len → IsLastLine rest line
    → IsLine line → text ≡ take at story → at + length rest ≡ length story + length line → whole ≡ len + length line → IsPackedTextOf story text whole
story_ends {story} {rest} {line} {text} {before} {count} {len} {whole} at s last is cut place f =
    let b = last_begins rest line last in
    let begins : story ≡ s.front ++ (line ++ b.0) = s.parts ∙ ap (λ (l : List ℕ). s.front ++ l) b.1 in
    let at_is : at ≡ length s.front + length line = omega (arith, place, ap length s.parts, length-append s.front rest) in
    let text_is : text ≡ s.front ++ line = cut ∙ (ap (take at) begins ∙ take_parts s.front line b.0 at at_is) in
    record {
      lines = s.done ++ line ∷ [];
      is_story = is_whole story rest line before count len s last;
      texts = all_append IsLine s.done (line ∷ []) s.texts (is, tt);
      is_text = subst (λ (l : List ℕ). IsText l (s.done ++ line ∷ [])) (sym text_is) (s.text line (line ∷ []) (is, refl));
      len_is = f ∙ sym (s.len_is (line ∷ []) (omega arith));
    }

next_or_last : (rest line : List ℕ) (after : Option (Bor (List ℕ))) → IfSome after (λ r. NextLine rest line r.now) → IfNone after (IsLastLine rest line)
    → ((after : List ℕ) × NextLine rest line after) ⊎ (Lacks 10 rest × (line ≡ rest))
next_or_last rest line (Some after) h k = inl (after.now, h)
next_or_last rest line None h (inl n) = inl ([], n)
next_or_last rest line None h (inr last) = inr last

pub story_refused : {story rest : List ℕ} (line : List ℕ) (after : Option (Bor (List ℕ))) {before count number len : ℕ}
    → StoryStands story before rest count len → IfSome after (λ r. NextLine rest line r.now) → IfNone after (IsLastLine rest line) → (IsLine line → ⊥)
    → number ≡ count + 1 → IsBadStory story before number
story_refused {rest = rest} line after s h k bad e = record {
  before = s.done;
  rest = rest;
  line = line;
  lined = s.lined;
  is_there = next_or_last rest line after h k;
  texts = s.texts;
  bad = bad;
  number_is = omega (arith, e, s.count_is);
}
