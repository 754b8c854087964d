-- Octets are a viable prefix of a story exactly if they are a text so far.
use Rattle.std.proofs.Common.{◌≡◌, ℕ, ◌<◌, ◌≤◌, List, [], ◌∷◌, ◌++◌, map, Some, None, sym, ap, subst, ◌∙◌, arith, append-nil, option_and_then}
use Rattle.std.proofs.lemmas.Option.{same_Some}
use Rattle.wire_story.specs.Laws.{OctetsDetermineTheTextState, TextStatesDetermineLaterOnes}
use Rattle.wire_story.specs.Format.Texts.{IsLine, line_end, IsText, IsTextSoFar, EndsInReturns, HasLines, Octet, End, with_end, StoryLanguage, IsViableStory, EndsViableStory}
use Rattle.iim_dataset.specs.Format.Octets.{IsViablePrefix}
use Rattle.wire_story.proofs.HeldReturns.{held_after, after_octet, held_is, so_far, and_then_is, held_append}
use Rattle.wire_story.proofs.SoFar.{with_end-append, map_snoc, front_of, end_of}

-- ---- Texts and texts so far.

-- A text is a text so far with no pending CR.
pub so_far_of : (x : List ℕ) (lines : List (List ℕ)) → IsText x lines → EndsInReturns x 0
so_far_of x [] h = absurd h
so_far_of x (line ∷ []) h = ([], line, (h.0, omega arith, h.1 ∙ sym (append-nil line)))
so_far_of x (line ∷ next ∷ lines) h =
    let more = so_far_of h.3 (next ∷ lines) h.5 in
    (line ∷ more.0, more.1, (h.0, h.1, h.2, h.3, h.4, more.2))

text_cons : (x first : List ℕ) (k : ℕ) (rest : List ℕ) (lines : List (List ℕ)) → IsLine first → k ≤ 2 → x ≡ first ++ (line_end k ++ rest) → IsText rest lines
    → IsText x (first ∷ lines)
text_cons x first k rest [] p le e h = absurd h
text_cons x first k rest (next ∷ lines) p le e h = (p, k, le, rest, e, h)

-- A text so far with no pending CR is a text.
text_of : (x : List ℕ) (lines : List (List ℕ)) (line : List ℕ) → IsTextSoFar x lines line 0 → HasLines x
text_of x [] line h = (line ∷ [], (h.0, h.2 ∙ append-nil line))
text_of x (first ∷ lines) line h =
    let more = text_of h.3 lines line h.5 in
    (first ∷ more.0, text_cons x first h.1 h.3 more.0 h.0 h.2 h.4 more.1)

pub lines_of : (x : List ℕ) → EndsInReturns x 0 → HasLines x
lines_of x h = text_of x h.0 h.1 h.2

-- ---- Viable prefixes, and the octets that end them.

-- A text so far has k pending CR exactly if reading its octets ends with k.
pub held_of : (x : List ℕ) (k : ℕ) → EndsInReturns x k → held_after 0 x ≡ Some k
held_of x k h = held_is x h.0 h.1 k h.2

pub holds : (x : List ℕ) (k : ℕ) → held_after 0 x ≡ Some k → EndsInReturns x k
holds x k e = so_far 0 x k (omega arith) e

text_to : (x : List ℕ) (lines : List (List ℕ)) → IsText x lines → held_after 0 x ≡ Some 0
text_to x lines h = held_of x 0 (so_far_of x lines h)

-- A viable prefix has some number of pending CR.
pub live_held : (x : List ℕ) → IsViableStory x → (k : ℕ) × (held_after 0 x ≡ Some k)
live_held x h =
    let l = h.1 in
    let f = front_of x l.text h.0 l.tokens_are in
    let p = and_then_is (held_after 0 x) (λ j. held_after j f.0) 0 (sym (held_append 0 x f.0) ∙ ap (held_after 0) (sym f.1) ∙ text_to l.text l.lines l.lined) in
    (p.0, p.1)

-- With an LF a text so far is a text.
pub live_of : (x : List ℕ) (k : ℕ) → EndsInReturns x k → IsViableStory x
live_of x k h =
    let c = lines_of (x ++ 10 ∷ []) (holds (x ++ 10 ∷ []) 0 (held_append 0 x (10 ∷ []) ∙ ap (option_and_then (λ j. held_after j (10 ∷ []))) (held_of x k h))) in
    (with_end (10 ∷ []), record { text = x ++ 10 ∷ []; lines = c.0; lined = c.1; tokens_are = sym (with_end-append x (10 ∷ [])) })

-- With an octet that reading rejects, the octets are no longer a viable prefix.
pub dies : (x : List ℕ) (k b : ℕ) → EndsInReturns x k → after_octet k b ≡ None → EndsViableStory x (Octet b)
dies x k b h none = (
  live_of x k h,
  λ alive.
      let l = live_held (x ++ (b ∷ [])) (subst (IsViablePrefix StoryLanguage) (map_snoc x b) alive) in
      let dead : held_after 0 (x ++ b ∷ []) ≡ None =
      held_append 0 x (b ∷ []) ∙ ap (option_and_then (λ j. held_after j (b ∷ []))) (held_of x k h) ∙ ap (option_and_then (λ j. Some j)) none in
      cc,
)

pub ended_lines : (x : List ℕ) → IsViablePrefix StoryLanguage (map Octet x ++ End ∷ []) → HasLines x
ended_lines x h =
    let l = h.1 in
    let same : l.text ≡ x = end_of x l.text h.0 l.tokens_are in
    (l.lines, subst (λ (t : List ℕ). IsText t l.lines) same l.lined)

pub lines_end : (x : List ℕ) → HasLines x → IsViablePrefix StoryLanguage (map Octet x ++ End ∷ [])
lines_end x h = ([], record { text = x; lines = h.0; lined = h.1; tokens_are = append-nil (with_end x) })

-- With the end, octets with a pending CR are not a story.
pub dies_at_end : (x : List ℕ) (k : ℕ) → EndsInReturns x k → 0 < k → EndsViableStory x End
dies_at_end x k h some = (
  live_of x k h,
  λ alive.
      let t = ended_lines x alive in
      let none : k ≡ 0 = same_Some k 0 (sym (held_of x k h) ∙ text_to x t.0 t.1) in
      omega (arith, some, none),
)

-- ---- The states of a reader.

-- Octets determine the state, and the state determines what they reach with more octets.
pub one_place : OctetsDetermineTheTextState
one_place octets a b s t = s.1 ∙ sym (held_of octets s.0 s.2) ∙ held_of octets t.0 t.2 ∙ sym t.1

pub alike : TextStatesDetermineLaterOnes
alike old new a b x s t u =
    let same : held_after 0 b ≡ held_after 0 a = held_of b t.0 t.2 ∙ sym t.1 ∙ s.1 ∙ sym (held_of a s.0 s.2) in
    (u.0, u.1, holds (b ++ x) u.0 (held_append 0 b x ∙ ap (option_and_then (λ j. held_after j x)) same ∙ sym (held_append 0 a x) ∙ held_of (a ++ x) u.0 u.2))
