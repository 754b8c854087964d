-- Octets that match a state are a viable prefix of a message, and with an octet after which there
-- is no state they are not.
use Rattle.std.proofs.Common.{◌≡◌, ℕ, ◌+◌, ◌<◌, ◌≤◌, Bool, true, false, ◌&&◌, ◌||◌, ◌==◌, nat_lt, List, [], ◌∷◌, ◌++◌, length, Some, None, refl, sym, ap, ◌∙◌, arith, inl, inr, length-append}
use Rattle.wire_message.proofs.Names.{cond-true, cond-false, and_left, both_ways, and_right, cases_lt, le-ltb, ne_eqb, ArrayVec, Octet, End, with_end, with_end-append, map_snoc, front_of, end_of, is_info_octet, is_trailer_octet, is_filler_octet, max_filler, max_info, max_trailer, Header, IsViableMessage, EndsViableMessage, IsMessageState, is_ended, OctetEndsViableMessage, DoesNotExtendPart, ends, begins, is_octet_of, most_of_part, octets_of_part, begun, HeaderPart, Source, Number, Priority, Category, Words, HeaderTexts, Place, Filler, InHeader, Info, Gap, Text, Trailer, AfterEnd}
use Rattle.wire_message.proofs.Machine.{of, no_texts, put, IsBare, Stands, stands, unread, message_stands, next, run, run_parts, and_then_place, one_end, step_to, extends, ends_next}
use Rattle.wire_message.proofs.{Goings.octets_on, Runs.spelled_runs}

-- ---- From each state some octets reach the end of a message.

abbrev Finishes : Place → Type 0
Finishes p = (rest : List ℕ) × (h : Header) × (t : ArrayVec ℕ) × (k : ℕ) × (run p rest ≡ Some (AfterEnd h t k))

-- Some octets reach the end from the state before an octet, if some do from the state after it.
then : (p q : Place) (b : ℕ) → next p b ≡ Some q → Finishes q → Finishes p
then p q b e f = (b ∷ f.0, f.1, f.2, f.3, step_to p q b f.0 e ∙ f.4)

finish_gap : (h : Header) (k : ℕ) (feed : Bool) → (feed || nat_lt k max_filler) ≡ true → Finishes (Gap h k feed)
finish_gap h k true on = (2 ∷ 3 ∷ 4 ∷ [], h, of [], 0, refl)
finish_gap h k false on = then (Gap h k false) (Gap h (k + 1) true) 10 (rw on refl) (2 ∷ 3 ∷ 4 ∷ [], h, of [], 0, refl)

finish_info : (h : Header) → Finishes (Info h)
finish_info h = then (Info h) (Gap h 1 true) 10 refl (finish_gap h 1 true refl)

-- An octet that a part may have.
sample : (part : HeaderPart) → (b : ℕ) × (is_octet_of part b ≡ true) × (1 ≤ most_of_part part)
sample Source = (65, refl, omega arith)
sample _ = (49, refl, omega arith)

text_put : (part : HeaderPart) (t : HeaderTexts) (xs : List ℕ) → octets_of_part part (put part xs t) ≡ xs
text_put Source t xs = refl
text_put _ t xs = refl

-- Once a part has an octet, the one that ends it may come.
finish_part : (part : HeaderPart) (b : ℕ) → ends part b ≡ true → ((t : HeaderTexts) → Finishes (begins part b t)) → (t : HeaderTexts)
    → Finishes (InHeader part t)
finish_part part b on more t = elim (cases_lt 0 (length (octets_of_part part t))) [
  | inl some ↦ then (InHeader part t) (begins part b t) b (ends_next part t b on some) (more t)
  | inr none ↦
      let one = sample part in
      let long : List ℕ = octets_of_part part t ++ (one.0 ∷ []) in
      let size : length long ≡ length (octets_of_part part t) + 1 = length-append (octets_of_part part t) (one.0 ∷ []) in
      then (InHeader part t) (InHeader part (put part long t)) one.0
      (cond-true _ _ _ (extends (is_octet_of part) one.0 (length (octets_of_part part t)) (most_of_part part) one.1 (omega (arith, one.2, none))))
      (then (InHeader part (put part long t)) (begins part b (put part long t)) b
      (ends_next part (put part long t) b on (omega (arith, ap length (text_put part t long), size))) (more (put part long t)))
]

finish_header : (part : HeaderPart) (t : HeaderTexts) → Finishes (InHeader part t)
finish_header part t =
    let words = finish_part Words 32 refl (λ t. finish_info (begun t)) in
    let category = finish_part Category 32 refl words in
    let priority = finish_part Priority 32 refl category in
    let number = finish_part Number 32 refl priority in
    let source = finish_part Source 49 refl (λ t. number (put Number (49 ∷ []) t)) in
    elim part as (λ p. Finishes (InHeader p t)) [
      | Source ↦ source t
      | Number ↦ number t
      | Priority ↦ priority t
      | Category ↦ category t
      | Words ↦ words t
    ]

finish : (p : Place) → IsBare p → Finishes p
finish (Filler k) i = then (Filler k) (InHeader Source no_texts) 1 refl (finish_header Source no_texts)
finish (InHeader part t) i = finish_header part t
finish (Info h) i = finish_info h
finish (Gap h k feed) i = finish_gap h k feed i.3
finish (Text h reader) i = (3 ∷ 4 ∷ [], h, of [], 0, refl)
finish (Trailer h t) i = (4 ∷ [], h, t, 0, refl)
finish (AfterEnd h t k) i = ([], h, t, k, refl)

-- ---- Viable prefixes, and the octets that end them.

pub message_lives : {xs text : List ℕ} {p : Place} → Stands xs text p → IsViableMessage xs
message_lives {xs} {text} {p} s =
    let f = finish p s.bare in
    let on = octets_on p (AfterEnd f.1 f.2 f.3) f.0 f.4 in
    let message = (on.1 xs text s).spelled.0 in
    let tokens = sym (with_end-append xs f.0) in
    (with_end f.0, record { object = xs ++ f.0; head = f.1; text = text ++ on.0; trailer = f.2.items; message = message; tokens_are = tokens })

pub live_runs : (xs : List ℕ) → IsViableMessage xs → (q : Place) × (run (Filler 0) xs ≡ Some q)
live_runs xs a =
    let l = a.1 in
    let f = front_of xs l.object a.0 l.tokens_are in
    let p = run_parts (Filler 0) xs f.0 _ (rw f.1 at (spelled_runs (message_stands l.object l.head l.text l.trailer l.message))) in
    (p.0, p.1)

pub message_dies : {xs text : List ℕ} {p : Place} (b : ℕ) → Stands xs text p → next (unread p) b ≡ None → EndsViableMessage xs (Octet b)
message_dies {xs} {text} {p} b s none = (
  message_lives s,
  λ alive.
      let live = live_runs (xs ++ (b ∷ [])) (rw (map_snoc xs b) at alive) in
      let parts = run_parts (Filler 0) xs (b ∷ []) live.0 live.1 in
      let step = and_then_place (next parts.0 b) (λ t. Some t) live.0 parts.2 in
      let same = one_end xs {p = parts.0} parts.1 (spelled_runs s) in
      let next_is = step.1 in
      cc,
)

pub message_unfinished : {xs text : List ℕ} {p : Place} → Stands xs text p → is_ended (Some (unread p)) ≡ false → EndsViableMessage xs End
message_unfinished {xs} {text} {p} s not_ended = (
  message_lives s,
  λ alive.
      let m = alive.1 in
      let runs = spelled_runs (message_stands m.object m.head m.text m.trailer m.message) in
      let same = one_end m.object runs (ap (run (Filler 0)) (end_of xs m.object alive.0 m.tokens_are) ∙ spelled_runs s) in
      both_ways (is_ended (Some (unread p))) not_ended (sym (ap (λ (q : Place). is_ended (Some q)) same)),
)

-- ---- The octets after which there is no state.

-- The octet begins no other part.
abbrev BeginsNone : Place → ℕ → Type 0
BeginsNone (Filler k) b = b ≡ 1 → ⊥
BeginsNone (InHeader part t) b = (ends part b && nat_lt 0 (length (octets_of_part part t))) ≡ false
BeginsNone (Info h) b = is_filler_octet b ≡ false
BeginsNone (Gap h k feed) b = (b == 2 && feed) ≡ false
BeginsNone (Text h reader) b = ⊥
BeginsNone (Trailer h t) b = b ≡ 4 → ⊥
BeginsNone (AfterEnd h t k) b = Unit {0}

-- A part that is full, or is not followed by its class, is not extended.
stays : (test : ℕ → Bool) (room : ℕ) (xs : List ℕ) (b : ℕ) → (length xs < room → test b ≡ false) → (test b && nat_lt (length xs) room) ≡ false
stays test room xs b h = elim (cases_lt (length xs) room) [
  | inl lt ↦ and_left (test b) (nat_lt (length xs) room) (h lt)
  | inr ge ↦ and_right (test b) (nat_lt (length xs) room) (le-ltb (length xs) room ge)
]

stops : (p : Place) (b : ℕ) → DoesNotExtendPart p b → BeginsNone p b → next (unread p) b ≡ None
stops (Filler k) b e d = cond-false _ _ _ e ∙ cond-false _ _ _ (ne_eqb b 1 d)
stops (InHeader part t) b e d = cond-false _ _ _ (stays (is_octet_of part) (most_of_part part) (octets_of_part part t) b e) ∙ cond-false _ _ _ d
stops (Info h) b e d = cond-false _ _ _ (stays is_info_octet max_info h.info b e) ∙ cond-false _ _ _ d
stops (Gap h k feed) b e d = cond-false _ _ _ e ∙ cond-false _ _ _ d
stops (Text h reader) b e d = absurd d
stops (Trailer h t) b e d = cond-false _ _ _ (stays is_trailer_octet max_trailer t.items b e) ∙ cond-false _ _ _ (ne_eqb b 4 d)
stops (AfterEnd h t k) b e d = cond-false _ _ _ e

-- Without a next state the octets are no longer a viable prefix.
pub dies : (p : Place) (b : ℕ) → IsMessageState p → DoesNotExtendPart p b → BeginsNone p b → OctetEndsViableMessage p b
dies p b i e d octets text spelled = message_dies b (stands octets text p i spelled) (stops p b e d)
