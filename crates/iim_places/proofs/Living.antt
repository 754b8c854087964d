-- Each prefix of a viable prefix is a viable prefix.
use Rattle.std.proofs.Common.{inl, inr, ◌≡◌, ℕ, ◌+◌, ◌<◌, Bool, true, false, ◌==◌, if◌then◌else◌, List, [], ◌∷◌, ◌++◌, length, take, drop, map, refl, ap, sym, subst, ◌∙◌, arith, append-nil, append_assoc}
use Rattle.iim_places.proofs.Words.{cases_Bool, IsViablePrefix, list_any, position_or_len, before_first, after_first, drop-append-le, take-append-le, map-append, list_any-append, drop-append-add, take-append-add, take-length, OctetOrEnd, Octet, End, StoryLanguage, MessageLanguage, IsViableMessage, HasViableStory, after_stx}

pub viable_prefix : {T : Type 0} (L : List T → Type 0) (xs ys : List T) → IsViablePrefix L (xs ++ ys) → IsViablePrefix L xs
viable_prefix L xs ys alive = (ys ++ alive.0, subst L (append_assoc xs ys alive.0) alive.1)

-- ---- the first octet of a kind, in octets and in more of them

-- If octets have one of the kind, it is the first among more of them too.
first_found : (p : ℕ → Bool) (x y : List ℕ) → list_any p x ≡ true → (position_or_len p (x ++ y) ≡ position_or_len p x) × (position_or_len p x < length x)
first_found p [] y found = absurd (let bad : false ≡ true = found in cc)
first_found p (b ∷ x) y found = grind (arith, first_found p x y, cases_Bool (p b))

-- If they have none, it is the first among those that follow.
first_none : (p : ℕ → Bool) (x y : List ℕ) → list_any p x ≡ false
    → (position_or_len p (x ++ y) ≡ length x + position_or_len p y) × (position_or_len p x ≡ length x)
first_none p [] y none = (omega arith, refl)
first_none p (b ∷ x) y none = grind (arith, first_none p x y, cases_Bool (p b))

pub place_later : (p : ℕ → Bool) (x y : List ℕ) → list_any p x ≡ false → position_or_len p (x ++ y) ≡ length x + position_or_len p y
place_later p x y none = (first_none p x y none).0

pub after_found : (p : ℕ → Bool) (x y : List ℕ) → list_any p x ≡ true → after_first p (x ++ y) ≡ after_first p x ++ y
after_found p x y found =
    ap (λ (n : ℕ). drop (n + 1) (x ++ y)) (first_found p x y found).0
    ∙ drop-append-le (position_or_len p x + 1) x y (omega (arith, (first_found p x y found).1))

pub after_none : (p : ℕ → Bool) (x : List ℕ) → list_any p x ≡ false → after_first p x ≡ []
after_none p x none = ap (λ (n : ℕ). drop (n + 1) x) (first_none p x [] none).1 ∙ ap (drop (length x + 1)) (sym (append-nil x)) ∙ drop-append-add x [] 1

pub before_found : (p : ℕ → Bool) (x y : List ℕ) → list_any p x ≡ true → before_first p (x ++ y) ≡ before_first p x
before_found p x y found =
    ap (λ (n : ℕ). take n (x ++ y)) (first_found p x y found).0
    ∙ take-append-le (position_or_len p x) x y (omega (arith, (first_found p x y found).1))

pub before_later : (p : ℕ → Bool) (x y : List ℕ) → list_any p x ≡ false → before_first p (x ++ y) ≡ x ++ before_first p y
before_later p x y none = ap (λ (n : ℕ). take n (x ++ y)) (place_later p x y none) ∙ take-append-add x y (position_or_len p y)

pub before_all : (p : ℕ → Bool) (x : List ℕ) → list_any p x ≡ false → before_first p x ≡ x
before_all p x none = ap (λ (n : ℕ). take n x) (first_none p x [] none).1 ∙ take-length x

-- ---- the story

abbrev pub is_etx : ℕ → Bool
is_etx b = b == 3

abbrev pub is_stx : ℕ → Bool
is_stx b = b == 2

-- the story's tokens in what follows STX
abbrev pub tokens_after_stx : List ℕ → List OctetOrEnd
tokens_after_stx x = map Octet (before_first is_etx x) ++ (if list_any is_etx x then End ∷ [] else [])

after_prefix : (x y : List ℕ) → IsViablePrefix StoryLanguage (tokens_after_stx (x ++ y)) → IsViablePrefix StoryLanguage (tokens_after_stx x)
after_prefix x y alive = elim (cases_Bool (list_any is_etx x)) [
  | inl found ↦ rw found (rw (before_found is_etx x y found, list_any-append is_etx x y, found) at alive)
  | inr none ↦
      let later = map Octet (before_first is_etx y) ++ (if list_any is_etx (x ++ y) then End ∷ [] else []) in
      let whole : IsViablePrefix StoryLanguage (map Octet x ++ later) =
      rw (before_later is_etx x y none, map-append Octet x (before_first is_etx y), append_assoc) at alive in
      rw (before_all is_etx x none, none, append-nil) (viable_prefix StoryLanguage (map Octet x) later whole)
]

-- The story can continue after fewer octets.
pub story_prefix : (x y : List ℕ) → HasViableStory (x ++ y) → HasViableStory x
story_prefix x y alive = elim (cases_Bool (list_any is_stx x)) [
  | inl found ↦ after_prefix (after_stx x) y (rw (after_found is_stx x y found) at alive)
  | inr none ↦ rw (after_none is_stx x none) (viable_prefix StoryLanguage [] (tokens_after_stx (after_stx (x ++ y))) alive)
]

-- A message can continue after fewer octets.
pub message_prefix : (x y : List ℕ) (ts : List OctetOrEnd) → IsViablePrefix MessageLanguage (map Octet (x ++ y) ++ ts) → IsViableMessage x
message_prefix x y ts alive =
    viable_prefix MessageLanguage (map Octet x) (map Octet y ++ ts)
    (rw (map-append Octet x y, append_assoc) at alive)
