-- Octets printed as text.
use Rattle.std.proofs.Common.{◌≡◌, inl, inr, ℕ, ◌-◌, ◌<◌, ◌≤◌, List, [], ◌∷◌, ◌++◌, append_assoc, length, take, drop, get_or, refl, ap, sym, ◌∙◌, subst, arith}
use Rattle.std.proofs.lemmas.List.{take_rest, append-nil}
use Rattle.iim_script.specs.Format.Scripts.{IsHexDigit, IsOfDigits, BeginsWith, EncodesOctets, EndsWith}

-- the first octet, and the others
pub first_and_rest : (xs : List ℕ) → 0 < length xs → xs ≡ get_or xs 0 0 ∷ take (length xs - 1) (drop 1 xs)
first_and_rest [] some = absurd (omega (arith, some))
first_and_rest (x ∷ xs) some = ap (λ (l : List ℕ). x ∷ l) (sym (take_rest (x ∷ xs) 1))

-- the first three, and the others
pub three_and_rest : (xs : List ℕ) → 3 ≤ length xs → xs ≡ get_or xs 0 0 ∷ get_or xs 1 0 ∷ get_or xs 2 0 ∷ take (length xs - 3) (drop 3 xs)
three_and_rest (x ∷ y ∷ z ∷ xs) some = ap (λ (l : List ℕ). x ∷ y ∷ z ∷ l) (sym (take_rest (x ∷ y ∷ z ∷ xs) 3))
three_and_rest xs some = absurd (omega (arith, some))

-- the only three
pub three_of : (xs : List ℕ) → 3 ≤ length xs → length xs < 4 → xs ≡ get_or xs 0 0 ∷ get_or xs 1 0 ∷ get_or xs 2 0 ∷ []
three_of (x ∷ y ∷ z ∷ []) some few = refl
three_of xs some few = absurd (omega (arith, some, few))

-- an escape at the start
pub escape_begins : (after : List ℕ) (octet : ℕ) → 3 ≤ length after → get_or after 0 0 ≡ 120 → IsOfDigits (get_or after 1 0) (get_or after 2 0) octet
    → BeginsWith (92 ∷ after) octet (take (length after - 3) (drop 3 after))
escape_begins after octet some x digits =
    let high = get_or after 1 0 in
    let low = get_or after 2 0 in
    let rest = take (length after - 3) (drop 3 after) in
    inr (high, low, ap (λ (l : List ℕ). 92 ∷ l) (three_and_rest after some ∙ ap (λ (n : ℕ). n ∷ high ∷ low ∷ rest) x), digits)

-- what begins with a backslash and encodes an octet begins with an escape
pub escape_at : (after rest : List ℕ) (octet : ℕ) → BeginsWith (92 ∷ after) octet rest
    → (3 ≤ length after) × (get_or after 0 0 ≡ 120) × IsOfDigits (get_or after 1 0) (get_or after 2 0) octet
escape_at after rest octet (inl (other, e)) = absurd (other (cc))
escape_at after rest octet (inr (high, low, e, digits)) = let whole : after ≡ 120 ∷ high ∷ low ∷ rest = cc in rw whole (omega arith, refl, digits)

pub empty_begins : (rest : List ℕ) (octet : ℕ) → BeginsWith [] octet rest → ⊥
empty_begins rest octet h = elim h [ inl b ↦ cc | inr b ↦ cc ]

-- a digit has one value
pub digit_once : (d v w : ℕ) → IsHexDigit d v → IsHexDigit d w → v ≡ w
digit_once d v w h k = grind arith

pub octet_once : (high low a b : ℕ) → IsOfDigits high low a → IsOfDigits high low b → a ≡ b
octet_once high low a b (h, l, is_h, is_l, e) (k, m, is_k, is_m, f) =
    let same_high = digit_once high h k is_h is_k in
    let same_low = digit_once low l m is_l is_m in
    omega (arith, same_high, same_low, e, f)

-- a text begins in one way
pub begins_once : (text rest more : List ℕ) (a b : ℕ) → BeginsWith text a rest → BeginsWith text b more → (a ≡ b) × (rest ≡ more)
begins_once text rest more a b h k = let once = octet_once in grind arith

-- The octets of a text so far, and the rest of it: together they encode the octets of the whole
-- text, and nothing else.
pub record Onto (text octets rest : List ℕ) : Type 0 where
  pub leads : (ys : List ℕ) → EncodesOctets rest ys → EncodesOctets text (octets ++ ys)
  pub only : (all : List ℕ) → EncodesOctets text all → (ys : List ℕ) × (all ≡ octets ++ ys) × EncodesOctets rest ys

none_left : (rest : List ℕ) (octet : ℕ) (more : List ℕ) → BeginsWith rest octet more → rest ≡ [] → ⊥
none_left rest octet more h e = empty_begins more octet (subst (λ (l : List ℕ). BeginsWith l octet more) e h)

only_step : (octets rest more ys all : List ℕ) (octet : ℕ) → BeginsWith rest octet more → all ≡ octets ++ ys → EncodesOctets rest ys
    → (zs : List ℕ) × (all ≡ (octets ++ octet ∷ []) ++ zs) × EncodesOctets more zs
only_step octets rest more [] all octet begins e told = absurd (none_left rest octet more begins told)
only_step octets rest more (y ∷ ys) all octet begins e (after, at, told) =
    let same = begins_once rest more after octet y begins at in
    (ys, rw (e, same.0) (sym (append_assoc octets (y ∷ []) ys)), rw same.1 told)

pub onto_step : (text octets rest more : List ℕ) (octet : ℕ) → Onto text octets rest → BeginsWith rest octet more → Onto text (octets ++ octet ∷ []) more
onto_step text octets rest more octet onto begins = record {
  leads = λ ys told. subst (λ (l : List ℕ). EncodesOctets text l) (sym (append_assoc octets (octet ∷ []) ys)) (onto.leads (octet ∷ ys) (more, begins, told));
  only = λ all told. let h = onto.only all told in only_step octets rest more h.0 all octet begins h.1 h.2;
}

-- the rest is empty
pub onto_end : (text octets rest : List ℕ) → Onto text octets rest → length rest ≡ 0 → EncodesOctets text octets
onto_end text octets [] onto none = subst (λ (l : List ℕ). EncodesOctets text l) (append-nil octets) (onto.leads [] refl)
onto_end text octets (x ∷ rest) onto none = absurd (omega (arith, none))

no_start : (rest ys : List ℕ) → (0 < length rest) → ((octet : ℕ) (more : List ℕ) → BeginsWith rest octet more → ⊥) → EncodesOctets rest ys → ⊥
no_start rest [] some none told = absurd (omega (arith, some, ap length told))
no_start rest (y ∷ ys) some none (more, begins, told) = none y more begins

-- the rest begins with no valid octet
pub onto_none : (text octets rest : List ℕ) → Onto text octets rest → (0 < length rest) → ((octet : ℕ) (more : List ℕ) → BeginsWith rest octet more → ⊥)
    → (all : List ℕ) → EncodesOctets text all → ⊥
onto_none text octets rest onto some none all told = let h = onto.only all told in no_start rest h.0 some none h.2

-- the rest of a line, if it begins with SP
pub no_last : (end text : List ℕ) → end ≡ 32 ∷ text → ((octets : List ℕ) → EncodesOctets text octets → ⊥) → (octets : List ℕ) → EndsWith end octets → ⊥
no_last end text e none [] told = absurd (omega (arith, ap length (sym e ∙ told)))
no_last end text e none (octet ∷ octets) (other, is, told) =
    none (octet ∷ octets) (subst (λ (l : List ℕ). EncodesOctets l (octet ∷ octets)) (ap (λ (l : List ℕ). drop 1 l) (sym is ∙ e)) told)

-- a text encodes at most one list of octets
pub describes_once : (text xs ys : List ℕ) → EncodesOctets text xs → EncodesOctets text ys → xs ≡ ys
describes_once text [] [] h k = refl
describes_once text [] (y ∷ ys) h (rest, begins, told) = absurd (none_left text y rest begins h)
describes_once text (x ∷ xs) [] (rest, begins, told) k = absurd (none_left text x rest begins k)
describes_once text (x ∷ xs) (y ∷ ys) (rest, begins, told) (more, at, tells) =
    let same = begins_once text rest more x y begins at in
    rw (same.0, describes_once rest xs ys told (rw same.1 tells)) refl

pub last_once : (end xs ys : List ℕ) → EndsWith end xs → EndsWith end ys → xs ≡ ys
last_once end [] [] h k = refl
last_once end [] (y ∷ ys) h (text, is, told) = absurd (omega (arith, ap length (sym is ∙ h)))
last_once end (x ∷ xs) [] (text, is, told) k = absurd (omega (arith, ap length (sym is ∙ k)))
last_once end (x ∷ xs) (y ∷ ys) (text, is, told) (more, at, tells) =
    describes_once text (x ∷ xs) (y ∷ ys) told (subst (λ (l : List ℕ). EncodesOctets l (y ∷ ys)) (ap (λ (l : List ℕ). drop 1 l) (sym at ∙ is)) tells)
