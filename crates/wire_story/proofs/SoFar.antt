-- Octets as tokens, and texts so far: lemmas for the proofs on messages, too.
use Rattle.std.proofs.Common.{◌≡◌, ℕ, ◌≤◌, List, [], ◌∷◌, ◌++◌, map, refl, sym, ap, ◌∙◌, append_assoc}
use Rattle.std.proofs.lemmas.List.{map-append}
use Rattle.wire_story.specs.Format.Texts.{IsTextSoFar, OctetOrEnd, Octet, End, with_end}

pub with_end-append : (x y : List ℕ) → with_end (x ++ y) ≡ map Octet x ++ with_end y
with_end-append x y = ap (λ (t : List OctetOrEnd). t ++ End ∷ []) (map-append Octet x y) ∙ append_assoc (map Octet x) (map Octet y) (End ∷ [])

pub map_snoc : (x : List ℕ) (b : ℕ) → map Octet x ++ (Octet b ∷ []) ≡ map Octet (x ++ (b ∷ []))
map_snoc x b = sym (map-append Octet x (b ∷ []))

-- A prefix of octets with their end is a prefix of the octets, or is all of them.
pub front_of : (x text : List ℕ) (rest : List OctetOrEnd) → map Octet x ++ rest ≡ with_end text
    → (y : List ℕ) × (text ≡ x ++ y) × (rest ≡ with_end y)
front_of [] text rest e = (text, refl, e)
front_of (b ∷ bs) [] rest e = absurd cc
front_of (b ∷ bs) (t ∷ ts) rest e =
    let tails : map Octet bs ++ rest ≡ with_end ts = cc in
    let more = front_of bs ts rest tails in
    let first : t ≡ b = cc in
    let rests : ts ≡ bs ++ more.0 = more.1 in
    (more.0, cc, more.2)

-- The end of the octets comes after all of them.
pub end_of : (x text : List ℕ) (rest : List OctetOrEnd) → (map Octet x ++ (End ∷ [])) ++ rest ≡ with_end text → text ≡ x
end_of [] [] rest e = refl
end_of [] (t ∷ ts) rest e = absurd cc
end_of (b ∷ bs) [] rest e = absurd cc
end_of (b ∷ bs) (t ∷ ts) rest e =
    let tails : (map Octet bs ++ (End ∷ [])) ++ rest ≡ with_end ts = cc in
    let more = end_of bs ts rest tails in
    let first : t ≡ b = cc in
    cc

-- A text so far ends in at most two CR.
pub so_far_two : (x : List ℕ) (lines : List (List ℕ)) (line : List ℕ) (held : ℕ) → IsTextSoFar x lines line held → held ≤ 2
so_far_two x [] line held h = h.1
so_far_two x (first ∷ lines) line held h = so_far_two h.3 lines line held h.5
