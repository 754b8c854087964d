-- The tag that octets begin with determines the datasets there.
use Rattle.std.proofs.Common.{◌≡◌, ℕ, ◌<◌, List, [], ◌∷◌, ◌++◌, length, refl, ap, sym, subst, ◌∙◌, arith, append_assoc, length-append}
use Rattle.iim_places.proofs.Words.{append-nil, Dataset, EncodesTag, EncodesDataset, head_of, count_octets, PartialDataset, InTag, InData, EncodesPartial, NoTagIsAPrefixOfAnother, Head}

-- an empty list has only empty prefixes
pub empty_prefix : {X : Type 0} (xs ys : List X) → xs ++ ys ≡ [] → xs ≡ []
empty_prefix [] ys e = refl
empty_prefix (x ∷ xs) ys e = absurd cc

-- a complete tag is no longer a partial one
pub no_longer : NoTagIsAPrefixOfAnother → (h k : Head) (tag x more : List ℕ) → EncodesTag count_octets h tag → 0 < length more
    → EncodesTag count_octets k ((tag ++ x) ++ more) → ⊥
no_longer one_tag h k tag x more s long t =
    let same = one_tag count_octets h k tag ((tag ++ x) ++ more) (x ++ more) [] s t (sym (append_assoc tag x more) ∙ sym (append-nil ((tag ++ x) ++ more))) in
    omega (arith, simp length-append at (ap length same.2))

-- no complete dataset is a prefix of a partial one
pub begun_none : NoTagIsAPrefixOfAnother → (c : PartialDataset) (y : List ℕ) → EncodesPartial count_octets c y → (d : Dataset) (x w : List ℕ)
    → EncodesDataset count_octets d x
    → y ≡ x ++ w → ⊥
begun_none one (InTag held) y b d x w s e =
    let held_is : held ≡ s.tag ++ (d.octets ++ w) = sym b.0 ∙ e ∙ ap (λ l. l ++ w) s.parts ∙ append_assoc s.tag d.octets w in
    no_longer one (head_of d) b.1 s.tag (d.octets ++ w) b.4.0 s.is_tag b.4.1 (subst (EncodesTag count_octets b.1) (sym b.4.2 ∙ ap
    (λ l. l ++ b.4.0) held_is) b.3)
begun_none one (InData h taken) y b d x w s e =
    let agree : b.0 ++ taken ≡ s.tag ++ (d.octets ++ w) = sym b.4 ∙ e ∙ ap (λ l. l ++ w) s.parts ∙ append_assoc s.tag d.octets w in
    let same = one count_octets h (head_of d) b.0 s.tag taken (d.octets ++ w) b.1 s.is_tag agree in
    let count : h.count ≡ length d.octets = ap (λ (k : Head). k.count) same.0 in
    let lengths : length taken ≡ length (d.octets ++ w) = ap length same.2 in
    omega (arith, b.2, count, lengths, length-append d.octets w)
