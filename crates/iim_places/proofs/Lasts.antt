-- The last record of complete datasets.
use Rattle.std.proofs.Common.{◌≡◌, ◌⊎◌, List, [], ◌∷◌, ◌++◌, refl, sym, subst, inl, inr, arith, append_assoc}
use Rattle.iim_places.proofs.Words.{Dataset, Head, AreSections, AreViableSections, AreViableSectionsWithHead, section_after, EnvelopesEndWithTheLastRecord, NoSectionsAreAPrefixOfOthers, last_more, front_alive}
use Rattle.iim_places.proofs.{Frames.no_sections, Fronts.empty_prefix}

abbrev pub SplitLast : List Dataset → Type 0
SplitLast ds = (ds ≡ []) ⊎ ((front : List Dataset) × (d : Dataset) × (ds ≡ front ++ d ∷ []))

pub split_last : (ds : List Dataset) → SplitLast ds
split_last [] = inl refl
split_last (d ∷ ds) = elim (split_last ds) [
  | inl none ↦ inr ([], d, λ i. d ∷ none i)
  | inr (front, e, is) ↦ inr (d ∷ front, e, λ i. d ∷ is i)
]

pub sections_last : EnvelopesEndWithTheLastRecord → (ds : List Dataset) → AreViableSections ds → AreSections ds → section_after ds ≡ 9
sections_last ends ds alive sections = elim (split_last ds) [
  | inl none ↦ absurd (no_sections (rw none at sections))
  | inr (front, d, is) ↦ rw (is, last_more 0 front d) ((ends front d (rw is at alive)).1 (rw is at sections))
]

pub last_sections : EnvelopesEndWithTheLastRecord → (ds : List Dataset) → AreViableSections ds → section_after ds ≡ 9 → AreSections ds
last_sections ends ds alive nine = elim (split_last ds) [
  | inl none ↦ absurd (let bad : 0 ≡ 9 = rw none at nine in omega (arith, bad))
  | inr (front, d, is) ↦ rw is ((ends front d (rw is at alive)).0 (rw (is, last_more 0 front d) at nine))
]

-- Datasets of an envelope that can continue with others are followed by none.
pub all_of : NoSectionsAreAPrefixOfOthers → (ds more : List Dataset) → AreSections ds → AreViableSections (ds ++ more) → more ≡ []
all_of law ds more sections (later, are) = empty_prefix more later (law ds (more ++ later) sections (rw append_assoc at are))

-- datasets after which a head is allowed are not an envelope
pub not_all : NoSectionsAreAPrefixOfOthers → (ds : List Dataset) (h : Head) → AreViableSectionsWithHead ds h → AreSections ds → ⊥
not_all law ds h (d, head, alive) sections = let bad : d ∷ [] ≡ [] = all_of law ds (d ∷ []) sections alive in cc

-- A dataset of record 9 is the last of an envelope.
pub nine_ends : NoSectionsAreAPrefixOfOthers → EnvelopesEndWithTheLastRecord → (xs : List Dataset) (d : Dataset) (ys : List Dataset) → AreViableSections
    (xs ++ d ∷ ys)
    → d.rec ≡ 9 → AreSections (xs ++ d ∷ []) × (ys ≡ [])
nine_ends law ends xs d ys alive nine =
    let longer = subst AreViableSections (sym (append_assoc xs (d ∷ []) ys)) alive in
    let sections = (ends xs d (front_alive (xs ++ d ∷ []) ys longer)).0 nine in
    (sections, all_of law (xs ++ d ∷ []) ys sections longer)
