-- Two streams of datasets of which one continues the other: lemmas for the proofs of every crate.
use Rattle.std.proofs.Common.{◌≡◌, ℕ, ◌⊎◌, List, [], ◌∷◌, ◌++◌, refl, sym, inl, inr, append_assoc}
use Rattle.iim_dataset.specs.Format.Datasets.{Dataset, EncodesDataset, EncodesStream, count_octets}
use Rattle.iim_dataset.specs.Laws.{NoDatasetIsAPrefixOfAnother}

-- The first stream is the second and further datasets.
abbrev pub Longer : List Dataset → List Dataset → List ℕ → List ℕ → Type 0
Longer whole ds z y = (more : List Dataset) × (r : List ℕ) × (ds ++ more ≡ whole) × EncodesStream count_octets more r × (r ++ z ≡ y)

-- The second stream is the first, a next dataset, and further ones.
pub record Next (whole ds : List Dataset) (z y : List ℕ) : Type 0 where
  pub dataset : Dataset
  pub more : List Dataset
  pub p : List ℕ
  pub q : List ℕ
  pub parts : ds ≡ whole ++ dataset ∷ more
  pub spelled : EncodesDataset count_octets dataset p
  pub later : EncodesStream count_octets more q
  pub agree : z ≡ p ++ (q ++ y)

pub compare : NoDatasetIsAPrefixOfAnother → (whole ds : List Dataset) (front f z y : List ℕ) → EncodesStream count_octets whole front
    → EncodesStream count_octets ds f → front ++ z ≡ f ++ y
    → Longer whole ds z y ⊎ Next whole ds z y
compare one [] [] front f z y sw sf e = inl ([], [], refl, refl, rw (sw, sf) at e)
compare one [] (d ∷ ds) front f z y sw (p, q, first, later, joined) e =
    inr (record { dataset = d; more = ds; p = p; q = q; parts = refl; spelled = first; later = later; agree = rw (sw, joined, append_assoc) at e })
compare one (c ∷ whole) [] front f z y sw sf e = inl (c ∷ whole, front, refl, sw, rw sf at e)
compare one (c ∷ whole) (d ∷ ds) front f z y (p, q, first, later, joined) (v, w, other, others, parts) e =
    let same = one count_octets c d p v (q ++ z) (w ++ y) first other (simp append_assoc at (rw (joined, parts) at e)) in
    elim (compare one whole ds q w z y later others same.2) [
      | inl (more, r, is, stream, rest) ↦ inl (more, r, (λ i. sym same.0 i ∷ is i), stream, rest)
      | inr n ↦ inr (record {
        dataset = n.dataset;
        more = n.more;
        p = n.p;
        q = n.q;
        parts = λ i. sym same.0 i ∷ n.parts i;
        spelled = n.spelled;
        later = n.later;
        agree = n.agree;
      })
    ]
