-- The events that a reader emitted determine the datasets.
use Rattle.std.proofs.Common.{◌≡◌, ℕ, List, [], ◌∷◌, ◌++◌, refl, ap, sym, ◌∙◌, append_assoc, append-nil, map}
use Rattle.iim_dataset.specs.Format.Datasets.{Dataset, head_of, PartialDataset, InTag, InData}
use Rattle.iim_dataset.specs.States.Reading.{DatasetEvent, HeadRead, DataOctet, DatasetEnd, partial_events, partial_data, emitted_events}

-- the data octets at the start of the events, and the events after them
abbrev led : List DatasetEvent → List ℕ × List DatasetEvent
led (DataOctet b ∷ es) = (b ∷ (led es).0, (led es).1)
led es = ([], es)

led_data : (xs : List ℕ) (r : List DatasetEvent) → led r ≡ ([], r) → led (map DataOctet xs ++ r) ≡ (xs, r)
led_data [] r e = e
led_data (x ∷ xs) r e = ap (λ (p : List ℕ × List DatasetEvent). (x ∷ p.0, p.1)) (led_data xs r e)

-- Data octets before an event that is not one, and the events after them, are determined.
parted : (xs ys : List ℕ) (r s : List DatasetEvent) → led r ≡ ([], r) → led s ≡ ([], s) → map DataOctet xs ++ r ≡ map DataOctet ys ++ s → (xs ≡ ys) × (r ≡ s)
parted xs ys r s none other e =
    let both : (xs, r) ≡ (ys, s) = sym (led_data xs r none) ∙ (ap led e ∙ led_data ys s other) in
    (ap (λ (p : List ℕ × List DatasetEvent). p.0) both, ap (λ (p : List ℕ × List DatasetEvent). p.1) both)

-- The data before an end, and the events after it, are determined.
pub same_data : (xs ys : List ℕ) (r s : List DatasetEvent) → map DataOctet xs ++ DatasetEnd ∷ r ≡ map DataOctet ys ++ DatasetEnd ∷ s → (xs ≡ ys) × (r ≡ s)
same_data xs ys r s e = let both = parted xs ys (DatasetEnd ∷ r) (DatasetEnd ∷ s) refl refl e in let ends = both.1 in (both.0, cc)

-- The events of the first dataset, and then the others.
first_then : (d : Dataset) (ds : List Dataset) (b : PartialDataset)
    → emitted_events (d ∷ ds) b ≡ HeadRead (head_of d) ∷ (map DataOctet d.octets ++ DatasetEnd ∷ emitted_events ds b)
first_then d ds b = simp append_assoc

-- The events of a partial dataset are not those of a complete one.
not_whole : (b : PartialDataset) (d : Dataset) (ds : List Dataset) (c : PartialDataset) → partial_events b ≡ emitted_events (d ∷ ds) c → ⊥
not_whole (InTag x) d ds c e = absurd (let both = e ∙ first_then d ds c in cc)
not_whole (InData h xs) d ds c e =
    let both = e ∙ first_then d ds c in
    let parts = parted xs d.octets [] (DatasetEnd ∷ emitted_events ds c) refl refl (append-nil (map DataOctet xs) ∙ cc) in
    let none = parts.1 in absurd cc

same_begun : (b c : PartialDataset) → partial_events b ≡ partial_events c → partial_data b ≡ partial_data c
same_begun (InTag x) (InTag y) e = refl
same_begun (InTag x) (InData k ys) e = absurd cc
same_begun (InData h xs) (InTag y) e = absurd cc
same_begun (InData h xs) (InData k ys) e =
    let same : xs ≡ ys = (parted xs ys [] [] refl refl (ap (λ es. es ++ []) (cc))).0 in
    let heads : h ≡ k = cc in cc

pub one_telling : (ds es : List Dataset) (b c : PartialDataset) → emitted_events ds b ≡ emitted_events es c → (ds ≡ es) × (partial_data b ≡ partial_data c)
one_telling [] [] b c e = (refl, same_begun b c e)
one_telling [] (d ∷ es) b c e = absurd (not_whole b d es c e)
one_telling (d ∷ ds) [] b c e = absurd (not_whole c d ds b (sym e))
one_telling (d ∷ ds) (f ∷ es) b c e =
    let both = sym (first_then d ds b) ∙ (e ∙ first_then f es c) in
    let heads : head_of d ≡ head_of f = cc in
    let first = same_data d.octets f.octets (emitted_events ds b) (emitted_events es c) (cc) in
    let more = one_telling ds es b c first.1 in
    ((λ i. record { rec = (heads i).rec; set = (heads i).set; octets = first.0 i } ∷ more.0 i), more.1)
