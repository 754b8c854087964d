-- Writing records 1 and 2, one dataset after another.
use Rattle.iim_pack.proofs.Words.{◌≡◌, ℕ, ◌+◌, ◌*◌, ◌^◌, ◌<◌, ◌≤◌, List, [], ◌∷◌, ◌++◌, length, sym, ap, subst, ◌∙◌, arith, append_assoc, append-nil, length-append, stream_append, Device, WroteAllOf, WroteOnlyPrefixOf, WritesJoin, Dataset, canonical_dataset, canonical_stream, tag_octets, joined}
use Rattle.iim_dataset.proofs.{StoppedTexts.stopped_more, WrittenNumbers.dataset_length}
use Rattle.iim_fields.specs.States.Standing.{FitAnyLimits}

-- ---- the lengths of datasets

pub stream_length : (ds : List Dataset) → length (canonical_stream ds) ≤ tag_octets * length ds + length (joined ds)
stream_length [] = omega arith
stream_length (d ∷ ds) =
    let more = stream_length ds in
    let first = dataset_length d in
    omega (arith, more, first, length-append (canonical_dataset d) (canonical_stream ds), length-append d.octets (joined ds))

pub stream_small : (ds : List Dataset) → FitAnyLimits ds → length (canonical_stream ds) < 2 ^ 40
stream_small ds f = let long = stream_length ds in omega (arith, long, f.datasets, f.octets)

pub stream_one : (xs : List Dataset) (d : Dataset) → canonical_stream (xs ++ d ∷ []) ≡ canonical_stream xs ++ canonical_dataset d
stream_one xs d = stream_append xs (d ∷ []) ∙ ap (λ (t : List ℕ). canonical_stream xs ++ t) (append-nil (canonical_dataset d))

-- ---- the datasets of an envelope

parted : (ds front rest : List Dataset) (d : Dataset) → ds ≡ front ++ d ∷ rest
    → canonical_stream ds ≡ (canonical_stream front ++ canonical_dataset d) ++ canonical_stream rest
parted ds front rest d e = ap canonical_stream e
    ∙ (stream_append front (d ∷ rest) ∙ sym (append_assoc (canonical_stream front) (canonical_dataset d) (canonical_stream rest)))

pub prefix_small : (ds front rest : List Dataset) → FitAnyLimits ds → ds ≡ front ++ rest → length (canonical_stream front) < 2 ^ 40
prefix_small ds front rest f e =
    let small = stream_small ds f in
    omega (arith, small, ap length (ap canonical_stream e ∙ stream_append front rest), length-append (canonical_stream front) (canonical_stream rest))

pub part_small : (ds front rest : List Dataset) (d : Dataset) → FitAnyLimits ds → ds ≡ front ++ d ∷ rest
    → length (canonical_stream front) + length (canonical_dataset d) < 2 ^ 40
part_small ds front rest d f e =
    let small = stream_small ds f in
    omega (
      arith,
      small,
      ap length (parted ds front rest d e),
      length-append (canonical_stream front ++ canonical_dataset d) (canonical_stream rest),
      length-append (canonical_stream front) (canonical_dataset d),
    )

pub part_stopped : (a b c : Device) (ds front rest : List Dataset) (d : Dataset) (n : ℕ) → WritesJoin → ds ≡ front ++ d ∷ rest
    → WroteAllOf a b (canonical_stream front) → WroteOnlyPrefixOf b c (canonical_dataset d) n
    → WroteOnlyPrefixOf a c (canonical_stream ds) (length (canonical_stream front) + n)
part_stopped a b c ds front rest d n join e w s =
    subst (λ (t : List ℕ). WroteOnlyPrefixOf a c t (length (canonical_stream front) + n)) (sym (parted ds front rest d e))
    (stopped_more a c (canonical_stream front ++ canonical_dataset d) (canonical_stream rest) (length (canonical_stream front) + n)
    (join.stopped a b c (canonical_stream front) (canonical_dataset d) n w s))
