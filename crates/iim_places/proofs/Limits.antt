-- What further datasets add to the limits.
use Rattle.std.proofs.Common.{◌≡◌, ◌+◌, nat_eq, List, ◌∷◌, ◌++◌, length, ap, ◌∙◌, arith, length-append}
use Rattle.iim_places.proofs.Words.{filter-append, flat_map-append, Dataset, head_of, of_record, kept, kept_octets, is_kept, Limits, AreWithinLimits, HeadFits}
use Rattle.iim_fields.specs.Format.Causes.{joined}

-- ---- datasets after others

pub kept_append : (ds es : List Dataset) → kept (ds ++ es) ≡ kept ds ++ kept es
kept_append ds es = filter-append (λ (d : Dataset). is_kept d.rec) ds es

pub kept_octets_append : (ds es : List Dataset) → kept_octets (ds ++ es) ≡ kept_octets ds + kept_octets es
kept_octets_append ds es =
    ap (λ (xs : List Dataset). length (joined xs)) (kept_append ds es) ∙ ap length (flat_map-append (λ (d : Dataset). d.octets) (kept ds) (kept es))
    ∙ length-append (joined (kept ds)) (joined (kept es))

pub kept_length_append : (ds es : List Dataset) → length (kept (ds ++ es)) ≡ length (kept ds) + length (kept es)
kept_length_append ds es = ap length (kept_append ds es) ∙ length-append (kept ds) (kept es)

-- Bounds of all datasets hold of the first of them.
pub within_front : (limits : Limits) (ds es : List Dataset) → AreWithinLimits limits (ds ++ es) → AreWithinLimits limits ds
within_front limits ds es within = grind (
  arith,
  within,
  kept_octets_append ds es,
  kept_length_append ds es,
  filter-append (λ (d : Dataset). nat_eq d.rec 8) ds es,
  length-append (of_record 8 ds) (of_record 8 es),
)

-- Bounds of all datasets hold of each.
pub within_limits : (limits : Limits) (ds : List Dataset) (d : Dataset) (more : List Dataset) → AreWithinLimits limits (ds ++ d ∷ more) → HeadFits limits ds
    (head_of d)
within_limits limits ds d more within =
    let octets = length-append d.octets (joined (kept more)) in
    grind (
      arith,
      within,
      octets,
      kept_octets_append ds (d ∷ more),
      kept_length_append ds (d ∷ more),
      filter-append (λ (x : Dataset). nat_eq x.rec 8) ds (d ∷ more),
      length-append (of_record 8 ds) (of_record 8 (d ∷ more)),
    )
