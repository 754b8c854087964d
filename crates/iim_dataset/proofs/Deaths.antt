-- How octets continue, and when they cannot.
use Rattle.std.proofs.Common.{◌≡◌, ℕ, ◌⊎◌, List, [], ◌∷◌, ◌++◌, length, refl, ap, sym, ◌∙◌, arith, inl, inr, append_assoc, append-nil, length-append, replicate}
use Rattle.iim_dataset.specs.Format.Octets.{IsOctet, IsViablePrefix, EndsViablePrefix}
use Rattle.iim_dataset.specs.Format.Datasets.{Dataset, EncodesTag, EncodesDataset, head_of, count_octets, Head, PartialDataset, InTag, InData, ReadsAsDatasets, BeginsNoTag}
use Rattle.iim_dataset.specs.Laws.{RejectedOctetsDoNotContinue, AreDatasets, ReadOctetsSplit, OctetsAreRejectedInTheirTag, ReadersRejectExactly}
use Rattle.iim_dataset.specs.States.Reading.{DatasetEvent, EmitsEvents, ReachesDatasetState, DatasetPlace, TagIsRejected}
use Rattle.iim_dataset.proofs.{Spelled.one_tag, Spelled.one_dataset, Spelled.whole_read, Spelled.with_data, Spelled.stream_more, Agreeing.compare}
use Rattle.iim_dataset.proofs.{OneHanding.read_octets_continue, OneHanding.not_within, OneHanding.splits, Each.all_back, Places.tag_held, OctetLists.zeros_are}
use Rattle.std.proofs.lemmas.List.{length-replicate}
use Rattle.iim_dataset.specs.declared.head.HeadCause.{HeadCause}

-- If a list is split in two ways, the second split is after the first, or the first part has the
-- element after the second split.
goes_on : {A : Type 0} (xs ys us vs : List A) (v : A) → xs ++ ys ≡ us ++ v ∷ vs → ((m : List A) × (us ≡ xs ++ m)) ⊎ ((m : List A) × (xs ≡ us ++ v ∷ m))
goes_on [] ys us vs v e = inl (us, refl)
goes_on (x ∷ xs) ys [] vs v e = inr (xs, cc)
goes_on (x ∷ xs) ys (u ∷ us) vs v e =
    let first : x ≡ u = cc in elim (goes_on xs ys us vs v (cc)) [ inl (m, is) ↦ inl (m, λ i. sym first i ∷ is i) | inr (m, is) ↦ inr (m, λ i. first i ∷ is i) ]

-- After complete datasets the octets continue with another one.
following : {octets : List ℕ} (more : List ℕ) (next : ℕ) {whole w : List Dataset} {begun b : PartialDataset} (xs : List ℕ)
    → (r : ReadsAsDatasets count_octets octets whole begun) → r.rest ≡ xs
    → ReadsAsDatasets count_octets (octets ++ next ∷ more) w b
    → (d : Dataset) × (o later z : List ℕ) × (s : EncodesDataset count_octets d o) × (s.tag ++ (d.octets ++ later) ≡ xs ++ next ∷ z)
following {octets} more next {whole} {w} {begun} {b} xs r is s =
    let (d, m, some, stream) = read_octets_continue (octets ++ next ∷ more) w b s in
    let all : (ys : List ℕ) → r.front ++ (xs ++ next ∷ (more ++ ys)) ≡ ((octets ++ next ∷ more) ++ ys) ++ [] =
    λ ys. rw (r.parts, is) (simp (append_assoc, append-nil)) in
    elim (compare one_dataset whole (w ++ d ∷ []) r.front ((octets ++ next ∷ more) ++ m) (xs ++ next ∷ (more ++ m)) [] r.is_front stream (all m)) [
      | inl (a, x, same, spelled, none) ↦ absurd (omega (arith, simp length-append at (ap length none)))
      | inr n ↦ (n.dataset, n.p, n.q ++ [], more ++ m, n.spelled, simp append_assoc at (rw n.spelled.parts at (sym n.agree)))
    ]

-- A partial tag continues with the next octet.
pub tag_goes_on : {octets : List ℕ} (more : List ℕ) {held : List ℕ} (next : ℕ) {whole w : List Dataset} {b : PartialDataset}
    → ReadsAsDatasets count_octets octets whole (InTag held)
    → ReadsAsDatasets count_octets (octets ++ next ∷ more) w b → (h : Head) × (m : List ℕ) × EncodesTag count_octets h (held ++ next ∷ m)
tag_goes_on more {held} next r s =
    let (d, o, later, z, spelled, agree) = following more next held r r.is_rest.0 s in
    elim (goes_on spelled.tag (d.octets ++ later) held z next agree) [
      | inl (m, is) ↦ absurd (not_within m spelled.is_tag r.is_rest (r.is_rest.0 ∙ is))
      | inr (m, is) ↦ (head_of d, m, rw is at spelled.is_tag)
    ]

-- Partial data continue with an octet.
pub data_go_on : {octets : List ℕ} (more : List ℕ) {taken : List ℕ} (next : ℕ) {whole w : List Dataset} {h : Head} {b : PartialDataset}
    → ReadsAsDatasets count_octets octets whole (InData h taken)
    → ReadsAsDatasets count_octets (octets ++ next ∷ more) w b → IsOctet next
data_go_on more {taken} next {h = h} r s =
    let (tag, t, few, os, is) = r.is_rest in
    let (d, o, later, z, spelled, agree) = following more next (tag ++ taken) r is s in
    let (heads, tags, rests) =
    one_tag count_octets (head_of d) h spelled.tag tag (d.octets ++ later) (taken ++ next ∷ z) spelled.is_tag t (rw append_assoc at agree) in
    elim (goes_on d.octets later taken z next rests) [
      | inl (m, within) ↦ absurd (omega (arith, few, ap (λ (k : Head). k.count) heads, ap length within, length-append d.octets m))
      | inr (m, on) ↦ (all_back IsOctet taken (next ∷ m) (rw on at spelled.data_octets)).0
    ]

pub rejected_octets_do_not_continue : RejectedOctetsDoNotContinue
rejected_octets_do_not_continue octets more next whole held w b r dead s = let (h, m, t) = tag_goes_on more next r s in dead h m (rw append_assoc t)

pub read_octets_split : ReadOctetsSplit
read_octets_split octets whole begun r = (r.rest, r.is_rest, splits r)

dies : (octets : List ℕ) (next : ℕ) (whole : List Dataset) (held : List ℕ) → ReadsAsDatasets count_octets octets whole (InTag held)
    → BeginsNoTag count_octets (held ++ next ∷ []) → EndsViablePrefix AreDatasets octets next
dies octets next whole held r dead =
    let on = read_octets_continue octets whole (InTag held) r in (
      (on.1, (whole ++ on.0 ∷ [], on.3)),
      λ alive.
          let (rest, (ds, s)) = alive in
          rejected_octets_do_not_continue octets rest next whole held ds (InTag []) r dead (whole_read (octets ++ next ∷ rest) ds (rw append_assoc at s)),
    )

-- A complete dataset can follow the octets of a tag.
lives : (octets : List ℕ) (next : ℕ) (whole : List Dataset) (held : List ℕ) → ReadsAsDatasets count_octets octets whole (InTag held) → (h : Head)
    (more : List ℕ)
    → EncodesTag count_octets h ((held ++ next ∷ []) ++ more)
    → IsViablePrefix AreDatasets (octets ++ next ∷ [])
lives octets next whole held r h more s =
    let zeros = replicate h.count 0 in
    let tag = (held ++ next ∷ []) ++ more in
    let d : Dataset = record { rec = h.rec; set = h.set; octets = zeros } in
    let joined : (octets ++ next ∷ []) ++ (more ++ zeros) ≡ r.front ++ (tag ++ zeros) = rw (r.parts, r.is_rest.0) (simp append_assoc) in
    let spelled = with_data h tag zeros s (zeros_are h.count) (length-replicate {A = ℕ} h.count 0) in
    (more ++ zeros, (whole ++ d ∷ [], rw joined (stream_more whole r.front d (tag ++ zeros) r.is_front spelled)))

pub octets_are_rejected_in_their_tag : OctetsAreRejectedInTheirTag
octets_are_rejected_in_their_tag octets next whole held r =
    ((λ dead. dies octets next whole held r dead), λ at h more s. at.1 (lives octets next whole held r h more s))

-- ---- readers

alive : (octets : List ℕ) (events : List DatasetEvent) (begun : PartialDataset) → EmitsEvents count_octets octets events begun
    → IsViablePrefix AreDatasets octets
alive octets events begun h = let on = read_octets_continue octets h.whole begun h.reads in (on.1, (h.whole ++ on.0 ∷ [], on.3))

tag_dies : (octets : List ℕ) (events : List DatasetEvent) (place : DatasetPlace) (next : ℕ) (cause : HeadCause)
    → ReachesDatasetState count_octets octets events place
    → TagIsRejected place next cause → EndsViablePrefix AreDatasets octets next
tag_dies octets events place next cause l d =
    let h = tag_held (record { items = d.held }) (rw d.tag at l) in
    dies octets next h.whole d.held h.reads d.dead

pub readers_reject_exactly : ReadersRejectExactly
readers_reject_exactly = record {
  alive = λ octets events place l. alive octets events l.begun l.hands;
  dies = tag_dies;
  stops = λ octets next events event c. alive (octets ++ next ∷ []) (events ++ event ∷ c.later) c.next_begun c.with_next;
}
