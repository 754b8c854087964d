-- Canonical tags are encodings of their heads, and are read back.
use Rattle.std.proofs.Common.{◌≡◌, ℕ, ◌+◌, ◌-◌, ◌^◌, ◌<◌, List, [], ◌∷◌, ◌++◌, length, take, drop, refl, sym, ap, ◌∙◌, arith, inl, inr, append_assoc, length-append, length-take}
use Rattle.std.proofs.lemmas.List.{take-append-drop, take-append-le}
use Rattle.std.proofs.Math.Seq.{take-append_seam, take-append-add}
use Rattle.std.proofs.lemmas.Bool.{lt-ltb, le-ltb, leb-true, le-leb, cases_lt}
use Rattle.byteorder.specs.Numbers.{big_number-reads_back}
use Rattle.iim_dataset.proofs.WrittenNumbers.{some_octets, few_octets, number_octets, number_back}
use Rattle.iim_dataset.proofs.Spelled.{one_tag, no_longer}
use Rattle.iim_dataset.specs.{Format.Octets.IsOctet, Laws.CanonicalTagsReadBack, Laws.CanonicalStreamsAreEncodings, Laws.IsEncodable}
use Rattle.iim_dataset.specs.Format.Datasets.{Dataset, EncodesCount, EncodesTag, EncodesDataset, canonical_count, canonical_tag, canonical_dataset, canonical_stream, count_octets, head_of, Head, HasNoTag, HeadFault}
use Rattle.iim_dataset.specs.States.Reading.{IsDatasetState, Inside}
use Rattle.std.specs.Prelude.{◌↔◌, IsTrue, nat_le}

pub count_spells : (n : ℕ) → n < 256 ^ count_octets → EncodesCount count_octets n (canonical_count n)
count_spells n h = elim (cases_lt n 32768) [
  | inl lt ↦ rw (lt-ltb n 32768 lt) (inl (omega arith, omega arith, refl, big_number-reads_back 2 n [] (omega arith)))
  | inr ge ↦ rw (le-ltb n 32768 ge) (inr (refl, refl, some_octets n, few_octets n, number_octets n, number_back n h))
]

pub tag_spells : (h : Head) → IsOctet h.rec → IsOctet h.set → h.count < 256 ^ count_octets → EncodesTag count_octets h (canonical_tag h)
tag_spells h r s c = record { rec = r; set = s; count = canonical_count h.count; is_count = count_spells h.count c; parts = refl }

-- Some octets reach the data of a head exactly if at least one octet remains and no more than the
-- tag counts.
pub inside : (h : Head) (left : ℕ) → IsOctet h.rec → IsOctet h.set → h.count < 256 ^ count_octets → 0 < left
    → (IsTrue (nat_le left h.count) ↔ IsDatasetState (Inside h left))
inside h left r s c some = ((λ is. (some, leb-true left h.count is, canonical_tag h, tag_spells h r s c)), (λ is. le-leb left h.count is.1))

-- A fault is neither within a complete tag nor after it.
no_fault : (fault : HeadFault) (h : Head) (tag more : List ℕ) → EncodesTag count_octets h tag → HasNoTag (tag ++ more) fault → ⊥
no_fault fault h tag more s found = elim (cases_lt fault.taken (length tag)) [
  | inl lt ↦
      let n = fault.taken + 1 in
      found.dead h (drop n tag) (rw (take-append-le n tag more (omega (arith, lt)), take-append-drop) s)
  | inr ge ↦
      let after = take (fault.taken - length tag) more in
      let place : fault.taken ≡ length tag + (fault.taken - length tag) = omega arith in
      let front : take fault.taken (tag ++ more) ≡ tag ++ after = ap (λ n. take n (tag ++ more)) place ∙ take-append-add tag more (fault.taken - length tag) in
      let b = found.begun in
      no_longer (after ++ b.more) s (rw front at b.whole) (omega (arith, b.some_more, length-append after b.more)) (sym (append_assoc tag after b.more))
]

pub canonical_reads : CanonicalTagsReadBack
canonical_reads head more r s c =
    let tag = canonical_tag head in
    let spelled = tag_spells head r s c in
    record {
      tag = record { some = omega arith; within = omega (arith, length-append tag more); tag = rw (take-append_seam tag more) spelled };
      only = λ h n found.
          let same = one_tag count_octets h head (take n (tag ++ more)) tag (drop n (tag ++ more)) more found.tag spelled (take-append-drop n (tag ++ more)) in
          (same.0, omega (arith, found.within, length-take n (tag ++ more), ap length same.1));
      is_whole =
          λ begun. no_longer (more ++ begun.more) spelled begun.whole (omega (arith, begun.some_more, length-append more begun.more))
          (sym (append_assoc tag more begun.more));
      no_fault = λ fault found. no_fault fault head tag more spelled found;
    }

-- ---- streams

dataset_spells : (d : Dataset) → IsEncodable d → EncodesDataset count_octets d (canonical_dataset d)
dataset_spells d h = record { tag = canonical_tag (head_of d); is_tag = tag_spells (head_of d) h.rec h.set h.few; data_octets = h.octets; parts = refl }

pub stream_spells : CanonicalStreamsAreEncodings
stream_spells [] h = refl
stream_spells (d ∷ ds) h = (canonical_dataset d, canonical_stream ds, dataset_spells d h.0, stream_spells ds h.1, refl)
