-- What one octet completes.
use Rattle.std.proofs.Common.{◌≡◌, ℕ, ◌-◌, ◌<◌, ◌≤◌, ◌⊎◌, List, [], ◌∷◌, ◌++◌, length, flat_map, refl, ap, sym, ◌∙◌, inl, inr, arith, append-nil, append_assoc, length-append}
use Rattle.std.proofs.lemmas.Bool.{cases_lt}
use Rattle.std.proofs.lemmas.List.{append_cancel_left}
use Rattle.arrayvec.specs.ArrayVec.{ArrayVec}
use Rattle.iim_dataset.specs.{Format.Octets.Octets, Laws.CompletesNow, Laws.WhatAnOctetCompletes}
use Rattle.iim_dataset.specs.Format.Datasets.{EncodesTag, count_octets, Head, PartialDataset, InTag, InData, BeginsTag}
use Rattle.iim_dataset.specs.States.Reading.{DatasetEvent, HeadRead, DataOctet, DatasetEnd, events_of_dataset, EmitsEvents, ReachesDatasetState, Tag, Inside}
use Rattle.iim_dataset.proofs.{OneHanding.one_handing, Deaths.tag_goes_on, Deaths.data_go_on}
use Rattle.iim_dataset.proofs.Places.{handed_data, tag_on, head_on, empty_on, data_on, data_end}

-- ---- lists of one event, or of two

one_of : (since later : List DatasetEvent) (event a : DatasetEvent) → since ++ event ∷ later ≡ a ∷ [] → (since ≡ []) × (event ≡ a)
one_of [] later event a e = (refl, cc)
one_of (x ∷ since) later event a e = absurd (omega (arith, ap length e, length-append since (event ∷ later)))

two_of : (since later : List DatasetEvent) (event a b : DatasetEvent) → since ++ event ∷ later ≡ a ∷ b ∷ []
    → ((since ≡ []) × (event ≡ a)) ⊎ ((since ≡ a ∷ []) × (event ≡ b))
two_of [] later event a b e = inl (refl, cc)
two_of (x ∷ since) later event a b e = let rest = one_of since later event b (cc) in let first : x ≡ a = cc in inr ((λ i. first i ∷ rest.0 i), rest.1)

-- ---- one octet

-- The events since earlier ones are those that the octets add.
brought : {octets : List ℕ} (before since later es : List DatasetEvent) (event : DatasetEvent) {b c : PartialDataset}
    → EmitsEvents count_octets octets ((before ++ since) ++ event ∷ later) b → EmitsEvents count_octets octets (before ++ es) c → since ++ event ∷ later ≡ es
brought {octets} before since later es event {b} {c} h k =
    append_cancel_left before _ es
    (sym (append_assoc before since (event ∷ later)) ∙ (one_handing octets ((before ++ since) ++ event ∷ later) (before ++ es) b c h k).0)

completed : (begun : PartialDataset) {octets : List ℕ} (next : ℕ) {before : List DatasetEvent} (since later : List DatasetEvent)
    (event : DatasetEvent) {c : PartialDataset}
    → EmitsEvents count_octets octets before begun
    → EmitsEvents count_octets (octets ++ next ∷ []) ((before ++ since) ++ event ∷ later) c → CompletesNow octets next (before ++ since) event
completed (InTag held) {octets} next {before} since later event a n = by on.0 on.1 on.2
  where
    since_is : (es : List DatasetEvent) {b : PartialDataset} → EmitsEvents count_octets (octets ++ next ∷ []) (before ++ es) b → since ++ event ∷ later ≡ es
    since_is es k = brought before since later es event n k

    on : (h : Head) × (m : List ℕ) × EncodesTag count_octets h (held ++ next ∷ m)
    on = tag_goes_on [] next a.reads n.reads

    at : ArrayVec ℕ
    at = record { items = held }

    leads : ReachesDatasetState count_octets octets before (Tag at)
    leads = record { begun = InTag held; hands = a; keeps = refl }

    first : (h : Head) → EncodesTag count_octets h (held ++ next ∷ []) → (since ≡ []) × (event ≡ HeadRead h) → CompletesNow octets next (before ++ since) event
    first h s is = rw (is.0, is.1) (record { whole = a.whole; held = held; reads = a.reads; tag = s; told = append-nil before ∙ a.handed })

    by : (h : Head) (m : List ℕ) → EncodesTag count_octets h (held ++ next ∷ m) → CompletesNow octets next (before ++ since) event
    by h (x ∷ m) s =
        let begins : BeginsTag count_octets (held ++ next ∷ []) = record { head = h; more = x ∷ m; some_more = omega arith; whole = rw append_assoc s } in
        let none = since_is _ (tag_on at (record { items = held ++ next ∷ [] }) (next ∷ []) begins refl octets before leads).hands in
        absurd (omega (arith, ap length none, length-append since (event ∷ later)))
    by h [] s = elim (cases_lt 0 h.count) [
      | inl some ↦ first h s (one_of since later event (HeadRead h) (since_is _ (head_on at (next ∷ []) h s some octets before leads).hands))
      | inr few ↦ elim (two_of since later event (HeadRead h) DatasetEnd (since_is _ (empty_on at (next ∷ []) h s (omega arith) octets before leads).hands)) [
        | inl one ↦ first h s one
        | inr two ↦ rw (two.0, two.1) (record {
          whole = a.whole;
          head = h;
          given = [];
          completes = inr (held, a.reads, s, omega arith, refl);
          told = ap (λ (es : List DatasetEvent). es ++ HeadRead h ∷ []) (a.handed ∙ append-nil (flat_map events_of_dataset a.whole));
        })
      ]
    ]
completed (InData h taken) {octets} next {before} since later event a n = by (cases_lt 1 left)
  where
    since_is : (es : List DatasetEvent) {b : PartialDataset} → EmitsEvents count_octets (octets ++ next ∷ []) (before ++ es) b → since ++ event ∷ later ≡ es
    since_is es k = brought before since later es event n k

    left : ℕ
    left = h.count - length taken

    octet : Octets (next ∷ [])
    octet = (data_go_on [] next a.reads n.reads, tt)

    leads : ReachesDatasetState count_octets octets before (Inside h left)
    leads = record { begun = InData h taken; hands = a; keeps = (refl, omega (arith, a.reads.is_rest.2)) }

    first : (since ≡ []) × (event ≡ DataOctet next) → CompletesNow octets next (before ++ since) event
    first is = rw (is.0, is.1) (refl, record { whole = a.whole; head = h; taken = taken; reads = a.reads; told = append-nil before ∙ a.handed })

    by : (1 < left) ⊎ (left ≤ 1) → CompletesNow octets next (before ++ since) event
    by (inl more) =
        let on = data_on h left (left - 1) (next ∷ []) octet (omega arith) (omega arith) octets before leads in
        first (one_of since later event (DataOctet next) (since_is _ on.hands))
    by (inr last) =
        let all : left ≡ 1 = omega (arith, a.reads.is_rest.2) in
        elim (two_of since later event (DataOctet next) DatasetEnd (since_is _ (data_end h left (next ∷ []) octet (sym all) octets before leads).hands)) [
          | inl one ↦ first one
          | inr two ↦ rw (two.0, two.1) (record {
            whole = a.whole;
            head = h;
            given = taken ++ next ∷ [];
            completes = inl (taken, a.reads, refl, omega (arith, length-append taken (next ∷ [])));
            told = ap (λ (es : List DatasetEvent). es ++ DataOctet next ∷ []) a.handed ∙ sym (handed_data a.whole h taken (next ∷ []));
          })
        ]

pub what_an_octet_completes : WhatAnOctetCompletes
what_an_octet_completes octets next events event c = rw c.parts (completed c.begun next c.since c.later event c.after (rw c.parts at c.with_next))
