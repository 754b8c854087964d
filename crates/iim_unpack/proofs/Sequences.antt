-- Whether the last dataset has ended. The states of reader and parts after octets; events in order:
-- the events of octets are in order, and a dataset ends where its head says.
use Rattle.iim_unpack.proofs.Words.{EventsAreInOrder, AreReachedBy, PartialDataset, DataOctet, Dataset, DatasetEnd, DatasetEvent, DatasetPlace, EventsDetermineTheDatasets, EmitsEvents, Head, HeadRead, InData, InTag, IsDoneWith, StoresPartial, IsReachedBy, IsTextOf, ReachesDatasetState, List, None, Parts, ReadsAsDatasets, Some, HasRead, HasReadDatasets, PartsAreAt, Unpacking, [], ap, append-nil, append_assoc, arith, current_head, current_head_of, count_octets, data_of, events_of_dataset, false, flat_map, flat_map-append, emitted_events, head_of, inl, inr, length, length-append, map, nat_eq, ne_eqb, not, object_so_far, refl, section_after, section_of, subst, sym, text_so_far, ℕ, ◌++◌, ◌-◌, ◌<◌, ◌∙◌, ◌∷◌, ◌≡◌, ◌⊎◌}
use Rattle.std.proofs.Common.{is_some, replicate}
use Rattle.iim_fields.specs.States.Standing.{section_at, IsInsideDataset}
use Rattle.iim_unpack.specs.States.Unpacking.{has_ended}
use Rattle.iim_dataset.specs.States.Reading.{partial_data}
use Rattle.std.proofs.lemmas.List.{length-replicate, map-append}
use Rattle.iim_dataset.proofs.Telling.{same_data}

pub ended_by_record : (p : Parts) (ds : List Dataset) → HasReadDatasets p.fields ds → has_ended p ≡ nat_eq (section_after ds) 9
unfolding has_ended
ended_by_record p ds at =
    let none : current_head_of p.fields ≡ None = ap current_head at.between.between in
    let present : section_of p.fields ≡ section_after ds = ap section_at at.checked.at ∙ at.checked.tells.present in
    rw (none, present) (grind arith)

pub unended_inside : (p : Parts) (h : Head) (n : ℕ) → IsInsideDataset p.fields h n → has_ended p ≡ false
unfolding has_ended
unended_inside p h n at =
    let some : current_head_of p.fields ≡ Some h = ap current_head at.head.inside in
    rw some (grind arith)

pub ended_by : (p : Parts) → section_of p.fields ≡ 9 → has_ended p ≡ not (is_some (current_head_of p.fields))
unfolding has_ended
ended_by p nine = rw nine refl

pub unended_by : (p : Parts) (section : ℕ) → section ≡ section_of p.fields → (section ≡ 9 → ⊥) → nat_eq section 9 ≡ has_ended p
unfolding has_ended
unended_by p section is other = let apart = ne_eqb section 9 other in rw (← is, apart) refl

-- ---- the events of a partial dataset

-- What holds of a partial dataset holds of others with the same events, if it holds of tags.
pub by_data : (P : PartialDataset → Type 0) → ((x y : List ℕ) → P (InTag x) → P (InTag y)) → (b c : PartialDataset) → partial_data b ≡ partial_data c → P b
    → P c
by_data P tags (InTag x) (InTag y) same p = tags x y p
by_data P tags (InData h xs) (InData k ys) same p = let pair : (h, xs) ≡ (k, ys) = cc in subst (λ (x : Head × List ℕ). P (InData x.0 x.1)) pair p
by_data P tags b c same p = absurd cc

-- The octets are complete datasets and a partial one, which the reader of tags and the parts have
-- consumed, with this text.
pub record Reached (place : DatasetPlace) (parts : Parts) (p text : List ℕ) : Type 0 where
  pub whole : List Dataset
  pub begun : PartialDataset
  pub reads : ReadsAsDatasets count_octets p whole begun
  pub keeps : StoresPartial place begun
  pub stands : PartsAreAt parts whole begun
  pub is_text : text ≡ text_so_far (object_so_far whole begun)

abbrev There : Parts → List ℕ → List Dataset → PartialDataset → Type 0
There parts text ds begun = PartsAreAt parts ds begun × (text ≡ text_so_far (object_so_far ds begun))

pub reached : EventsDetermineTheDatasets → {place : DatasetPlace} {parts : Parts} {p text : List ℕ} {events : List DatasetEvent}
    → ReachesDatasetState count_octets p events place → AreReachedBy parts events text → Reached place parts p text
reached tell {parts = parts} {text = text} leads led =
    let told = tell led.whole leads.hands.whole led.begun leads.begun (sym led.told ∙ leads.hands.handed) in
    let there = by_data (There parts text leads.hands.whole) (λ x y h. h) led.begun leads.begun told.1
    (subst (λ (ds : List Dataset). There parts text ds led.begun) told.0 (led.stands, led.is_text)) in
    record { whole = leads.hands.whole; begun = leads.begun; reads = leads.hands.reads; keeps = leads.keeps; stands = there.0; is_text = there.1 }

pub text_of : {place : DatasetPlace} {parts : Parts} {p text : List ℕ} → Reached place parts p text → IsTextOf p text
text_of r = (r.whole, r.begun, r.reads, r.is_text)

-- what it has consumed, incomplete or complete
pub reached_of : {u : Unpacking} {p : List ℕ} {a : ℕ} → HasRead u p a ⊎ IsDoneWith u p a → IsReachedBy u p
reached_of (inl at) = at.is_led
reached_of (inr at) = at.is_led

-- some more octets
pub data_more : (ds : List Dataset) (h : Head) (taken run : List ℕ)
    → emitted_events ds (InData h taken) ++ map DataOctet run ≡ emitted_events ds (InData h (taken ++ run))
data_more ds h taken run = simp (append_assoc, map-append)

-- its end
pub end_in_order : (ds : List Dataset) (h : Head) (taken : List ℕ) → length taken ≡ h.count
    → emitted_events ds (InData h taken) ++ DatasetEnd ∷ [] ≡ emitted_events (ds ++ data_of h taken ∷ []) (InTag [])
end_in_order ds h taken whole =
    let same : h ≡ head_of (data_of h taken) = λ i. record { rec = h.rec; set = h.set; count = sym whole i } in
    simp (append_assoc, append-nil, flat_map-append)
    (ap (λ (k : Head). flat_map events_of_dataset ds ++ (HeadRead k ∷ (map DataOctet taken ++ DatasetEnd ∷ []))) same)

-- ---- the events of octets are in order

-- the octets that a partial dataset lacks
abbrev lacking : Head → List ℕ → List ℕ
lacking h taken = replicate (h.count - length taken) 0

filled : (ds : List Dataset) (h : Head) (taken : List ℕ) → length taken < h.count
    → emitted_events ds (InData h taken) ++ (map DataOctet (lacking h taken) ++ DatasetEnd ∷ []) ≡ flat_map events_of_dataset
    (ds ++ data_of h (taken ++ lacking h taken) ∷ [])
filled ds h taken less =
    let all : length (taken ++ lacking h taken) ≡ h.count = omega
    (arith, less, length-append taken (lacking h taken), length-replicate {A = ℕ} (h.count - length taken) 0) in
    rw (← append_assoc (emitted_events ds (InData h taken)) (map DataOctet (lacking h taken)) (DatasetEnd ∷ []), data_more ds h taken (lacking h taken))
    (end_in_order ds h (taken ++ lacking h taken) all ∙ append-nil _)

pub handed_in_order : (octets : List ℕ) (events : List DatasetEvent) (begun : PartialDataset) → EmitsEvents count_octets octets events begun
    → EventsAreInOrder events
handed_in_order octets events (InTag held) hands =
    record { later = []; whole = hands.whole; are = append-nil events ∙ hands.handed ∙ append-nil (flat_map events_of_dataset hands.whole) }
handed_in_order octets events (InData h taken) hands = record {
  later = map DataOctet (lacking h taken) ++ DatasetEnd ∷ [];
  whole = hands.whole ++ data_of h (taken ++ lacking h taken) ∷ [];
  are = ap (λ (es : List DatasetEvent). es ++ (map DataOctet (lacking h taken) ++ DatasetEnd ∷ [])) hands.handed
      ∙ filled hands.whole h taken hands.reads.is_rest.2;
}

-- ---- the end of a dataset

-- the first dataset, and what follows it
first_then : (d : Dataset) (es : List DatasetEvent) → events_of_dataset d ++ es ≡ HeadRead (head_of d) ∷ (map DataOctet d.octets ++ DatasetEnd ∷ es)
first_then d es = ap (λ fs. HeadRead (head_of d) ∷ fs) (append_assoc (map DataOctet d.octets) (DatasetEnd ∷ []) es)

ends_full : (ds : List Dataset) (h : Head) (taken : List ℕ) (later : List DatasetEvent) (whole : List Dataset)
    → flat_map events_of_dataset ds ++ (HeadRead h ∷ (map DataOctet taken ++ DatasetEnd ∷ later)) ≡ flat_map events_of_dataset whole → length taken ≡ h.count
ends_full [] h taken later [] e = absurd cc
ends_full [] h taken later (d ∷ whole) e =
    let both : HeadRead h ∷ (map DataOctet taken ++ DatasetEnd ∷ later) ≡ HeadRead (head_of d)
    ∷ (map DataOctet d.octets ++ DatasetEnd ∷ flat_map events_of_dataset whole) = e ∙ first_then d (flat_map events_of_dataset whole) in
    let heads : h ≡ head_of d = cc in
    let tails : map DataOctet taken ++ DatasetEnd ∷ later ≡ map DataOctet d.octets ++ DatasetEnd ∷ flat_map events_of_dataset whole = cc in
    ap length (same_data taken d.octets later (flat_map events_of_dataset whole) tails).0 ∙ sym (ap (λ (k : Head). k.count) heads)
ends_full (x ∷ ds) h taken later [] e =
    let none : HeadRead (head_of x) ∷ ((map DataOctet x.octets ++ DatasetEnd ∷ []) ++ flat_map events_of_dataset ds)
    ++ (HeadRead h ∷ (map DataOctet taken ++ DatasetEnd ∷ later)) ≡ [] = e in absurd cc
ends_full (x ∷ ds) h taken later (d ∷ whole) e =
    let rest : List DatasetEvent = flat_map events_of_dataset ds ++ (HeadRead h ∷ (map DataOctet taken ++ DatasetEnd ∷ later)) in
    let both : HeadRead (head_of x) ∷ (map DataOctet x.octets ++ DatasetEnd ∷ rest) ≡ HeadRead (head_of d)
    ∷ (map DataOctet d.octets ++ DatasetEnd ∷ flat_map events_of_dataset whole) =
    sym (first_then x rest) ∙ sym (append_assoc (events_of_dataset x) (flat_map events_of_dataset ds) (HeadRead h ∷
    (map DataOctet taken ++ DatasetEnd ∷ later))) ∙ e
    ∙ first_then d (flat_map events_of_dataset whole) in
    let tails : map DataOctet x.octets ++ DatasetEnd ∷ rest ≡ map DataOctet d.octets ++ DatasetEnd ∷ flat_map events_of_dataset whole = cc in
    ends_full ds h taken later whole (same_data x.octets d.octets rest (flat_map events_of_dataset whole) tails).1

-- If the end of a partial dataset is in order, the dataset has as many octets as its head counts.
pub all_received : (events : List DatasetEvent) (ds : List Dataset) (h : Head) (taken : List ℕ) → events ≡ emitted_events ds (InData h taken)
    → EventsAreInOrder (events ++ DatasetEnd ∷ []) → length taken ≡ h.count
all_received events ds h taken told order =
    ends_full ds h taken order.later order.whole
    (sym (append_assoc (flat_map events_of_dataset ds) (HeadRead h ∷ map DataOctet taken) (DatasetEnd ∷ order.later))
    ∙ ap (λ (es : List DatasetEvent). es ++ DatasetEnd ∷ order.later) (sym told)
    ∙ sym (append_assoc events (DatasetEnd ∷ []) order.later)
    ∙ order.are)
