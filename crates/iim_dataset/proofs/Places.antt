-- What octets do to the state of a reader, and which octets reach a state.
use Rattle.std.proofs.Common.{◌≡◌, ℕ, ◌+◌, ◌-◌, ◌<◌, ◌==◌, Bool, true, false, if◌then◌else◌, List, [], ◌∷◌, ◌++◌, length, take, slice_index, refl, ap, sym, ◌∙◌, arith, append_assoc, append-nil, length-append, map, flat_map, inl, inr, replicate, subst}
use Rattle.std.proofs.lemmas.Bool.{cases_lt, eq-eqb}
use Rattle.std.proofs.lemmas.Bool.Decides.{nat_tests}
use Rattle.std.proofs.lemmas.List.{map-append, length-replicate}
use Rattle.std.proofs.lemmas.List.Concat.{flat_map-append}
use Rattle.arrayvec.specs.ArrayVec.{ArrayVec}
use Rattle.iim_dataset.specs.{Format.Octets.Octets, Steps.head_events, Laws.DatasetStatesAreReached, Laws.OctetsDetermineTheDatasetState}
use Rattle.iim_dataset.specs.Format.Datasets.{Dataset, EncodesTag, count_octets, Head, PartialDataset, InTag, InData, EncodesPartial, ReadsAsDatasets, BeginsTag}
use Rattle.iim_dataset.specs.States.Reading.{DatasetEvent, HeadRead, DataOctet, DatasetEnd, events_of_dataset, emitted_events, ReachesDatasetState, EmitsEvents, StoresPartial, AddsEvents, between, IsDatasetState, DatasetPlace, Tag, Inside, DatasetSinkStopsAt}
use Rattle.iim_dataset.proofs.{Spelled.with_data, Spelled.stream_more, Spelled.held_of, Spelled.whole_read, OctetLists.octets_append, OctetLists.zeros_are}
use Rattle.iim_dataset.proofs.OneHanding.{one_handing}

-- ---- The partial dataset, and its events.

-- The partial dataset continues.
hands_more : {octets : List ℕ} (ys : List ℕ) {events : List DatasetEvent} (more : List DatasetEvent) {b c : PartialDataset}
    → (h : EmitsEvents count_octets octets events b) → EncodesPartial count_octets c (h.reads.rest ++ ys)
    → emitted_events h.whole c ≡ emitted_events h.whole b ++ more → EmitsEvents count_octets (octets ++ ys) (events ++ more) c
hands_more ys more h begun told =
    let r = h.reads in
    let parts = ap (λ l. l ++ ys) r.parts ∙ append_assoc r.front r.rest ys in
    record {
      whole = h.whole;
      reads = record { front = r.front; rest = r.rest ++ ys; is_front = r.is_front; is_rest = begun; parts = parts };
      handed = ap (λ es. es ++ more) h.handed ∙ sym told;
    }

-- A dataset ends.
hands_end : {octets : List ℕ} (ys : List ℕ) {events : List DatasetEvent} (more : List DatasetEvent) {b : PartialDataset}
    → (hands : EmitsEvents count_octets octets events b) (h : Head) (tag xs : List ℕ) → EncodesTag count_octets h tag → Octets xs
    → length xs ≡ h.count → hands.reads.rest ++ ys ≡ tag ++ xs
    → emitted_events hands.whole b ++ more ≡ flat_map events_of_dataset hands.whole ++ (HeadRead h ∷ (map DataOctet xs ++ DatasetEnd ∷ []))
    → EmitsEvents count_octets (octets ++ ys) (events ++ more) (InTag [])
hands_end {octets} ys more hands h tag xs s o count rest told =
    let d : Dataset = record { rec = h.rec; set = h.set; octets = xs } in
    let r = hands.reads in
    let joined : octets ++ ys ≡ r.front ++ (tag ++ xs) = ap (λ l. l ++ ys) r.parts ∙ (append_assoc r.front r.rest ys ∙ ap (λ l. r.front ++ l) rest) in
    let same : HeadRead h ∷ (map DataOctet xs ++ DatasetEnd ∷ []) ≡ events_of_dataset d =
    (λ i. HeadRead (record { rec = h.rec; set = h.set; count = sym count i }) ∷ (map DataOctet xs ++ DatasetEnd ∷ [])) in
    let whole : flat_map events_of_dataset (hands.whole ++ d ∷ []) ++ [] ≡ flat_map events_of_dataset hands.whole ++ events_of_dataset d = simp
    (flat_map-append, append-nil) in
    record {
      whole = hands.whole ++ d ∷ [];
      reads =
          whole_read (octets ++ ys) (hands.whole ++ d ∷ [])
          (rw joined (stream_more hands.whole r.front d (tag ++ xs) r.is_front (with_data h tag xs s o count)));
      handed = ap (λ es. es ++ more) hands.handed ∙ (told ∙ (ap (λ es. flat_map events_of_dataset hands.whole ++ es) same ∙ sym whole));
    }

pub handed_data : (whole : List Dataset) (h : Head) (taken ys : List ℕ)
    → emitted_events whole (InData h (taken ++ ys)) ≡ emitted_events whole (InData h taken) ++ map DataOctet ys
handed_data whole h taken ys = simp (map-append, append_assoc)

-- ---- What a state stores.

pub tag_held : (held : ArrayVec ℕ) {octets : List ℕ} {events : List DatasetEvent} → ReachesDatasetState count_octets octets events (Tag held)
    → EmitsEvents count_octets octets events (InTag held.items)
tag_held held {octets} {events} l = by l.begun l.hands l.keeps
  where
    by : (begun : PartialDataset) → EmitsEvents count_octets octets events begun → StoresPartial (Tag held) begun → EmitsEvents count_octets octets events
        (InTag held.items)
    by (InTag xs) h k = rw k h
    by (InData h taken) hands k = absurd k

pub data_kept : (h : Head) (left : ℕ) {octets : List ℕ} {events : List DatasetEvent} → ReachesDatasetState count_octets octets events (Inside h left)
    → (taken : List ℕ) × EmitsEvents count_octets octets events (InData h taken) × (length taken + left ≡ h.count)
data_kept h left {octets} {events} l = by l.begun l.hands l.keeps
  where
    by : (begun : PartialDataset) → EmitsEvents count_octets octets events begun → StoresPartial (Inside h left) begun
        → (taken : List ℕ) × EmitsEvents count_octets octets events (InData h taken) × (length taken + left ≡ h.count)
    by (InTag xs) hands k = absurd k
    by (InData g taken) hands k = (taken, rw k.0 hands, rw k.0 k.1)

-- ---- From state to state.

-- The start of a stream is the state between datasets.
pub begins : ReachesDatasetState count_octets [] [] between
begins = record { begun = InTag []; hands = record { whole = []; reads = whole_read [] [] refl; handed = refl }; keeps = refl }

-- No octets change no state.
pub stays : (p : DatasetPlace) → AddsEvents p [] [] p
stays p octets events l = rw (append-nil octets, append-nil events) l

-- Octets from one state to another, and from there to a third, are octets from the first to the
-- third.
pub brings_on : (p q r : DatasetPlace) (xs ys : List ℕ) (es fs : List DatasetEvent) → AddsEvents p xs es q → AddsEvents q ys fs r → AddsEvents p (xs ++ ys)
    (es ++ fs) r
brings_on p q r xs ys es fs f g octets events l =
    rw (← append_assoc octets xs ys, ← append_assoc events es fs) (g (octets ++ xs) (events ++ es) (f octets events l))

-- Octets of a tag that stays partial.
pub tag_on : (held then_held : ArrayVec ℕ) (ys : List ℕ) → BeginsTag count_octets (held.items ++ ys) → then_held.items ≡ held.items ++ ys
    → AddsEvents (Tag held) ys [] (Tag then_held)
tag_on held then_held ys b e octets events l =
    let t = tag_held held l in
    let hands = hands_more ys [] t (held_of b (ap (λ l. l ++ ys) t.reads.is_rest.0)) (sym (append-nil (emitted_events t.whole (InTag held.items)))) in
    record { begun = InTag (held.items ++ ys); hands = hands; keeps = e }

-- The end of a tag.
pub head_on : (held : ArrayVec ℕ) (ys : List ℕ) (h : Head) → EncodesTag count_octets h (held.items ++ ys) → 0 < h.count
    → AddsEvents (Tag held) ys (HeadRead h ∷ []) (Inside h h.count)
head_on held ys h s some octets events l =
    let t = tag_held held l in
    let parts : t.reads.rest ++ ys ≡ (held.items ++ ys) ++ [] = ap (λ l. l ++ ys) t.reads.is_rest.0 ∙ sym (append-nil (held.items ++ ys)) in
    let more = hands_more ys (HeadRead h ∷ []) t in
    record { begun = InData h []; hands = more (held.items ++ ys, s, some, tt, parts) (simp append-nil); keeps = (refl, omega arith) }

pub empty_on : (held : ArrayVec ℕ) (ys : List ℕ) (h : Head) → EncodesTag count_octets h (held.items ++ ys) → h.count ≡ 0
    → AddsEvents (Tag held) ys (HeadRead h ∷ DatasetEnd ∷ []) between
empty_on held ys h s none octets events l =
    let t = tag_held held l in
    let parts : t.reads.rest ++ ys ≡ (held.items ++ ys) ++ [] = ap (λ l. l ++ ys) t.reads.is_rest.0 ∙ sym (append-nil (held.items ++ ys)) in
    let ended = hands_end ys (HeadRead h ∷ DatasetEnd ∷ []) t h (held.items ++ ys) [] s tt (sym none) parts in
    record { begun = InTag []; hands = ended (simp append-nil); keeps = refl }

-- The head is the first event of a complete tag.
pub head_first : (h : Head) → (later : List DatasetEvent) × (head_events h ≡ HeadRead h ∷ later)
head_first h = by_count (h.count == 0)
  where
    by_count : (b : Bool) → (later : List DatasetEvent) × ((if b then HeadRead h ∷ DatasetEnd ∷ [] else HeadRead h ∷ []) ≡ HeadRead h ∷ later)
    by_count true = (DatasetEnd ∷ [], refl)
    by_count false = ([], refl)

-- the state after the last octet of a tag
abbrev pub place_after_head : Head → DatasetPlace
place_after_head h = if h.count == 0 then between else Inside h h.count

pub head_leads : (held : ArrayVec ℕ) (ys : List ℕ) (h : Head) → EncodesTag count_octets h (held.items ++ ys)
    → AddsEvents (Tag held) ys (head_events h) (place_after_head h)
head_leads held ys h s = by_count (h.count == 0) refl
  where
    by_count : (b : Bool) → (h.count == 0) ≡ b
        → AddsEvents (Tag held) ys (if b then HeadRead h ∷ DatasetEnd ∷ [] else HeadRead h ∷ []) (if b then between else Inside h h.count)
    by_count true e = empty_on held ys h s (grind (arith, nat_tests, e))
    by_count false e = head_on held ys h s (grind (arith, nat_tests, e))

-- Data that stay incomplete.
pub data_on : (h : Head) (left n : ℕ) (ys : List ℕ) → Octets ys → 0 < n → n + length ys ≡ left → AddsEvents (Inside h left) ys (map DataOctet ys) (Inside h n)
data_on h left n ys o some all octets events l =
    let (taken, hands, count) = data_kept h left l in
    let (tag, s, few, os, parts) = hands.reads.is_rest in
    let len = length-append taken ys in
    record {
      begun = InData h (taken ++ ys);
      hands =
          hands_more ys (map DataOctet ys) hands
          (tag, s, omega (arith, count, all, some, len), octets_append taken ys os o, ap (λ l. l ++ ys) parts ∙ append_assoc tag taken ys)
          (handed_data hands.whole h taken ys);
      keeps = (refl, omega (arith, count, all, len));
    }

-- The last data of a dataset.
pub data_end : (h : Head) (left : ℕ) (ys : List ℕ) → Octets ys → length ys ≡ left → AddsEvents (Inside h left) ys (map DataOctet ys ++ DatasetEnd ∷ []) between
data_end h left ys o all octets events l =
    let (taken, hands, count) = data_kept h left l in
    let (tag, s, few, os, parts) = hands.reads.is_rest in
    let ended =
    hands_end ys (map DataOctet ys ++ DatasetEnd ∷ []) hands h tag (taken ++ ys) s (octets_append taken ys os o)
    (omega (arith, count, all, length-append taken ys)) (ap (λ l. l ++ ys) parts ∙ append_assoc tag taken ys) (simp (map-append, append_assoc)) in
    record { begun = InTag []; hands = ended; keeps = refl }

-- A complete dataset.
pub whole_on : (tag xs : List ℕ) (h : Head) → EncodesTag count_octets h tag → Octets xs → h.count ≡ length xs
    → AddsEvents between (tag ++ xs) (HeadRead h ∷ (map DataOctet xs ++ DatasetEnd ∷ [])) between
whole_on tag [] h s o all octets events l = rw append-nil (empty_on (record { items = [] }) tag h s all octets events l)
whole_on tag (x ∷ xs) h s o all octets events l =
    brings_on between (Inside h h.count) between tag (x ∷ xs) (HeadRead h ∷ []) (map DataOctet (x ∷ xs) ++ DatasetEnd ∷ [])
    (head_on (record { items = [] }) tag h s (omega (arith, all))) (data_end h h.count (x ∷ xs) o (sym all)) octets events l

-- One octet of data, and what it completes.
pub octet_on : (h : Head) (left b : ℕ) → b < 256 → 0 < left → (later : List DatasetEvent) × (next : DatasetPlace)
    × AddsEvents (Inside h left) (b ∷ []) (DataOctet b ∷ later) next
octet_on h left b o some = elim (cases_lt 1 left) [
  | inl more ↦ ([], Inside h (left - 1), data_on h left (left - 1) (b ∷ []) (o, tt) (omega (arith, more)) (omega (arith, more)))
  | inr last ↦ (DatasetEnd ∷ [], between, data_end h left (b ∷ []) (o, tt) (omega (arith, last, some)))
]

-- ---- Where the sink stops.

-- The octets before octet k reach a state, and from there octet k completes events, of which the
-- sink rejected one.
pub stops_at : {D : Type 0} {stops : D → List DatasetEvent → DatasetEvent → D → Type 0} {p : DatasetPlace} (q r : DatasetPlace) {piece : List ℕ} {k : ℕ}
    (es fs mine later : List DatasetEvent) (event : DatasetEvent) {a b : D} → AddsEvents p (take k piece) es q → AddsEvents q (slice_index piece k ∷ []) fs r
    → fs ≡ mine ++ event ∷ later → stops a (es ++ mine) event b → DatasetSinkStopsAt stops p piece k a b
stops_at q r {piece} {k} es fs mine later event f g parts s = record {
  more = es ++ mine;
  event = event;
  stopped = s;
  completes = λ octets events l.
      let m = f octets events l in
      let n = g (octets ++ take k piece) (events ++ es) m in record {
        before = events ++ es;
        begun = m.begun;
        after = m.hands;
        since = mine;
        parts = sym (append_assoc events es mine);
        later = later;
        next_begun = n.begun;
        with_next = simp append_assoc (simp append_assoc at (rw parts at n.hands));
      };
}

-- The head of a dataset without data completes it.
pub no_data : (h : Head) → h.count ≡ 0 → head_events h ≡ HeadRead h ∷ DatasetEnd ∷ []
no_data h none = rw (eq-eqb h.count 0 none) refl

-- ---- Some octets reach each state that satisfies the invariant.

reached : (place : DatasetPlace) → IsDatasetState place → (octets : List ℕ) × (events : List DatasetEvent)
    × ReachesDatasetState count_octets octets events place
reached (Tag held) is =
    let reads : ReadsAsDatasets count_octets held.items [] (InTag held.items) =
    record { front = []; rest = held.items; is_front = refl; is_rest = held_of is refl; parts = refl } in
    (held.items, [], record { begun = InTag held.items; hands = record { whole = []; reads = reads; handed = refl }; keeps = refl })
reached (Inside h left) (some, within, tag, s) =
    let zeros = replicate (h.count - left) 0 in
    let count : length zeros ≡ h.count - left = length-replicate (h.count - left) 0 in
    let begun : EncodesPartial count_octets (InData h zeros) (tag ++ zeros) = (tag, s, omega (arith, count, some, within), zeros_are (h.count - left), refl) in
    let reads : ReadsAsDatasets count_octets (tag ++ zeros) [] (InData h zeros) =
    record { front = []; rest = tag ++ zeros; is_front = refl; is_rest = begun; parts = refl } in (
      tag ++ zeros,
      emitted_events [] (InData h zeros),
      record { begun = InData h zeros; hands = record { whole = []; reads = reads; handed = refl }; keeps = (refl, omega (arith, count, within)) },
    )

-- ---- Octets reach only states that satisfy the invariant.

led : (place : DatasetPlace) (octets : List ℕ) (events : List DatasetEvent) → ReachesDatasetState count_octets octets events place → IsDatasetState place
led (Tag held) octets events l =
    let b = (tag_held held l).reads.is_rest in
    record { head = b.1; more = b.4.0; some_more = b.4.1; whole = subst (EncodesTag count_octets b.1) (sym b.4.2) b.3 }
led (Inside h left) octets events l =
    let t = data_kept h left l in
    let b = t.1.reads.is_rest in
    (omega (arith, b.2, t.2), omega (arith, t.2), b.0, b.1)

pub dataset_states_are_reached : DatasetStatesAreReached
dataset_states_are_reached place = (reached place, λ l. led place l.0 l.1 l.2)

-- ---- The state is determined.

same_place : (begun : PartialDataset) (p q : DatasetPlace) → StoresPartial p begun → StoresPartial q begun → p ≡ q
same_place (InTag octets) (Tag a) (Tag b) h k = λ i. Tag (record { items = (h ∙ sym k) i })
same_place (InTag octets) (Tag a) (Inside g n) h k = absurd k
same_place (InTag octets) (Inside g n) q h k = absurd h
same_place (InData head taken) (Tag a) q h k = absurd h
same_place (InData head taken) (Inside g n) (Tag b) h k = absurd k
same_place (InData head taken) (Inside g n) (Inside f m) h k =
    let heads : g ≡ f = h.0 ∙ sym k.0 in
    let left : n ≡ m = omega (arith, h.1, k.1) in
    λ i. Inside (heads i) (left i)

pub lead_to_one_place : OctetsDetermineTheDatasetState
lead_to_one_place octets es fs p q a b =
    let same = one_handing octets es fs a.begun b.begun a.hands b.hands in
    (same.0, same_place b.begun p q (rw (same.1) at a.keeps) b.keeps)
