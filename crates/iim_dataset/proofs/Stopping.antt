-- What a prefix of octets reaches, and where a sink stops in it.
use Rattle.std.specs.List.{slice_range}
use Rattle.std.proofs.lemmas.List.{take_rest, map-append, length-take-le, take-take, get_or-take, get_or-append-add}
use Rattle.std.proofs.lemmas.Bool.Decides.{nat_tests}
use Rattle.std.proofs.Common.{◌≡◌, ℕ, ◌⊎◌, inl, inr, ◌==◌, Bool, true, false, if◌then◌else◌, suc, ◌+◌, ◌-◌, ◌<◌, ◌≤◌, List, [], ◌∷◌, ◌++◌, length, take, slice_index, refl, ap, sym, ◌∙◌, arith, append_assoc, append-nil, map, zero, Option, Some, None, get_or-drop, ◌*◌, drop, get_or, length-drop, length-append}
use Rattle.std.proofs.Math.Seq.{take-add, take-append-add}
use Rattle.arrayvec.specs.ArrayVec.{ArrayVec}
use Rattle.iim_dataset.specs.{Format.Octets.Octets, Format.Octets.IsOctet, Format.Datasets.EncodesTag, Format.Datasets.count_octets, Format.Datasets.Head}
use Rattle.iim_dataset.specs.States.Reading.{DatasetEvent, DataOctet, DatasetEnd, HeadRead, between, IsDatasetState, AddsEvents, PassesToSink, DatasetPlace, Tag, Inside, SinkIsAfterStep, DatasetSinkStopsAt, RejectsDatasetsFor, DatasetReaderRejects}
use Rattle.iim_dataset.specs.Steps.{SinkGoesOn, HasWholeDataset, head_events}
use Rattle.iim_dataset.specs.declared.head.HeadCause.{HeadCause}
use Rattle.iim_dataset.specs.declared.fault.Fault.{Fault}
use Rattle.iim_dataset.specs.declared.fault.FaultCause.TheVariants.{Stopped}
use Rattle.iim_dataset.specs.declared.sink.Step.{Step}
use Rattle.iim_dataset.specs.declared.sink.Step.TheVariants.{More, Last}
use Rattle.iim_dataset.proofs.{Fronts.begun_none, Fronts.whole_standard, HeldTags.one_more, HeldTags.unfinished, Each.all_back}
use Rattle.iim_dataset.proofs.Places.{brings_on, tag_on, head_leads, data_on, data_end, octet_on, stops_at, whole_on, head_on, head_first, no_data, place_after_head}
use Rattle.iim_dataset.proofs.OctetLists.{front_are, Fit, are_octets}

pub octet_at : (xs : List ℕ) (k : ℕ) → Octets xs → k < length xs → slice_index xs k < 256
octet_at [] k o lt = absurd (omega (arith, lt))
octet_at (x ∷ xs) zero o lt = o.0
octet_at (x ∷ xs) (suc k) o lt = octet_at xs k o.1 (omega (arith, lt))

-- ---- Where the sink stops.

module _ {D : Type 0} {stops : D → List DatasetEvent → DatasetEvent → D → Type 0} where
  -- The sink stops at an octet of data.
  pub data_stops : {h : Head} {left t : ℕ} {rest : List ℕ} {a b : D} → Octets rest → t < length rest → t < left
      → stops a (map DataOctet (take t rest)) (DataOctet (slice_index rest t)) b → DatasetSinkStopsAt stops (Inside h left) rest t a b
  data_stops {h} {left} {t} {rest} o lt more s =
      let x = slice_index rest t in
      let next = octet_on h (left - t) x (octet_at rest t o lt) (omega (arith, more)) in
      let before =
      data_on h left (left - t) (take t rest) (front_are t rest o) (omega (arith, more)) (omega (arith, more, length-take-le t rest (omega (arith, lt)))) in
      stops_at (Inside h (left - t)) next.1 (map DataOctet (take t rest)) (DataOctet x ∷ next.0) [] next.0 (DataOctet x) before next.2 refl (rw append-nil s)

  -- The sink stops at the end of a dataset, which its last octet completes.
  pub end_stops : {h : Head} {left : ℕ} {rest : List ℕ} {a b : D} → Octets rest → 0 < left → left ≤ length rest
      → stops a (map DataOctet (take left rest) ++ []) DatasetEnd b → DatasetSinkStopsAt stops (Inside h left) rest (left - 1) a b
  end_stops {h} {left} {rest} o some within s =
      let k = left - 1 in
      let x = slice_index rest k in
      let lt : k < length rest = omega (arith, some, within) in
      let all : left ≡ k + 1 = omega (arith, some) in
      let before = data_on h left 1 (take k rest) (front_are k rest o) (omega arith) (omega (arith, some, length-take-le k rest (omega (arith, lt)))) in
      stops_at (Inside h 1) between (map DataOctet (take k rest)) (DataOctet x ∷ DatasetEnd ∷ []) (DataOctet x ∷ []) [] DatasetEnd before
      (data_end h 1 (x ∷ []) (octet_at rest k o lt, tt) refl) refl
      (rw (append-nil, all, one_more [] rest k lt, map-append) at s)

  -- The sink stops at what the last octet of a tag completes.
  pub tag_stops : (held : ArrayVec ℕ) {rest : List ℕ} {h : Head} {k : ℕ} {a b : D} → k < length rest
      → EncodesTag count_octets h (held.items ++ take (k + 1) rest)
      → stops a [] (HeadRead h) b ⊎ ((h.count ≡ 0) × stops a (HeadRead h ∷ []) DatasetEnd b) → DatasetSinkStopsAt stops (Tag held) rest k a b
  tag_stops held {rest} {h} {k} lt s refused =
      let before : ArrayVec ℕ = record { items = held.items ++ take k rest } in
      let on = tag_on held before (take k rest) (unfinished held.items rest h k lt s) refl in
      let leads = head_leads before (slice_index rest k ∷ []) h (rw (one_more held.items rest k lt) at s) in
      elim refused [
        | inl at ↦ let (later, is) = head_first h in stops_at (Tag before) (place_after_head h) [] (head_events h) [] later (HeadRead h) on leads is at
        | inr (none, at) ↦ stops_at (Tag before) (place_after_head h) [] (head_events h) (HeadRead h ∷ []) [] DatasetEnd on leads (no_data h none) at
      ]

  -- After a stop of the sink the state is between datasets, and the fault is a stop.
  pub stopped_at : {goes : D → List DatasetEvent → D → Type 0} {stands : D → Option ℕ → Type 0} {old : DatasetPlace} {octets : List ℕ} {k : ℕ}
      (given : DatasetPlace × Fault) {a b : D} → IsDatasetState given.0 → given.0 ≡ between → given.1 ≡ record { cause = Stopped; used = k } → k < length octets
      → DatasetSinkStopsAt stops old octets k a b
      → DatasetReaderRejects goes stops stands (old, a) octets given.1 (given.0, b)
  stopped_at given is_place none is lt s = record { is_place = is_place; before = rw is lt; refused = rw is (s, none); onward = rw is tt }

-- ---- After a prefix.

module _ {D : Type 0} {goes : D → List DatasetEvent → D → Type 0}
    (joined : (a b c : D) (xs ys : List DatasetEvent) → goes a xs b → goes b ys c → goes a (xs ++ ys) c) (piece : List ℕ) (i k : ℕ) where
  -- the octets after the first i of a piece
  abbrev rest : List ℕ
  rest = slice_range piece i (length piece)

  pub tells_front : {p q r : DatasetPlace} {a b c : D} → PassesToSink goes p (take i piece) q a b → PassesToSink goes q (take k rest) r b c
      → PassesToSink goes p (take (i + k) piece) r a c
  tells_front {p} {q} {r} {a} {b} {c} t u = record {
    more = t.more ++ u.more;
    told = joined a b c t.more u.more t.told u.told;
    brings = rw (take-add i k piece, ← take_rest piece i) (brings_on p q r (take i piece) (take k rest) t.more u.more t.brings u.brings);
  }

  octet_is : slice_index rest k ≡ slice_index piece (i + k)
  octet_is = rw (take_rest piece i) (get_or-drop i piece k 0)

  pub refuses_front : {stops : D → List DatasetEvent → DatasetEvent → D → Type 0}
      → ((a b c : D) (xs ys : List DatasetEvent) (event : DatasetEvent) → goes a xs b → stops b ys event c → stops a (xs ++ ys) event c)
      → (why : Option HeadCause) {p q : DatasetPlace} (r : DatasetPlace) {a b : D} (c : D) → PassesToSink goes p (take i piece) q a b
      → RejectsDatasetsFor goes stops why q rest k r b c → RejectsDatasetsFor goes stops why p piece (i + k) r a c
  refuses_front joined_stop None r {a} {b} c t (s, place) = (
    record {
      more = t.more ++ s.more;
      event = s.event;
      stopped = joined_stop a b c t.more s.more s.event t.told s.stopped;
      completes = λ octets events l.
          rw (take-add i k piece, ← take_rest piece i, ← octet_is)
          (simp append_assoc at (s.completes (octets ++ take i piece) (events ++ t.more) (t.brings octets events l)));
    },
    place,
  )
  refuses_front joined_stop (Some cause) r c t s = (tells_front t s.0, rw (← octet_is) s.1)

-- After a tag the reader is between datasets or inside one.
pub after_tag : (h : Head) (tag : List ℕ) → EncodesTag count_octets h tag → IsDatasetState (place_after_head h)
after_tag h tag s = by_count (h.count == 0) refl
  where
    by_count : (b : Bool) → (h.count == 0) ≡ b → IsDatasetState (if b then between else Inside h h.count)
    by_count true e = begun_none
    by_count false e = (grind (arith, nat_tests, e), omega arith, tag, s)

-- What a sink returns at the end of a dataset determines whether it can continue.
pub after_end : {D : Type 0} (stands : D → Option ℕ → Type 0) (ends : D → Type 0) (step : Step) (place : DatasetPlace) (a : D) → place ≡ between
    → SinkIsAfterStep stands ends a step → SinkGoesOn stands ends step place a
after_end stands ends More place a none s = rw none s
after_end stands ends Last place a none s = (s, none)

-- Five octets that end in a standard count, and the data after them.
pub standard_front : (rest : List ℕ) (high low : ℕ) (xs : List ℕ) → Fit rest → 5 + (high * 256 + low) ≤ length rest → get_or rest 0 0 ≡ 28
    → get_or rest 3 0 < 128
    → high ≡ get_or rest 3 0 → low ≡ get_or rest 4 0 → xs ≡ take (high * 256 + low) (take (length rest - 5) (drop 5 rest))
    → HasWholeDataset rest (record { rec = get_or rest 1 0; set = get_or rest 2 0; count = high * 256 + low }) xs (5 + (high * 256 + low))
standard_front rest high low xs fits within marker form is_high is_low are =
    let n = high * 256 + low in
    let five : xs ≡ take n (drop 5 rest) = rw (take_rest rest 5) at are in
    let parts : take (5 + n) rest ≡ take 5 rest ++ xs = rw five (take-add 5 n rest) in
    record {
      tag = take 5 rest;
      spells = (whole_standard rest fits (omega (arith, within)) marker form n (omega (arith, is_high, is_low))).tag;
      octets = all_back IsOctet (take 5 rest) xs (rw parts at (front_are (5 + n) rest (are_octets rest fits)));
      count = sym (ap length five ∙ length-take-le n (drop 5 rest) (omega (arith, within, length-drop 5 rest)));
      some = omega arith;
      within = within;
      parts = parts;
    }

-- The sink received a complete dataset.
pub tells_whole : {D : Type 0} {goes : D → List DatasetEvent → D → Type 0} {rest xs : List ℕ} {h : Head} {used : ℕ} {a b : D} → HasWholeDataset rest h xs used
    → goes a (HeadRead h ∷ (map DataOctet xs ++ DatasetEnd ∷ [])) b → PassesToSink goes between (take used rest) between a b
tells_whole {xs = xs} {h = h} f told =
    record { more = HeadRead h ∷ (map DataOctet xs ++ DatasetEnd ∷ []); told = told; brings = rw f.parts (whole_on f.tag xs h f.spells f.octets f.count) }

-- ---- Where the sink stops in a complete dataset.

-- The head, and a prefix of the data.
front_on : (tag xs : List ℕ) (h : Head) (t : ℕ) → EncodesTag count_octets h tag → Octets xs → h.count ≡ length xs → t < length xs
    → AddsEvents between (tag ++ take t xs) (HeadRead h ∷ map DataOctet (take t xs)) (Inside h (length xs - t))
front_on tag xs h t s o all lt =
    let few = length-take-le t xs (omega (arith, lt)) in
    brings_on between (Inside h h.count) (Inside h (length xs - t)) tag (take t xs) (HeadRead h ∷ []) (map DataOctet (take t xs))
    (head_on (record { items = [] }) tag h s (omega (arith, all, lt)))
    (data_on h h.count (length xs - t) (take t xs) (front_are t xs o) (omega (arith, lt)) (omega (arith, lt, all, few)))

-- The tag and the data together have `used` octets.
tag_length : {rest xs : List ℕ} {h : Head} {used : ℕ} (f : HasWholeDataset rest h xs used) → used ≡ length f.tag + length xs
tag_length {rest} {xs} {used = used} f = sym (length-take-le used rest f.within) ∙ ap length f.parts ∙ length-append f.tag xs

pub data_within : {rest xs : List ℕ} {h : Head} {used : ℕ} → HasWholeDataset rest h xs used → length xs ≤ used
data_within f = omega (arith, tag_length f)

pub in_front : {rest xs : List ℕ} {h : Head} {used t : ℕ} → HasWholeDataset rest h xs used → t < length xs → used - length xs + t < length rest
in_front f lt = omega (arith, tag_length f, f.within, lt)

pub whole_stops : {D : Type 0} {stops : D → List DatasetEvent → DatasetEvent → D → Type 0} {rest xs : List ℕ} {h : Head} {used : ℕ} (t : ℕ) {a b : D}
    → HasWholeDataset rest h xs used → t < length xs
    → stops a (HeadRead h ∷ map DataOctet (take t xs)) (DataOctet (slice_index xs t)) b → DatasetSinkStopsAt stops between rest (used - length xs + t) a b
whole_stops {rest = rest} {xs} {h} {used} t f lt s =
    let k = used - length xs + t in
    let x = slice_index xs t in
    let here : k ≡ length f.tag + t = omega (arith, tag_length f) in
    let less : k < used = omega (arith, tag_length f, lt) in
    let front : take k rest ≡ f.tag ++ take t xs = sym (take-take k used rest (omega (arith, less))) ∙ rw (f.parts, here) (take-append-add f.tag xs t) in
    let octet : slice_index rest k ≡ x = sym (get_or-take used rest k 0 less) ∙ rw (f.parts, here) (get_or-append-add f.tag xs t 0) in
    let next = octet_on h (length xs - t) x (octet_at xs t f.octets lt) (omega (arith, lt)) in
    stops_at (Inside h (length xs - t)) next.1 (HeadRead h ∷ map DataOctet (take t xs)) (DataOctet x ∷ next.0) [] next.0 (DataOctet x)
    (rw front (front_on f.tag xs h t f.spells f.octets f.count lt)) (rw octet next.2) refl
    (rw append-nil s)
