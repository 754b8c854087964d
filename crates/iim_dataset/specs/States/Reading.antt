-- The states of a reader of datasets, the events that it emits, and the octets that it rejects.
use Rattle.std.specs.Prelude.{ℕ, List, [], ◌∷◌, ◌++◌, map, flat_map, Option, Some, None, ◌≡◌, ◌+◌, ◌<◌, ◌≤◌, length, get_or, ◌⊎◌, take, slice_index, Bool, true, false}
use Rattle.iim_dataset.specs.Format.Datasets.{Dataset, head_of, Head, PartialDataset, InTag, InData, EncodesTag, count_octets, ReadsAsDatasets, BeginsTag, BeginsNoTag, CauseOccursAt}
use Rattle.iim_dataset.specs.declared.fault.FaultCause.TheVariants.{Marker, CountForm, Stopped}
use Rattle.iim_dataset.specs.declared.{head.HeadCause.HeadCause, sink.Step.Step, sink.Step.TheVariants.More}
use Rattle.iim_dataset.specs.declared.{sink.Step.TheVariants.Last, fault.Fault.Fault, fault.FaultCause.FaultCause}
pub use Rattle.iim_dataset.specs.declared.place.DatasetPlace.{DatasetPlace, TheVariants.Tag, TheVariants.Inside}
use Rattle.iim_dataset.specs.declared.head.HeadCause.TheVariants as tags

-- an event: a complete head, an octet of data, or the end of a dataset
pub data DatasetEvent : Type 0 where
  HeadRead : Head → DatasetEvent
  DataOctet : ℕ → DatasetEvent
  DatasetEnd : DatasetEvent

-- The events of a complete dataset: its head, its data and its end.
abbrev pub events_of_dataset : Dataset → List DatasetEvent
events_of_dataset d = HeadRead (head_of d) ∷ (map DataOctet d.octets ++ DatasetEnd ∷ [])

-- The events of a partial dataset: none while its tag is incomplete, otherwise its head and its
-- data so far.
abbrev pub partial_events : PartialDataset → List DatasetEvent
partial_events (InTag held) = []
partial_events (InData h taken) = HeadRead h ∷ map DataOctet taken

-- the head and the data so far of the partial dataset, if its tag is complete
abbrev pub partial_data : PartialDataset → Option (Head × List ℕ)
partial_data (InTag held) = None
partial_data (InData h taken) = Some (h, taken)

-- The events of complete datasets and a partial one.
abbrev pub emitted_events : List Dataset → PartialDataset → List DatasetEvent
emitted_events whole begun = flat_map events_of_dataset whole ++ partial_events begun

-- ---- The state of a reader in a stream of datasets.

-- A possible state: the buffered octets are a proper prefix of a tag; or the number of octets of
-- data that remain is from one to the count of the head, and some tag encodes that head.
abbrev pub IsDatasetState : DatasetPlace → Type 0
IsDatasetState (Tag held) = BeginsTag count_octets held.items
IsDatasetState (Inside h left) = (0 < left) × (left ≤ h.count) × (tag : List ℕ) × EncodesTag count_octets h tag

-- the state between datasets
abbrev pub between : DatasetPlace
between = Tag (record { items = [] })

-- the number of octets of data that remain, if the head is complete
abbrev pub to_come : DatasetPlace → Option ℕ
to_come (Tag held) = None
to_come (Inside h left) = Some left

-- the record and the number in the octets of a tag, each 0 until it has been read
abbrev pub current_name : DatasetPlace → ℕ × ℕ
current_name (Tag held) = (get_or held.items 1 0, get_or held.items 2 0)
current_name (Inside h left) = (h.rec, h.set)

-- The state encodes the partial dataset: by the octets of its tag, or by its head and the number of
-- octets of data that remain.
abbrev pub StoresPartial : DatasetPlace → PartialDataset → Type 0
StoresPartial (Tag held) (InTag octets) = held.items ≡ octets
StoresPartial (Tag held) (InData head taken) = ⊥
StoresPartial (Inside h left) (InTag octets) = ⊥
StoresPartial (Inside h left) (InData head taken) = (h ≡ head) × (length taken + left ≡ head.count)

-- The octets so far consist of complete datasets and this partial one, and these are their events.
pub record EmitsEvents (limit : ℕ) (octets : List ℕ) (events : List DatasetEvent) (begun : PartialDataset) : Type 0 where
  pub whole : List Dataset
  pub reads : ReadsAsDatasets limit octets whole begun
  pub handed : events ≡ emitted_events whole begun

-- The octets so far reach this state, and these are their events.
pub record ReachesDatasetState (limit : ℕ) (octets : List ℕ) (events : List DatasetEvent) (place : DatasetPlace) : Type 0 where
  pub begun : PartialDataset
  pub hands : EmitsEvents limit octets events begun
  pub keeps : StoresPartial place begun

-- The octets lead from the old state to the new one and add these events, after any earlier octets.
abbrev pub AddsEvents : DatasetPlace → List ℕ → List DatasetEvent → DatasetPlace → Type 0
AddsEvents old xs more new = (octets : List ℕ) (events : List DatasetEvent) → ReachesDatasetState count_octets octets events old → ReachesDatasetState count_octets (octets ++ xs) (events ++ more) new

-- The octets lead from the old state to the new one, and the sink received the events that they
-- add.
pub record PassesToSink {D : Type 0} (goes : D → List DatasetEvent → D → Type 0) (old : DatasetPlace) (xs : List ℕ) (new : DatasetPlace) (a b : D) : Type 0 where
  pub more : List DatasetEvent
  pub told : goes a more b
  pub brings : AddsEvents old xs more new

-- ---- Rejected octets.

-- the reason why no tag can continue
abbrev pub tag_cause_of : FaultCause → Option HeadCause
tag_cause_of Marker = Some tags.Marker
tag_cause_of CountForm = Some tags.CountForm
tag_cause_of Stopped = None

-- The state is in a tag, and no tag begins with its octets and the next one.
pub record TagIsRejected (place : DatasetPlace) (next : ℕ) (cause : HeadCause) : Type 0 where
  pub held : List ℕ
  pub tag : place ≡ Tag (record { items = held })
  pub dead : BeginsNoTag count_octets (held ++ next ∷ [])
  pub concerns : CauseOccursAt cause (length held)

-- The next octet completes this event, after these events: those of the octets, and those that the
-- next octet completes before this one. It may complete further events.
pub record CompletesDatasetEvent (octets : List ℕ) (next : ℕ) (events : List DatasetEvent) (event : DatasetEvent) : Type 0 where
  pub before : List DatasetEvent
  pub begun : PartialDataset
  pub after : EmitsEvents count_octets octets before begun
  pub since : List DatasetEvent
  pub parts : events ≡ before ++ since
  pub later : List DatasetEvent
  pub next_begun : PartialDataset
  pub with_next : EmitsEvents count_octets (octets ++ next ∷ []) (events ++ event ∷ later) next_begun

-- The sink rejected an event that octet k of the chunk completes.
pub record DatasetSinkStopsAt {D : Type 0} (stops : D → List DatasetEvent → DatasetEvent → D → Type 0) (place : DatasetPlace) (piece : List ℕ) (k : ℕ) (a b : D) : Type 0 where
  pub more : List DatasetEvent
  pub event : DatasetEvent
  pub stopped : stops a more event b
  pub completes : (octets : List ℕ) (events : List DatasetEvent) → ReachesDatasetState count_octets octets events place
      → CompletesDatasetEvent (octets ++ take k piece) (slice_index piece k) (events ++ more) event

-- Octet k of the chunk is rejected. Either no tag can continue with it in the state after the
-- octets before it; or the sink stopped, and the new state is between datasets.
abbrev pub RejectsDatasetsFor : {D : Type 0} → (D → List DatasetEvent → D → Type 0) → (D → List DatasetEvent → DatasetEvent → D → Type 0) → Option HeadCause → DatasetPlace → List ℕ → ℕ → DatasetPlace → D → D → Type 0
RejectsDatasetsFor goes stops None old piece k new a b = DatasetSinkStopsAt stops old piece k a b × (new ≡ between)
RejectsDatasetsFor goes stops (Some cause) old piece k new a b = PassesToSink goes old (take k piece) new a b × TagIsRejected new (slice_index piece k) cause

abbrev pub RejectsDatasetOctet : {D : Type 0} → (D → List DatasetEvent → D → Type 0) → (D → List DatasetEvent → DatasetEvent → D → Type 0) → DatasetPlace → List ℕ → Fault → DatasetPlace → D → D → Type 0
RejectsDatasetOctet goes stops old piece fault new a b = RejectsDatasetsFor goes stops (tag_cause_of fault.cause) old piece fault.used new a b

-- If no tag can continue with the rejected octet, the sink still accepts what comes next.
abbrev pub SinkStillAccepts : {D : Type 0} → (D → Option ℕ → Type 0) → Option HeadCause → DatasetPlace → D → Type 0
SinkStillAccepts stands None place sink = Unit {0}
SinkStillAccepts stands (Some cause) place sink = stands sink (to_come place)

-- ---- sinks

-- After the sink returned this at the end of a dataset, it accepts a head, or has called that
-- dataset the last one.
abbrev pub SinkIsAfterStep : {D : Type 0} → (D → Option ℕ → Type 0) → (D → Type 0) → D → Step → Type 0
SinkIsAfterStep stands ends sink More = stands sink None
SinkIsAfterStep stands ends sink Last = ends sink

-- All of the octets were consumed, or the sink has called a complete dataset the last one.
abbrev pub ConsumedAllOrEnded : {D : Type 0} → (D → Option ℕ → Type 0) → (D → Type 0) → DatasetPlace → D → ℕ → ℕ → Type 0
ConsumedAllOrEnded stands ends place sink all used = ((used ≡ all) × stands sink (to_come place)) ⊎ (ends sink × (place ≡ between))

-- ---- the reader

-- The model of a reader: its state, and whether a call has returned an error.
pub record Reader : Type 0 where
  pub place : DatasetPlace
  pub failed : Bool

-- No call has returned an error.
abbrev pub DatasetReaderAccepts : Reader → Type 0
DatasetReaderAccepts reader = reader.failed ≡ false

abbrev pub DatasetReaderFailed : Reader → Type 0
DatasetReaderFailed reader = reader.failed ≡ true

-- The octets so far reach the state of the reader, and these are their events.
abbrev pub DatasetReaderHasRead : Reader → List ℕ → List DatasetEvent → Type 0
DatasetReaderHasRead reader octets events = ReachesDatasetState count_octets octets events reader.place

-- All of the octets were consumed, or those up to the end of the last dataset. (The arguments are
-- state and sink, before and after.)
pub record DatasetReaderConsumes {D : Type 0} (goes : D → List DatasetEvent → D → Type 0) (stands : D → Option ℕ → Type 0) (ends : D → Type 0) (old : DatasetPlace × D) (octets : List ℕ) (new : DatasetPlace × D) (used : ℕ) : Type 0 where
  pub is_place : IsDatasetState new.0
  pub within : used ≤ length octets
  pub told : PassesToSink goes old.0 (take used octets) new.0 old.1 new.1
  pub onward : ConsumedAllOrEnded stands ends new.0 new.1 (length octets) used

-- One of the octets was rejected: no tag can continue with it, or the sink stopped at what it
-- completes. (The arguments are state and sink, before and after.)
pub record DatasetReaderRejects {D : Type 0} (goes : D → List DatasetEvent → D → Type 0) (stops : D → List DatasetEvent → DatasetEvent → D → Type 0) (stands : D → Option ℕ → Type 0) (old : DatasetPlace × D) (octets : List ℕ) (fault : Fault) (new : DatasetPlace × D) : Type 0 where
  pub is_place : IsDatasetState new.0
  pub before : fault.used < length octets
  pub refused : RejectsDatasetOctet goes stops old.0 octets fault new.0 old.1 new.1
  pub onward : SinkStillAccepts stands (tag_cause_of fault.cause) new.0 new.1
