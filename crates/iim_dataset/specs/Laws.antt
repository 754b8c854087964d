-- Statements of the lemmas about octets, datasets, readers and writers. The record at the end has a
-- field for each lemma.
use Rattle.std.specs.Prelude.{◌≡◌, ℕ, List, [], ◌∷◌, ◌++◌, ◌+◌, length, ◌^◌, ◌<◌, ◌≤◌, ◌↔◌}
use Rattle.iim_dataset.specs.Format.Datasets.{Dataset, EncodesTag, count_octets, EncodesDataset, EncodesStream, canonical_tag, canonical_stream, written_number, Head, InTag, InData, ReadsAsDatasets, PartialDataset, SplitsInto, EncodesPartial, CompletesTheData, BeginsTag, BeginsNoTag, HasTag, HasNoTag, HeadFault}
use Rattle.iim_dataset.specs.States.Reading.{DatasetEvent, HeadRead, DataOctet, DatasetEnd, emitted_events, partial_data, EmitsEvents, IsDatasetState, ReachesDatasetState, DatasetPlace, CompletesDatasetEvent, TagIsRejected}
use Rattle.iim_dataset.specs.States.Devices.{Device, FailedOrInterrupted, ReadFailed, WroteAllOf, WroteOnlyPrefixOf, ReadsGave, ReadFailedAfter, WriteFailedAfter}
use Rattle.iim_dataset.specs.Format.Octets.{IsOctet, Octets, number, IsViablePrefix, EndsViablePrefix}
use Rattle.iim_dataset.specs.declared.{device.IoFault.IoFault, head.HeadCause.HeadCause}
use Rattle.std.specs.{Io.KnownBytes.Consumes, List.AllByRecursion}

-- ---- What one octet completes, stated about the octets alone.

-- The next octet is the last one of the tag of this head, after these events.
pub record CompletesHead (octets : List ℕ) (next : ℕ) (events : List DatasetEvent) (head : Head) : Type 0 where
  pub whole : List Dataset
  pub held : List ℕ
  pub reads : ReadsAsDatasets count_octets octets whole (InTag held)
  pub tag : EncodesTag count_octets head (held ++ next ∷ [])
  pub told : events ≡ emitted_events whole (InTag held)

-- The next octet belongs to the data of a dataset, after these events.
pub record CompletesOctet (octets : List ℕ) (next : ℕ) (events : List DatasetEvent) : Type 0 where
  pub whole : List Dataset
  pub head : Head
  pub taken : List ℕ
  pub reads : ReadsAsDatasets count_octets octets whole (InData head taken)
  pub told : events ≡ emitted_events whole (InData head taken)

-- The next octet is the last one of a dataset, after these events, which include its head and all
-- of its data.
pub record CompletesEnd (octets : List ℕ) (next : ℕ) (events : List DatasetEvent) : Type 0 where
  pub whole : List Dataset
  pub head : Head
  pub given : List ℕ
  pub completes : CompletesTheData octets next whole head given
  pub told : events ≡ emitted_events whole (InData head given)

-- The next octet completes this event, after these events.
abbrev pub CompletesNow : List ℕ → ℕ → List DatasetEvent → DatasetEvent → Type 0
CompletesNow octets next events (HeadRead h) = CompletesHead octets next events h
CompletesNow octets next events (DataOctet b) = (b ≡ next) × CompletesOctet octets next events
CompletesNow octets next events DatasetEnd = CompletesEnd octets next events

-- ---- Several calls of one reader or writer.

-- The reads returned exactly these octets, and then a read failed or was interrupted a million
-- times in a row.
abbrev pub FailedAfterReads : Device → Device → List ℕ → Type 0
FailedAfterReads old new octets = Consumes old.octets new.octets octets × FailedOrInterrupted old new

-- Several reads return the same octets as one read of their concatenation, and a fault comes after
-- all of these octets.
pub record ReadsJoin : Type 0 where
  pub none : (a : Device) → ReadsGave a a []
  pub more : (a b c : Device) (xs ys : List ℕ) → ReadsGave a b xs → ReadsGave b c ys → ReadsGave a c (xs ++ ys)
  pub fault : (a b c : Device) (xs : List ℕ) (fault : IoFault) → ReadsGave a b xs → ReadFailed b c fault → FailedAfterReads a c xs
  pub missed : (a b c : Device) (xs : List ℕ) (fault : IoFault) → ReadsGave a b xs → ReadFailed b c fault → ReadFailedAfter a c xs fault

-- Writing texts one after another is the same as writing their concatenation. If the second text
-- stopped, so does the concatenation; if the writer failed after the second text, it failed after
-- both.
pub record WritesJoin : Type 0 where
  pub none : (a : Device) → WroteAllOf a a []
  pub more : (a b c : Device) (xs ys : List ℕ) → WroteAllOf a b xs → WroteAllOf b c ys → WroteAllOf a c (xs ++ ys)
  pub stopped : (a b c : Device) (xs ys : List ℕ) (n : ℕ) → WroteAllOf a b xs → WroteOnlyPrefixOf b c ys n → WroteOnlyPrefixOf a c (xs ++ ys) (length xs + n)
  pub broke : (a b c : Device) (xs ys : List ℕ) → WroteAllOf a b xs → WriteFailedAfter b c ys → WriteFailedAfter a c (xs ++ ys)

-- ---- All encodings.

-- The number is encoded in one or more octets, no more than a count may have, and decoding them
-- returns the number.
pub record IsReadBack (n : ℕ) : Type 0 where
  pub octets : Octets (written_number n)
  pub some : 1 ≤ length (written_number n)
  pub few : length (written_number n) ≤ count_octets
  pub back : number (written_number n) ≡ n

-- `number_bytes` encodes a number in as many octets as a count or a size may have, and decoding
-- them returns the number.
abbrev pub NumbersAreReadBack : Type 0
NumbersAreReadBack = (n : ℕ) → n < 2 ^ 64 → IsReadBack n

-- No tag is a prefix of another tag, so that the tag at the start of octets is determined.
abbrev pub NoTagIsAPrefixOfAnother : Type 0
NoTagIsAPrefixOfAnother = (limit : ℕ) (h k : Head) (o p x y : List ℕ) → EncodesTag limit h o → EncodesTag limit k p → o ++ x ≡ p ++ y
    → (h ≡ k) × (o ≡ p) × (x ≡ y)

-- No encoding of a dataset is a prefix of another one, so that the dataset at the start of octets
-- is determined.
abbrev pub NoDatasetIsAPrefixOfAnother : Type 0
NoDatasetIsAPrefixOfAnother = (limit : ℕ) (d e : Dataset) (o p x y : List ℕ) → EncodesDataset limit d o → EncodesDataset limit e p → o ++ x ≡ p ++ y
    → (d ≡ e) × (o ≡ p) × (x ≡ y)

-- Octets can be split in at most one way into complete datasets and a rest that is shorter than a
-- dataset.
abbrev pub OctetsSplitUniquely : Type 0
OctetsSplitUniquely = (limit : ℕ) (xs : List ℕ) (ds es : List Dataset) (t u : List ℕ) → SplitsInto limit xs ds t → SplitsInto limit xs es u
    → (ds ≡ es) × (t ≡ u)

-- The octets determine the events that a reader emits and the dataset in progress, regardless of
-- how the octets are split into chunks.
abbrev pub OctetsDetermineTheEvents : Type 0
OctetsDetermineTheEvents = (octets : List ℕ) (es fs : List DatasetEvent) (b c : PartialDataset) → EmitsEvents count_octets octets es b → EmitsEvents count_octets octets fs c → (es ≡ fs) × (b ≡ c)

-- The states that satisfy the invariant of a reader are exactly the states that some octets reach.
abbrev pub DatasetStatesAreReached : Type 0
DatasetStatesAreReached = (place : DatasetPlace) → IsDatasetState place ↔ ((octets : List ℕ) × (events : List DatasetEvent) × ReachesDatasetState count_octets octets events place)

-- The octets determine the state that they reach, regardless of how they are split into chunks.
abbrev pub OctetsDetermineTheDatasetState : Type 0
OctetsDetermineTheDatasetState = (octets : List ℕ) (es fs : List DatasetEvent) (p q : DatasetPlace) → ReachesDatasetState count_octets octets es p → ReachesDatasetState count_octets octets fs q → (es ≡ fs) × (p ≡ q)

-- If no tag can continue with an octet, no stream of datasets begins with the octets so far and
-- that octet.
abbrev pub RejectedOctetsDoNotContinue : Type 0
RejectedOctetsDoNotContinue = (octets more : List ℕ) (next : ℕ) (whole : List Dataset) (held : List ℕ) (w : List Dataset) (b : PartialDataset) → ReadsAsDatasets count_octets octets whole (InTag held)
    → BeginsNoTag count_octets (held ++ next ∷ []) → ReadsAsDatasets count_octets (octets ++ next ∷ more) w b → ⊥

-- The octets encode zero or more datasets.
abbrev pub AreDatasets : List ℕ → Type 0
AreDatasets octets = (ds : List Dataset) × EncodesStream count_octets ds octets

-- Octets that were read are a viable prefix: they can be continued to complete datasets by one or
-- more octets.
abbrev pub ReadOctetsContinue : Type 0
ReadOctetsContinue = (octets : List ℕ) (whole : List Dataset) (begun : PartialDataset) → ReadsAsDatasets count_octets octets whole begun
    → (d : Dataset) × (more : List ℕ) × (0 < length more) × EncodesStream count_octets (whole ++ d ∷ []) (octets ++ more)

-- Octets that were read are split into the complete datasets and the partial one in the only
-- possible way.
abbrev pub ReadOctetsSplit : Type 0
ReadOctetsSplit = (octets : List ℕ) (whole : List Dataset) (begun : PartialDataset) → ReadsAsDatasets count_octets octets whole begun
    → (rest : List ℕ) × EncodesPartial count_octets begun rest × SplitsInto count_octets octets whole rest

-- In a partial tag, an octet is the first one that no stream of datasets can have there if and only
-- if no tag begins with the buffered octets and that octet.
abbrev pub OctetsAreRejectedInTheirTag : Type 0
OctetsAreRejectedInTheirTag = (octets : List ℕ) (next : ℕ) (whole : List Dataset) (held : List ℕ) → ReadsAsDatasets count_octets octets whole (InTag held)
    → (BeginsNoTag count_octets (held ++ next ∷ []) ↔ EndsViablePrefix AreDatasets octets next)

-- The events that a reader emitted determine the complete datasets, and the head and the data so
-- far of the partial one.
abbrev pub EventsDetermineTheDatasets : Type 0
EventsDetermineTheDatasets = (ds es : List Dataset) (b c : PartialDataset) → emitted_events ds b ≡ emitted_events es c → (ds ≡ es) × (partial_data b ≡ partial_data c)

-- `HeadReader` rejects exactly the first octet that no stream of datasets can have there. The
-- octets that it consumed are a viable prefix. With an octet that is rejected for Marker or
-- CountForm they are not; with the octet at which the sink stopped they are.
pub record ReadersRejectExactly : Type 0 where
  pub alive : (octets : List ℕ) (events : List DatasetEvent) (place : DatasetPlace) → ReachesDatasetState count_octets octets events place → IsViablePrefix AreDatasets octets
  pub dies : (octets : List ℕ) (events : List DatasetEvent) (place : DatasetPlace) (next : ℕ) (cause : HeadCause) → ReachesDatasetState count_octets octets events place → TagIsRejected place next cause
      → EndsViablePrefix AreDatasets octets next
  pub stops : (octets : List ℕ) (next : ℕ) (events : List DatasetEvent) (event : DatasetEvent) → CompletesDatasetEvent octets next events event → IsViablePrefix AreDatasets (octets ++ next ∷ [])

-- An octet completes the head if it is the last one of a tag, an octet of data, or the end of a
-- dataset if it is the last one of the dataset.
abbrev pub WhatAnOctetCompletes : Type 0
WhatAnOctetCompletes = (octets : List ℕ) (next : ℕ) (events : List DatasetEvent) (event : DatasetEvent) → CompletesDatasetEvent octets next events event → CompletesNow octets next events event

-- A reader of tags can find at the start of these octets only a tag with this head and this length.
pub record ReadsAs (octets : List ℕ) (head : Head) (used : ℕ) : Type 0 where
  pub tag : HasTag octets head used
  pub only : (h : Head) (n : ℕ) → HasTag octets h n → (h ≡ head) × (n ≡ used)
  pub is_whole : BeginsTag count_octets octets → ⊥
  pub no_fault : (fault : HeadFault) → HasNoTag octets fault → ⊥

-- The output of `head_bytes`, with anything after it, is read as a tag with that head and that
-- length.
abbrev pub CanonicalTagsReadBack : Type 0
CanonicalTagsReadBack = (head : Head) (more : List ℕ) → IsOctet head.rec → IsOctet head.set → head.count < 256 ^ count_octets
    → ReadsAs (canonical_tag head ++ more) head (length (canonical_tag head))

-- The dataset can be encoded: its numbers and its data are octets, and a count can encode the
-- length of the data.
pub record IsEncodable (d : Dataset) : Type 0 where
  pub rec : IsOctet d.rec
  pub set : IsOctet d.set
  pub octets : Octets d.octets
  pub few : length d.octets < 256 ^ count_octets

-- The canonical encodings of datasets, joined, are an encoding of the list of datasets.
abbrev pub CanonicalStreamsAreEncodings : Type 0
CanonicalStreamsAreEncodings = (ds : List Dataset) → AllByRecursion IsEncodable ds → EncodesStream count_octets ds (canonical_stream ds)

-- The lemmas about datasets, with a field for each.
pub record DatasetLaws : Type 0 where
  -- lemmas about encodings:
  pub numbers_are_read_back : NumbersAreReadBack
  pub no_tag_is_a_prefix_of_another : NoTagIsAPrefixOfAnother
  pub no_dataset_is_a_prefix_of_another : NoDatasetIsAPrefixOfAnother
  pub octets_split_uniquely : OctetsSplitUniquely
  pub canonical_tags_read_back : CanonicalTagsReadBack
  pub canonical_streams_are_encodings : CanonicalStreamsAreEncodings
  -- lemmas about events and states:
  pub octets_determine_the_events : OctetsDetermineTheEvents
  pub events_determine_the_datasets : EventsDetermineTheDatasets
  pub octets_determine_the_dataset_state : OctetsDetermineTheDatasetState
  pub what_an_octet_completes : WhatAnOctetCompletes
  -- lemmas about continuations:
  pub rejected_octets_do_not_continue : RejectedOctetsDoNotContinue
  pub read_octets_continue : ReadOctetsContinue
  pub read_octets_split : ReadOctetsSplit
  pub octets_are_rejected_in_their_tag : OctetsAreRejectedInTheirTag
  pub readers_reject_exactly : ReadersRejectExactly
