-- The readers at a ticket's position.
use Rattle.std.specs.Prelude.{ℕ, ◌≡◌, ◌==◌, if◌then◌else◌, Bool, true, List, Option, IsSome}
use Rattle.iim_dataset.specs.{States.Reading.between, States.Reading.DatasetReaderAccepts, Format.Datasets.Dataset}
use Rattle.iim_dataset.specs.declared.place.DatasetPlace.{DatasetPlace, TheVariants.Tag, TheVariants.Inside}
use Rattle.iim_places.specs.States.Possible.{head_of_numbers, LayersReach, partial_subfile_of, object_after, record_datasets, IsSmallPlace, AreHeadsWithin}
use Rattle.iim_places.specs.Format.Tickets.{Phase, PartialTag, PartialData, AllEnded, Place}
use Rattle.iim_places.specs.{Laws.contents_of, Format.TicketForm.Contents, declared.ticket.possible.Readers.Readers}
use Rattle.iim_places.specs.{States.Restored.counted_octets, States.Restored.counted_fields, Format.Streams.is_non_empty}
use Rattle.iim_fields.specs.States.Standing.{FieldsPlace, HasReadDatasets, IsReadingDataset}
use Rattle.iim_object.specs.Format.Objects as objects
use Rattle.iim_object.specs.States.Reading as reading
use Rattle.iim_object.specs.{States.Reading.PlaceHasNumbers, States.Reading.IsPossible, declared.reading.state.State.State}
use Rattle.wire_message.specs.States.Reading as wire
use Rattle.wire_message.specs.{States.Reading.ReachesSavedState, declared.place.Place.Place as Message}
use Rattle.iim_fields.specs.declared.limits.Limits.{Limits}

-- the state of the reader of tags before the next octet
abbrev pub tag_place : ℕ → Phase → DatasetPlace
tag_place section (PartialTag held) = Tag (record { items = held })
tag_place section (PartialData set count left taken) = Inside (head_of_numbers section set count) left
tag_place section AllEnded = between

-- whether an octet was received: after a head, or within a tag
abbrev pub has_received_octet : ℕ → Phase → Bool
has_received_octet section (PartialTag held) = if section == 0 then is_non_empty held else true
has_received_octet section (PartialData set count left given) = true
has_received_octet section AllEnded = true

-- ---- the readers at a position

-- The reader of records has consumed the complete datasets and then the data in progress.
abbrev pub RecordsReaderIsAt : FieldsPlace → ℕ → Phase → List Dataset → Type 0
RecordsReaderIsAt fields section (PartialTag held) ds = HasReadDatasets fields ds
RecordsReaderIsAt fields section (PartialData set count left given) ds = IsReadingDataset fields ds (head_of_numbers section set count) given
RecordsReaderIsAt fields section AllEnded ds = HasReadDatasets fields ds

-- The reader of the object is in every state with these numbers, octets and heads from which the
-- layer can continue.
abbrev pub ObjectReaderIsAt : Option State → Place → Type 0
ObjectReaderIsAt reader place = (p : objects.Place) → PlaceHasNumbers place.numbers place.taken (partial_subfile_of place.section place.phase) place.heads p
    → IsPossible (object_after place.section place.phase place.taken p) → reading.ObjectReaderStandsAt reader (object_after place.section place.phase place.taken p)

-- The reader of the message is in the state after all octets that reach the position.
abbrev pub MessageReaderIsAt : Option Message → Place → Type 0
MessageReaderIsAt reader place = (octets text : List ℕ) → ReachesSavedState octets text place.message → wire.MessageReaderHasRead reader octets text

-- ---- the parts of a ticket

-- The parts encode a position that each layer can reach, and its heads are within the limits.
pub record LayersReachWithin (limits : Limits) (s : Contents) : Type 0 where
  pub place : Place
  pub parts : contents_of s.version place ≡ s
  pub leads : LayersReach place
  pub within : AreHeadsWithin limits place

-- The reader of records is in the state of each position with these parts that each layer can
-- reach.
abbrev pub FieldsReaderIsAt : Contents → FieldsPlace → Type 0
FieldsReaderIsAt s records = (place : Place) → contents_of s.version place ≡ s → (l : LayersReach place)
    → RecordsReaderIsAt records place.section place.phase (record_datasets place l.numbers)

-- No position with these parts can be reached in each layer under the size limits of the version.
abbrev pub IsUnreachableInVersion : Contents → Type 0
IsUnreachableInVersion s = (place : Place) → contents_of s.version place ≡ s → LayersReach place → (s.version ≡ 1 → IsSmallPlace place) → ⊥

-- The readers are at the position of the parts, and each layer can reach it.
pub record ReadersAreAt (s : Contents) (r : Readers) : Type 0 where
  pub place : Place
  pub parts : contents_of s.version place ≡ s
  pub leads : LayersReach place
  pub calls : DatasetReaderAccepts r.tags
  pub tags_are : r.tags.place ≡ tag_place place.section place.phase
  pub some_object : IsSome r.object
  pub some_message : IsSome r.message
  pub object_is : ObjectReaderIsAt r.object place
  pub message_is : MessageReaderIsAt r.message place
  pub octets_are : r.octets ≡ counted_octets place
  pub fields_are : r.fields ≡ counted_fields place
  pub partial_is : r.begun ≡ has_received_octet place.section place.phase

-- The readers are at the position of the parts, and each layer can reach it under the size limits
-- of the version.
pub record ReadersAreAtIn (s : Contents) (r : Readers) : Type 0 where
  pub at : ReadersAreAt s r
  pub small : s.version ≡ 1 → IsSmallPlace at.place
