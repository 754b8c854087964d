-- How an intake and an unpacker proceed, and the ticket of the readers' states. (Private to
-- proofs.)
use Rattle.std.specs.Prelude.{◌≡◌, ℕ, ◌≤◌, ◌⊎◌, List, [], length, take, ◌-◌, ◌==◌, if◌then◌else◌, sum, Option, true, false, slice_index, Some, None}
use Rattle.wire_story.specs.Format.Texts as story
use Rattle.iim_unpack.specs.States.Unpacking.{Unpacking, HasRead, IsDoneWith, limits_in, has_ended, Parts}
use Rattle.iim_unpack.specs.RouterSteps.{PartsAreBetween, PartsEmit, PartsReject, Takes}
use Rattle.iim_unpack.specs.declared.intake.IntakeFault.{IntakeFault, TheVariants.Read, TheVariants.Interrupted}
use Rattle.iim_places.specs.{Format.Open.Delivers, declared.fault.TokenFault.TokenFault, declared.refusal.Cause.Cause}
use Rattle.iim_places.specs.Format.Tickets.{Phase, PartialTag, PartialData, AllEnded, ticket_of}
use Rattle.iim_dataset.specs.{Format.Datasets.Dataset, declared.device.IoFault.IoFault, declared.head.Head.Head}
use Rattle.iim_dataset.specs.{declared.head.HeadCause.HeadCause}
use Rattle.iim_dataset.specs.States.Reading.{PassesToSink, to_come, current_name, Reader, DatasetSinkStopsAt, TagIsRejected, ConsumedAllOrEnded, DatasetReaderAccepts}
use Rattle.iim_dataset.specs.declared.place.DatasetPlace.{DatasetPlace, DatasetPlace as Place}
use Rattle.iim_dataset.specs.declared.place.DatasetPlace.TheVariants.{Tag, Inside}
use Rattle.iim_fields.specs.{Format.Causes.section_after, declared.limits.Limits.Limits}
use Rattle.iim_fields.specs.States.Standing as records
use Rattle.iim_object.specs.Format.Objects as object_places
use Rattle.iim_object.specs.States.Reading as objects
use Rattle.iim_object.specs.States.Reading.{stated_numbers}
use Rattle.wire_message.specs.{States.Reading.ReaderHasSavedState, declared.saved.MessagePlace.MessagePlace}
use Rattle.iim_dataset.specs.declared.device.IoFault.TheVariants as io
use Rattle.iim_dataset.specs.declared.head.HeadCause.TheVariants as heads
use Rattle.iim_places.specs.declared.refusal.Cause.TheVariants as causes
use Rattle.iim_places.specs.declared.refusal.Layer.TheVariants as layers

-- The unpacker has completed an envelope that is a prefix of the octets.
pub record IsDoneWithin (v : Unpacking) (octets : List ℕ) (more : List story.StoryEvent) : Type 0 where
  pub used : ℕ
  pub fits : used ≤ length octets
  pub done : IsDoneWith v (take used octets) used
  pub adds : Delivers [] (take used octets) more

-- The unpacker has consumed the octets, or an envelope that is a prefix of them. The sink received
-- the text in the octets consumed.
pub record HasFedChunks {S : Type 0} (goes : S → List story.StoryEvent → S → Type 0) (limits : Limits) (v : Unpacking) (a b : S) (octets : List ℕ) : Type 0 where
  pub limits_are : limits_in v ≡ limits
  pub more : List story.StoryEvent
  pub told : goes a more b
  pub stood : (HasRead v octets (length octets) × Delivers [] octets more) ⊎ IsDoneWithin v octets more

-- converts an error of a reader to the error of its intake
abbrev pub read_fault : IoFault → IntakeFault
read_fault io.Failed = Read
read_fault io.Interrupted = Interrupted

-- what is in progress, given the reader of tags and the parts
abbrev pub phase_in : DatasetPlace → Parts → Phase
phase_in place parts = if has_ended parts then AllEnded
    else elim place [ Tag held ↦ PartialTag held.items | Inside h left ↦ PartialData h.set h.count left parts.fields.taken ]

-- the number of octets of a subfile in progress that remain
abbrev pub remaining_of_subfile : DatasetPlace → ℕ
remaining_of_subfile (Tag held) = 0
remaining_of_subfile (Inside h left) = if h.rec == 8 then left else 0

-- The ticket is the encoding of these readers' states, for any octets that they have consumed.
pub record IsEncoded (place : DatasetPlace) (parts : Parts) (ticket : List ℕ) : Type 0 where
  pub section : ℕ
  pub numbers : List (Option ℕ)
  pub taken : ℕ
  pub heads : ℕ
  pub message : MessagePlace
  pub after : (ds : List Dataset) → records.HasReadDatasets parts.fields ds → section ≡ section_after ds
  pub inside : (ds : List Dataset) (h : Head) (given : List ℕ) → records.IsReadingDataset parts.fields ds h given → section ≡ h.rec
  pub object : (p : object_places.Place) → objects.ObjectReaderStandsAt parts.object p
      → (numbers ≡ stated_numbers p.stated) × (taken ≡ sum p.lengths - remaining_of_subfile place) × (heads ≡ length p.lengths)
  pub message_is : ReaderHasSavedState parts.message message
  pub spelled : ticket ≡ ticket_of (record { section = section; phase = phase_in place parts; fields = parts.fields.kept; numbers = numbers; taken = taken; heads = heads; message = message })

-- ---- How the errors of the layers are reported.

-- the cause for an error of a tag
abbrev pub cause_of_tag : HeadCause → Cause
cause_of_tag heads.Marker = causes.Marker
cause_of_tag heads.CountForm = causes.CountForm

-- the error of a partial tag, which names this record and number
abbrev pub tag_fault : ℕ × ℕ → HeadCause → TokenFault
tag_fault names cause = record { layer = layers.Dataset; rec = names.0; set = names.1; cause = cause_of_tag cause }

-- ---- the state in which a router leaves its parts and its sink

module _ {S : Type 0} (goes : S → List story.StoryEvent → S → Type 0) (failures : S → ℕ) where
  -- The first `used` octets of the chunk were consumed, and parts and sink received what they
  -- complete. They are the whole chunk, or the octets up to the end of the last dataset. (The
  -- arguments are the state, the parts and the sink before, and the reader, the parts and the sink
  -- afterwards.)
  pub record HasAdvanced (old : Place × Parts × S) (piece : List ℕ) (new : Reader × Parts × S) (used : ℕ) : Type 0 where
    pub takes_calls : DatasetReaderAccepts new.0
    pub within : used ≤ length piece
    pub told : PassesToSink (PartsEmit goes failures) old.0 (take used piece) new.0.place (old.1, old.2) (new.1, new.2)
    pub onward : ConsumedAllOrEnded Takes (PartsAreBetween true) new.0.place new.1 (length piece) used

  -- Parts and sink received what the octets before octet k complete, and no tag can continue with
  -- octet k.
  pub record RejectsTagOctet (old : Place × Parts × S) (octets : List ℕ) (k : ℕ) (cause : HeadCause) (new : Place × Parts × S) : Type 0 where
    pub told : PassesToSink (PartsEmit goes failures) old.0 (take k octets) new.0 (old.1, old.2) (new.1, new.2)
    pub takes : Takes new.1 (to_come new.0)
    pub dies : TagIsRejected new.0 (slice_index octets k) cause

  -- Why octet k is rejected: no tag can continue with it, or the parts rejected what it completes.
  -- (The arguments are their error, and the state, the parts and the sink, before and after.)
  abbrev pub IsRejectedBy : Option HeadCause → Option TokenFault → Place × Parts × S → List ℕ → ℕ → Place × Parts × S → Type 0
  IsRejectedBy None refused old octets k new = DatasetSinkStopsAt (PartsReject goes failures refused) old.0 octets k (old.1, old.2) (new.1, new.2)
  IsRejectedBy (Some cause) refused old octets k new = RejectsTagOctet old octets k cause new

  -- Why octet k of a chunk is rejected. (The arguments are the state, the parts and the sink,
  -- before and after.)
  abbrev pub IsRejectedWith : Place × Parts × S → List ℕ → ℕ → TokenFault → Place × Parts × S → Type 0
  IsRejectedWith old octets k fault new =
      ((cause : HeadCause) × RejectsTagOctet old octets k cause new × (fault ≡ tag_fault (current_name new.0) cause))
      ⊎ DatasetSinkStopsAt (PartsReject goes failures (Some fault)) old.0 octets k (old.1, old.2) (new.1, new.2)

-- The unpacker has consumed some incomplete input, or some envelope.
abbrev pub IsReachable : Unpacking → Type 0
IsReachable u = (p : List ℕ) × (a : ℕ) × (HasRead u p a ⊎ IsDoneWith u p a)

-- the invariant of an unpacker between calls
pub record IsConsistent (u : Unpacking) : Type 0 where
  pub calls : DatasetReaderAccepts u.reader
  pub takes : ((has_ended u.parts ≡ false) × Takes u.parts (to_come u.reader.place)) ⊎ PartsAreBetween true u.parts
  pub stood : IsReachable u
