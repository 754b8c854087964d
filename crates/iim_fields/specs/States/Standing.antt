-- The states of a check of records, of a reader of records and of a builder of envelopes, and why
-- they reject datasets.
use Rattle.std.specs.Prelude.{◌≡◌, ℕ, Bool, false, List, length, slice_index_or, ◌≢◌, ⊤, [], ◌∷◌, ◌++◌, Option, Some, None, ◌+◌, ◌≤◌, ◌⊎◌, IsTrue, ◌^◌, ◌<◌, not, if◌then◌else◌}
use Rattle.std.specs.{Option.option_and_then, Option.option_or, Int.IsInRange}
use Rattle.iim_dataset.specs.Format.Datasets.{Dataset, head_of, of_record}
use Rattle.iim_dataset.specs.{Format.Octets.Octets, Format.Octets.number, declared.head.Head.Head}
use Rattle.iim_tables.specs.Format.{Records.occurs, Rows.row_of, Kinds.size_octets}
use Rattle.iim_tables.specs.declared.shape.Row.{Row}
use Rattle.iim_fields.specs.Format.Causes.{section_after, current_datasets, record_fault, value_fault, Limits, FieldFault, IsFault, first_fault, kept, kept_octets, is_kept, joined, missing_fault, missing_of, fault_on, limit_exceeded}
use Rattle.iim_fields.specs.Format.Records.{AreViableSections, AreViableSectionsWithHead, encoded_number, data_of, IsWithin}
use Rattle.iim_fields.specs.{Format.Causes.Token.AtHead, Format.Causes.Token.AtValue, States.Stores.Room}
use Rattle.iim_fields.specs.declared.{order.Order.Order, check.Begun.Begun, fault.FieldCause.FieldCause}
use Rattle.iim_fields.specs.declared.{fault.FieldCause.TheVariants.RecordOrder, fault.CopyFault.CopyFault}
use Rattle.iim_fields.specs.declared.{fault.CopyFault.TheVariants.Passed, fault.CopyFault.TheVariants.OutOfMemory}
pub use Rattle.iim_fields.specs.declared.check.RecordPlace.{RecordPlace}

-- a dataset with this number has occurred in the current record
abbrev pub has_seen : Order → ℕ → Bool
has_seen o n = slice_index_or o.seen n false

-- `o` has the current record of the datasets, and for each of 256 numbers whether it has occurred
-- in that record.
pub record IsOrderOf (o : Order) (ds : List Dataset) : Type 0 where
  pub places : length o.seen ≡ 256
  pub present : o.rec ≡ section_after ds
  pub seen : (n : ℕ) → has_seen o n ≡ occurs n (current_datasets ds)

-- ---- The model of a check: its state, or `None` after an error.

-- No value is expected: no dataset is in progress, or it is a subfile, whose data do not concern
-- the records.
abbrev pub ExpectsNoValue : Option Begun → Type 0
ExpectsNoValue None = ⊤
ExpectsNoValue (Some begun) = begun.head.rec ≡ 8

-- The check accepts a head next.
pub record AcceptsHead (check : Option RecordPlace) : Type 0 where
  pub order : Order
  pub begun : Option Begun
  pub at : check ≡ Some (record { order = order; begun = begun })
  pub none : ExpectsNoValue begun

-- No dataset is in progress.
pub record IsBetweenHeads (check : Option RecordPlace) : Type 0 where
  pub order : Order
  pub between : check ≡ Some (record { order = order; begun = None })

-- A dataset with this head is in progress.
pub record IsInDataset (check : Option RecordPlace) (h : Head) : Type 0 where
  pub order : Order
  pub row : Row
  pub inside : check ≡ Some (record { order = order; begun = Some (record { head = h; row = row }) })
  pub known : row_of h.rec h.set ≡ Some row

-- The check accepts a value of n octets next.
abbrev pub AcceptsValue : Option RecordPlace → ℕ → Type 0
AcceptsValue check n = (h : Head) × IsInDataset check h × (h.rec ≢ 8) × (h.count ≡ n)

-- The check has consumed these datasets.
pub record HasChecked (check : Option RecordPlace) (ds : List Dataset) : Type 0 where
  pub order : Order
  pub begun : Option Begun
  pub at : check ≡ Some (record { order = order; begun = begun })
  pub none : ExpectsNoValue begun
  pub alive : AreViableSections ds
  pub tells : IsOrderOf order ds

-- The check has consumed these datasets and then this head, and expects its value.
pub record IsChecking (check : Option RecordPlace) (ds : List Dataset) (h : Head) : Type 0 where
  pub order : Order
  pub row : Row
  pub inside : check ≡ Some (record { order = order; begun = Some (record { head = h; row = row }) })
  pub known : row_of h.rec h.set ≡ Some row
  pub value : h.rec ≢ 8
  pub alive : AreViableSectionsWithHead ds h
  pub tells : (d : Dataset) → head_of d ≡ h → IsOrderOf order (ds ++ d ∷ [])

-- The check has consumed these datasets and then this head. It expects the value of the head; or
-- the head is that of a subfile, and the datasets with the subfile, whatever its data, were
-- consumed.
pub record HasAcceptedHead (check : Option RecordPlace) (ds : List Dataset) (h : Head) : Type 0 where
  pub checking : h.rec ≢ 8 → IsChecking check ds h
  pub subfile : h.rec ≡ 8 → (d : Dataset) → head_of d ≡ h → Octets d.octets → HasChecked check (ds ++ d ∷ [])

-- ---- Rejections.

-- The fault of the head in the record layer: its cause is the one with the lowest number whose
-- condition holds, under any limits. The datasets followed by the head are not a viable prefix.
pub record IsRecordFault (ds : List Dataset) (h : Head) (fault : FieldFault) : Type 0 where
  pub first : record_fault ds h ≡ Some fault
  pub lowest : (limits : Limits) → IsFault limits ds (AtHead h) fault
  pub dead : AreViableSectionsWithHead ds h → ⊥

-- The fault of the value, which is not that of a subfile: its cause is the one with the lowest
-- number whose condition holds, under any limits. The datasets including this one are not a viable
-- prefix.
pub record IsValueFault (ds : List Dataset) (d : Dataset) (fault : FieldFault) : Type 0 where
  pub value : d.rec ≢ 8
  pub first : value_fault d ≡ Some fault
  pub lowest : (limits : Limits) → IsFault limits ds (AtValue d) fault
  pub dead : AreViableSections (ds ++ d ∷ []) → ⊥

-- ---- What a check returns.

-- the head of the dataset in progress
abbrev pub current_head : Option RecordPlace → Option Head
current_head check = option_and_then (λ place. option_and_then (λ begun. Some begun.head) place.begun) check

-- the record of the last head, or 0 at the beginning
abbrev pub section_at : Option RecordPlace → ℕ
section_at None = 0
section_at (Some place) = place.order.rec

-- The last record has ended.
pub record LastRecordHasEnded (check : Option RecordPlace) : Type 0 where
  pub order : Order
  pub between : check ≡ Some (record { order = order; begun = None })
  pub last : order.rec ≡ 9

-- ---- The states of a reader of records.

-- The model of a reader of records: the state of its check, its limits, the stored datasets, the
-- octets received of the dataset in progress, and its capacity.
pub record FieldsPlace : Type 0 where
  pub check : Option RecordPlace
  pub limits : Limits
  pub kept : List Dataset
  pub taken : List ℕ
  pub room : Room

-- the limits of the reader
abbrev pub limits_of : FieldsPlace → Limits
limits_of fields = fields.limits

-- the capacity of the reader
abbrev pub reader_capacity : FieldsPlace → Room
reader_capacity fields = fields.room

-- the capacity that limits require: for their octets, and for their datasets
abbrev pub room_for : Limits → Room
room_for limits = record { octets = limits.octets; entries = limits.fields }

-- The limits and the capacity of the reader are unchanged.
pub record HasSameBounds (old new : FieldsPlace) : Type 0 where
  pub limits : limits_of new ≡ limits_of old
  pub room : reader_capacity new ≡ reader_capacity old

-- the record of the last head, or 0 at the beginning
abbrev pub section_of : FieldsPlace → ℕ
section_of fields = section_at fields.check

-- the head of the dataset in progress
abbrev pub current_head_of : FieldsPlace → Option Head
current_head_of fields = current_head fields.check

-- A call has returned an error.
abbrev pub RecordReaderFailed : FieldsPlace → Type 0
RecordReaderFailed fields = fields.check ≡ None

-- The reader accepts a head next.
abbrev pub IsBetweenDatasets : FieldsPlace → Type 0
IsBetweenDatasets fields = IsBetweenHeads fields.check

-- The reader has accepted this head, and n octets of its data remain. The data of a subfile are not
-- passed to the reader.
pub record IsInsideDataset (fields : FieldsPlace) (h : Head) (n : ℕ) : Type 0 where
  pub head : IsInDataset fields.check h
  pub to_come : h.rec ≢ 8 → length fields.taken + n ≡ h.count

-- The reader accepts k octets of data next. The data of a subfile are not passed to the reader.
abbrev pub AcceptsData : FieldsPlace → ℕ → Type 0
AcceptsData fields k = (h : Head) × (n : ℕ) × IsInsideDataset fields h n × (h.rec ≢ 8) × (k ≤ n)

-- The reader accepts the end of a dataset next: all of its octets were received, or it is a
-- subfile.
abbrev pub AcceptsEnd : FieldsPlace → Type 0
AcceptsEnd fields = (h : Head) × (n : ℕ) × IsInsideDataset fields h n × ((h.rec ≡ 8) ⊎ (n ≡ 0))

-- The last record has ended.
abbrev pub RecordReaderHasEnded : FieldsPlace → Type 0
RecordReaderHasEnded fields = LastRecordHasEnded fields.check

-- The reader has consumed these datasets, and has stored those of records 1 and 2.
pub record HasReadDatasets (fields : FieldsPlace) (ds : List Dataset) : Type 0 where
  pub between : IsBetweenDatasets fields
  pub checked : HasChecked fields.check ds
  pub alive : AreViableSections ds
  pub within : IsWithin fields.limits (kept_octets ds) (length (kept ds))
  pub kept_are : fields.kept ≡ kept ds
  pub taken_are : fields.taken ≡ []

-- The reader has consumed these datasets, and then this head and the data `taken`.
pub record IsReadingDataset (fields : FieldsPlace) (ds : List Dataset) (h : Head) (taken : List ℕ) : Type 0 where
  pub inside : (n : ℕ) × IsInsideDataset fields h n
  pub checked : HasAcceptedHead fields.check ds h
  pub alive : AreViableSectionsWithHead ds h
  pub within : IsTrue (is_kept h.rec) → IsWithin fields.limits (kept_octets ds + h.count) (length (kept ds) + 1)
  pub others : IsWithin fields.limits (kept_octets ds) (length (kept ds))
  pub kept_are : fields.kept ≡ kept ds
  pub taken_are : fields.taken ≡ taken
  pub octets : Octets taken
  pub nothing : h.rec ≡ 8 → taken ≡ []

-- The fault of the head: its cause is the one with the lowest number whose condition holds. The
-- datasets followed by the head are not a viable prefix, or exceed the limits.
pub record IsHeadFault (limits : Limits) (ds : List Dataset) (h : Head) (fault : FieldFault) : Type 0 where
  pub first : first_fault limits ds h ≡ Some fault
  pub lowest : IsFault limits ds (AtHead h) fault
  pub dead : AreViableSectionsWithHead ds h → (IsTrue (is_kept h.rec) → IsWithin limits (kept_octets ds + h.count) (length (kept ds) + 1)) → ⊥

-- The dataset has this head, and has these data unless its record is 8.
pub record IsDatasetOf (h : Head) (taken : List ℕ) (d : Dataset) : Type 0 where
  pub head : head_of d ≡ h
  pub octets : Octets d.octets
  pub given : h.rec ≢ 8 → d.octets ≡ taken

-- The reader accepted a complete dataset with this head and these data.
pub record AcceptedDataset (old : FieldsPlace) (h : Head) (octets : List ℕ) (new : FieldsPlace) : Type 0 where
  pub section : section_of new ≡ h.rec
  pub stands : (ds : List Dataset) → HasReadDatasets old ds → HasReadDatasets new (ds ++ data_of h octets ∷ [])

-- The reader accepted a complete subfile with this head, by way of a state inside the subfile,
-- whatever its data.
pub record AcceptedSubfile (old : FieldsPlace) (h : Head) (new : FieldsPlace) : Type 0 where
  pub inside : FieldsPlace
  pub head : current_head_of inside ≡ Some h
  pub limits : limits_of inside ≡ limits_of old
  pub begins : (ds : List Dataset) → HasReadDatasets old ds → IsReadingDataset inside ds h []
  pub closes : (ds : List Dataset) (g : Head) (taken : List ℕ) → IsReadingDataset inside ds g taken → (d : Dataset) → IsDatasetOf g taken d
      → HasReadDatasets new (ds ++ d ∷ []) × (None ≡ encoded_number d)

-- The octets encode the number. Their length is the count of the head, and a size may have that
-- length.
pub record DatasetEncodesNumber (octets : List ℕ) (h : Head) (n : ℕ) : Type 0 where
  pub count : h.count ≡ length octets
  pub few : IsInRange 1 size_octets (length octets)
  pub fit : Octets octets
  pub is : n ≡ number octets

-- A complete dataset with this head and these data may come next: neither the head nor the value
-- has a fault.
pub record AdmitsDataset (fields : FieldsPlace) (h : Head) (xs : List ℕ) : Type 0 where
  pub count : h.count ≡ length xs
  pub octets : Octets xs
  pub no_fault : (ds : List Dataset) → HasReadDatasets fields ds → option_or (first_fault (limits_of fields) ds h) (value_fault (data_of h xs)) ≡ None

-- The model of a builder: its limits, the datasets so far, and its capacity.
pub record BuilderView : Type 0 where
  pub limits : Limits
  pub fields : List Dataset
  pub room : Room

-- The first fault of a dataset that is added: its record is neither 1 nor 2; otherwise the fault of
-- its head; otherwise the fault of its value.
abbrev pub added_field_fault : Limits → List Dataset → Dataset → Option FieldFault
added_field_fault limits ds d =
    if not (is_kept d.rec) then Some (fault_on (head_of d) RecordOrder)
    else option_or (first_fault limits ds (head_of d)) (value_fault d)

-- the fault for the missing mandatory dataset of the record with the lowest number, if one is
-- missing
abbrev pub absent : ℕ → List Dataset → Option FieldFault
absent r ds = missing_fault r (missing_of r (λ n. occurs n (of_record r ds)))

-- the fault for the first missing dataset of an envelope: that of record 1, otherwise that of
-- record 2
abbrev pub missing_field_fault : List Dataset → Option FieldFault
missing_field_fault ds = option_or (absent 1 ds) (absent 2 ds)

-- The datasets and their octets are no more than the greatest limits allow.
pub record FitAnyLimits (ds : List Dataset) : Type 0 where
  pub datasets : length ds < 2 ^ 32
  pub octets : length (joined ds) < 2 ^ 32

-- the first limit that these datasets exceed together: the limit on octets, otherwise the limit on
-- datasets
abbrev pub limit_exceeded_by : Limits → List Dataset → Option FieldCause
limit_exceeded_by limits ds = limit_exceeded limits (length (joined ds)) (length ds)

-- Why an envelope with these datasets is not copied: they exceed a limit, or the allocation failed.
abbrev pub IsCopyFault : Limits → List Dataset → CopyFault → Type 0
IsCopyFault limits ds (Passed cause) = limit_exceeded_by limits ds ≡ Some cause
IsCopyFault limits ds OutOfMemory = limit_exceeded_by limits ds ≡ None
