-- Why a head or a value is rejected: the causes, the fault that is reported, and their printed
-- forms.
use Rattle.std.specs.Prelude.{ℕ, Bool, false, not, ◌&&◌, ◌||◌, ◌==◌, ◌+◌, nat_le, if◌then◌else◌, List, [], ◌∷◌, length, flat_map, Option, Some, None, ◌≡◌, ◌≢◌, ◌<◌, ◌≤◌, ◌⊎◌, true, IsSomeAnd, IsTrue, codes, ◌++◌, decimal}
use Rattle.std.specs.{List.find, List.filter, List.list_any, Option.option_or, Option.option_map}
use Rattle.iim_dataset.specs.Format.Datasets.{Dataset, head_of, of_record, dataset_name}
use Rattle.iim_dataset.specs.{Format.Octets.within, Format.Octets.number, declared.head.Head.Head}
use Rattle.iim_tables.specs.{Format.Rows.row_of, Format.Rows.is_admitted, Format.Rows.OctetsMeetRow, declared.shape.Row.Row}
use Rattle.iim_tables.specs.Format.Records.{mandatory, occurs, has_file_format, repeats}
use Rattle.iim_fields.specs.{Format.Records.after, declared.fault.FieldCause.FieldCause}
use Rattle.iim_fields.specs.{declared.fault.CopyFault.CopyFault}
use Rattle.iim_fields.specs.declared.fault.FieldCause.TheVariants.{RecordOrder, UnknownDataset, Repeated, CountRange, Missing, BadValue, FileFormat, HeaderFull, TooManyFields}
use Rattle.iim_fields.specs.declared.fault.CopyFault.TheVariants.{Passed, OutOfMemory}
pub use Rattle.iim_fields.specs.declared.{limits.Limits.Limits, fault.FieldFault.FieldFault}

-- ---- The record layer.

-- the record of the last dataset, or `r` if there is none
abbrev pub last_record : ℕ → List Dataset → ℕ
last_record r [] = r
last_record r (d ∷ ds) = last_record d.rec ds

-- the current record: that of the last dataset, or 0 at the beginning
abbrev pub section_after : List Dataset → ℕ
section_after ds = last_record 0 ds

-- the datasets of the current record
abbrev pub current_datasets : List Dataset → List Dataset
current_datasets ds = of_record (section_after ds) ds

-- the record is the first of the remaining ones
abbrev pub is_first : ℕ → List ℕ → Bool
is_first r [] = false
is_first r (next ∷ more) = r == next

-- the record is the current one or the next one
abbrev pub is_in_order : ℕ → ℕ → Bool
is_in_order present r = ((r == present) && not (r == 0)) || is_first r (after present)

-- a fault for the dataset of a head
abbrev pub fault_on : Head → FieldCause → FieldFault
fault_on h cause = record { rec = h.rec; set = h.set; cause = cause }

-- The first of these faults: the head has no row; its dataset must not repeat, and has occurred;
-- its count is outside the bounds of the row.
abbrev pub row_fault : Bool → Option Row → Head → Option FieldFault
row_fault again None h = Some (fault_on h UnknownDataset)
row_fault again (Some r) h =
    if again && not r.repeats then Some (fault_on h Repeated)
    else if not (within r.min r.max h.count) then Some (fault_on h CountRange)
    else None

-- the fault for a missing dataset of the record with this number, if there is one
abbrev pub missing_fault : ℕ → Option ℕ → Option FieldFault
missing_fault present number = option_map (λ n. record { rec = present; set = n; cause = Missing }) number

-- the lowest number of a mandatory dataset of the record that has not occurred
abbrev pub missing_of : ℕ → (ℕ → Bool) → Option ℕ
missing_of rec has = find (λ n. not (has n)) (mandatory rec)

-- The first fault of a head, given the current record and the numbers that have occurred in it: the
-- record is neither the current one nor the next one; a fault of its row; the head begins the next
-- record, and a mandatory dataset of the current one is missing.
abbrev pub head_fault : ℕ → (ℕ → Bool) → Head → Option FieldFault
head_fault present has h =
    if not (is_in_order present h.rec) then Some (fault_on h RecordOrder)
    else option_or (row_fault (h.rec == present && has h.set) (row_of h.rec h.set) h)
    (if is_first h.rec (after present) then missing_fault present (missing_of present has) else None)

-- the first fault of a head after datasets
abbrev pub record_fault : List Dataset → Head → Option FieldFault
record_fault ds h = head_fault (section_after ds) (λ n. occurs n (current_datasets ds)) h

-- The first of these faults: the octets are not valid for the row; 1:20 File Format is not 2.
abbrev pub fault_by_row : Option Row → Dataset → Option FieldFault
fault_by_row None d = Some (fault_on (head_of d) BadValue)
fault_by_row (Some r) d =
    if not (is_admitted r d.octets) then Some (fault_on (head_of d) BadValue)
    else if not (has_file_format d) then Some (fault_on (head_of d) FileFormat)
    else None

-- the first fault of a value
abbrev pub value_fault : Dataset → Option FieldFault
value_fault d = fault_by_row (row_of d.rec d.set) d

-- ---- The limits.

-- the record is one of those whose datasets are stored, 1 or 2
abbrev pub is_kept : ℕ → Bool
is_kept rec = rec == 1 || rec == 2

-- the datasets that are stored
abbrev pub kept : List Dataset → List Dataset
kept ds = filter (λ d. is_kept d.rec) ds

-- the data of datasets, joined
abbrev pub joined : List Dataset → List ℕ
joined ds = flat_map (λ d. d.octets) ds

-- the number of octets of the stored data
abbrev pub kept_octets : List Dataset → ℕ
kept_octets ds = length (joined (kept ds))

-- The first limit that `octets` octets in `fields` datasets exceed.
abbrev pub limit_exceeded : Limits → ℕ → ℕ → Option FieldCause
limit_exceeded limits octets fields =
    if not (nat_le octets limits.octets) then Some HeaderFull
    else if not (nat_le fields limits.fields) then Some TooManyFields
    else None

-- The first limit that would be exceeded if a dataset with this head were added to `octets` octets
-- in `fields` datasets.
abbrev pub room_fault : Limits → ℕ → ℕ → Head → Option FieldFault
room_fault limits octets fields h =
    if not (is_kept h.rec) then None
    else if not (nat_le (octets + h.count) limits.octets) then Some (fault_on h HeaderFull)
    else if not (nat_le (fields + 1) limits.fields) then Some (fault_on h TooManyFields)
    else None

-- the first limit that a head exceeds after datasets
abbrev pub limits_fault : Limits → List Dataset → Head → Option FieldFault
limits_fault limits ds h = room_fault limits (kept_octets ds) (length (kept ds)) h

-- The first fault of a head after datasets: that of the record layer, otherwise that of the limits.
abbrev pub first_fault : Limits → List Dataset → Head → Option FieldFault
first_fault limits ds h = option_or (record_fault ds h) (limits_fault limits ds h)

-- ---- Why a head or a value is rejected. Each cause has a number and a condition. If the
-- conditions of several causes hold, the cause with the lowest number is reported.

-- A token, which may be rejected: a complete head, or the complete value of a dataset.
pub data Token : Type 0 where
  AtHead : Head → Token
  AtValue : Dataset → Token

-- ---- The conditions.

-- the head begins the next record, which is record 1 at the beginning
abbrev pub BeginsNext : List Dataset → Head → Type 0
BeginsNext ds h = (later : List ℕ) × (after (section_after ds) ≡ h.rec ∷ later)

-- The record of the head is neither the current one, which is that of the last dataset, nor the
-- next one.
abbrev pub IsOutOfOrder : List Dataset → Head → Type 0
IsOutOfOrder ds h = (((h.rec ≢ 0) × (h.rec ≡ section_after ds)) ⊎ BeginsNext ds h) → ⊥

-- There is no row for the record and the number of the head. Records 1 and 2 have rows for all
-- numbers.
abbrev pub HasNoRow : Head → Type 0
HasNoRow h = row_of h.rec h.set ≡ None

-- The dataset must not repeat, and has occurred in the current record.
abbrev pub IsRepeated : List Dataset → Head → Type 0
IsRepeated ds h = (repeats h.rec h.set ≡ false) × (h.rec ≡ section_after ds) × (occurs h.set (current_datasets ds) ≡ true)

-- The count is below the least number of octets of the row, or above the greatest.
abbrev pub IsOutOfRange : Head → Type 0
IsOutOfRange h = IsSomeAnd (row_of h.rec h.set) (λ row. (h.count < row.min) ⊎ (row.max < h.count))

-- The dataset with this number is mandatory in the current record, and has not occurred.
pub record IsMissing (ds : List Dataset) (n : ℕ) : Type 0 where
  pub mandatory : list_any (λ m. m == n) (mandatory (section_after ds)) ≡ true
  pub absent : occurs n (current_datasets ds) ≡ false

-- The head begins the next record, and a mandatory dataset of the current one is missing.
abbrev pub EndsTooEarly : List Dataset → Head → Type 0
EndsTooEarly ds h = BeginsNext ds h × ((n : ℕ) × IsMissing ds n)

-- The octets are not valid for the row of the dataset.
abbrev pub HasBadValue : Dataset → Type 0
HasBadValue d = OctetsMeetRow d.rec d.set d.octets → ⊥

-- The dataset is 1:20 File Format, and its value is not 2.
abbrev pub IsOtherFormat : Dataset → Type 0
IsOtherFormat d = (d.rec ≡ 1) × (d.set ≡ 20) × (number d.octets ≢ 2)

-- The head is of record 1 or 2, and the stored data together with its count exceed the limit on
-- octets.
abbrev pub ExceedsOctets : Limits → List Dataset → Head → Type 0
ExceedsOctets limits ds h = IsTrue (is_kept h.rec) × (limits.octets < kept_octets ds + h.count)

-- The head is of record 1 or 2, and the stored datasets together with this one exceed the limit on
-- datasets.
abbrev pub ExceedsFields : Limits → List Dataset → Head → Type 0
ExceedsFields limits ds h = IsTrue (is_kept h.rec) × (limits.fields < length (kept ds) + 1)

-- a condition on heads
abbrev pub OfHead : (Head → Type 0) → Token → Type 0
OfHead P (AtHead h) = P h
OfHead P (AtValue d) = ⊥

-- a condition on values
abbrev pub OfValue : (Dataset → Type 0) → Token → Type 0
OfValue P (AtHead h) = ⊥
OfValue P (AtValue d) = P d

-- ---- The causes.

-- A cause: its number, its name, and its condition for a token after datasets, under limits.
pub record Rule : Type 1 where
  pub number : ℕ
  pub name : List ℕ
  pub holds : Limits → List Dataset → Token → Type 0

abbrev pub rule_of : FieldCause → Rule
rule_of RecordOrder = record { number = 10; name = codes "RecordOrder"; holds = λ limits ds. OfHead (IsOutOfOrder ds) }
rule_of UnknownDataset = record { number = 11; name = codes "UnknownDataset"; holds = λ limits ds. OfHead HasNoRow }
rule_of Repeated = record { number = 12; name = codes "Repeated"; holds = λ limits ds. OfHead (IsRepeated ds) }
rule_of CountRange = record { number = 13; name = codes "CountRange"; holds = λ limits ds. OfHead IsOutOfRange }
rule_of Missing = record { number = 14; name = codes "Missing"; holds = λ limits ds. OfHead (EndsTooEarly ds) }
rule_of BadValue = record { number = 15; name = codes "BadValue"; holds = λ limits ds. OfValue HasBadValue }
rule_of FileFormat = record { number = 16; name = codes "FileFormat"; holds = λ limits ds. OfValue IsOtherFormat }
rule_of HeaderFull = record { number = 50; name = codes "HeaderFull"; holds = λ limits ds. OfHead (ExceedsOctets limits ds) }
rule_of TooManyFields = record { number = 51; name = codes "TooManyFields"; holds = λ limits ds. OfHead (ExceedsFields limits ds) }

-- the number of a cause
abbrev pub number_of_cause : FieldCause → ℕ
number_of_cause cause = (rule_of cause).number

-- The condition of the cause holds.
abbrev pub HasFieldCause : FieldCause → Limits → List Dataset → Token → Type 0
HasFieldCause cause = (rule_of cause).holds

-- the head of a token
abbrev pub head_at : Token → Head
head_at (AtHead h) = h
head_at (AtValue d) = head_of d

-- The dataset that the fault names: for Missing, the missing dataset with the lowest number;
-- otherwise the dataset of the token.
abbrev pub FaultNamesDataset : FieldCause → List Dataset → Token → ℕ → ℕ → Type 0
FaultNamesDataset Missing ds t rec set = (rec ≡ section_after ds) × IsMissing ds set × ((n : ℕ) → IsMissing ds n → set ≤ n)
FaultNamesDataset _ ds t rec set = (rec ≡ (head_at t).rec) × (set ≡ (head_at t).set)

-- The fault of a token: the condition of its cause holds, and no condition of a cause with a lower
-- number.
pub record IsFault (limits : Limits) (ds : List Dataset) (t : Token) (fault : FieldFault) : Type 0 where
  pub holds : HasFieldCause fault.cause limits ds t
  pub lowest : (cause : FieldCause) → number_of_cause cause < number_of_cause fault.cause → HasFieldCause cause limits ds t → ⊥
  pub names : FaultNamesDataset fault.cause ds t fault.rec fault.set

-- The token has no fault: the condition of no cause holds.
abbrev pub HasNoFault : Limits → List Dataset → Token → Type 0
HasNoFault limits ds t = (cause : FieldCause) → HasFieldCause cause limits ds t → ⊥

abbrev pub name_of_cause : FieldCause → List ℕ
name_of_cause cause = (rule_of cause).name

-- the printed form of a cause: its number and its name
abbrev pub text_of_cause : FieldCause → List ℕ
text_of_cause cause = decimal (number_of_cause cause) ++ (codes " " ++ name_of_cause cause)

-- the printed form of a fault: the rejected dataset and the cause
abbrev pub text_of_field : FieldFault → List ℕ
text_of_field fault = codes "refused on " ++ (dataset_name fault.rec fault.set ++ (codes ", cause " ++ text_of_cause fault.cause))

-- the number of a fault of copying; a failed allocation has the number 70
abbrev pub number_of_copy : CopyFault → ℕ
number_of_copy (Passed cause) = number_of_cause cause
number_of_copy OutOfMemory = 70

abbrev pub name_of_copy : CopyFault → List ℕ
name_of_copy (Passed cause) = name_of_cause cause
name_of_copy OutOfMemory = codes "OutOfMemory"

abbrev pub text_of_copy : CopyFault → List ℕ
text_of_copy fault = decimal (number_of_copy fault) ++ (codes " " ++ name_of_copy fault)
