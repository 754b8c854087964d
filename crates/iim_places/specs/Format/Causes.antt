-- Why a token is rejected: the causes with their numbers, names, layers and conditions, and the
-- error that is reported.
use Rattle.std.specs.Prelude.{ℕ, List, [], ◌∷◌, get_or, ◌≡◌, ◌≢◌, ◌+◌, ◌<◌, ◌≤◌, ◌⊎◌, ◌==◌, false, ◌++◌, length, sum, Option, None, Some, IsTrue, IsSomeAnd, codes, decimal, ◌&&◌, ◌||◌, not, nat_lt, if◌then◌else◌}
use Rattle.std.specs.{List.list_any, Option.option_or, Option.option_map}
use Rattle.iim_dataset.specs.Format.Datasets.{PartialDataset, InTag, InData, Dataset, head_of, of_record, count_octets, tag_marker, extended, dataset_name}
use Rattle.iim_dataset.specs.Format.Octets.{soh, stx, etx, eot, lf, cr, number, greatest_size, IsViablePrefix}
use Rattle.iim_fields.specs.Format.Causes.{IsOutOfOrder, HasNoRow, IsRepeated, IsOutOfRange, IsMissing, EndsTooEarly, HasBadValue, IsOtherFormat, ExceedsOctets, ExceedsFields, section_after, name_of_cause, kept, kept_octets, is_kept, first_fault, value_fault}
use Rattle.iim_fields.specs.Format.Records.{AreViableSections, AreViableSectionsWithHead, IsWithin, has_number_value}
use Rattle.iim_fields.specs.declared.{fault.FieldFault.FieldFault, fault.FieldCause.FieldCause, limits.Limits.Limits}
use Rattle.iim_object.specs.Format.Objects.{max_subfiles, number_at, numbers_of, lengths_of, ObjectLanguage, Place, tokens_of, head_token, value_token, place_after_datasets, place_ended}
use Rattle.iim_object.specs.{Format.Causes.name_of_size_cause, Format.Causes.cause_at, declared.reading.fault.SizeCause.SizeCause}
use Rattle.wire_story.specs.Format.Texts.{EndsInReturns, max_returns, with_end}
use Rattle.wire_message.specs.Format.Messages.{MessageLanguage, IsViableMessage, after_stx, text_so_far}
use Rattle.wire_message.specs.{Format.Causes.name_of_message, declared.fault.MessageCause.MessageCause}
use Rattle.iim_places.specs.Format.Admitted.{object_of, AreWithinLimits}
use Rattle.iim_places.specs.declared.refusal.Cause.TheVariants.{Marker, CountForm, Truncated, Field, Size, Message, TooManySubfiles, Failed}
use Rattle.iim_places.specs.declared.refusal.{Refusal.Refusal, Cause.Cause}
use Rattle.iim_dataset.specs.Format.Octets as languages
use Rattle.iim_dataset.specs.declared.head.Head.{Head}
use Rattle.iim_fields.specs.declared.fault.FieldCause.TheVariants as fields
use Rattle.wire_message.specs.declared.fault.MessageCause.TheVariants as messages
pub use Rattle.iim_places.specs.declared.{fault.TokenFault.TokenFault, refusal.Layer.Layer}
use Rattle.iim_places.specs.declared.refusal.Layer.TheVariants as layers
use Rattle.iim_places.specs.declared.refusal.Cause.TheVariants as causes
use Rattle.iim_object.specs.declared.reading.fault.SizeCause.TheVariants as sizes

-- the layer that rejects a token for a cause of the records: the limits, or the record layer
abbrev pub layer_of : FieldCause → Layer
layer_of fields.HeaderFull = layers.Limits
layer_of fields.TooManyFields = layers.Limits
layer_of other = layers.Record

-- an error of the record layer or the limits, as an error of a token
abbrev pub fault_of_record : FieldFault → TokenFault
fault_of_record f = record { layer = layer_of f.cause; rec = f.rec; set = f.set; cause = causes.Field f.cause }

-- the error of the object layer for a cause, which names the dataset of the head
abbrev pub size_fault_on : Head → SizeCause → TokenFault
size_fault_on h cause = record { layer = layers.Object; rec = h.rec; set = h.set; cause = causes.Size cause }

-- the error for the head of a subfile over the limit
abbrev pub count_fault_on : Head → TokenFault
count_fault_on h = record { layer = layers.Limits; rec = h.rec; set = h.set; cause = causes.TooManySubfiles }

-- the refusal for an error at this octet
abbrev pub refusal_at : ℕ → TokenFault → Refusal
refusal_at octet fault = record { layer = fault.layer; rec = fault.rec; set = fault.set; octet = octet; cause = fault.cause }

-- the layer that rejects a token for a cause of the message
abbrev pub layer_of_message : MessageCause → Layer
layer_of_message messages.LoneReturn = layers.Story
layer_of_message messages.ControlOctet = layers.Story
layer_of_message messages.Sink = layers.Outside
layer_of_message other = layers.Message

-- the error of the message, the story or the sink for a cause, which names the dataset of the head
abbrev pub message_fault_on : Head → MessageCause → TokenFault
message_fault_on h cause = record { layer = layer_of_message cause; rec = h.rec; set = h.set; cause = causes.Message cause }

-- ---- partial datasets

-- The record and the number of the partial dataset. In a partial tag they are its second and third
-- octets, or 0 if these were not read yet.
abbrev pub partial_record : PartialDataset → ℕ
partial_record (InTag held) = get_or held 1 0
partial_record (InData h taken) = h.rec

abbrev pub partial_number : PartialDataset → ℕ
partial_number (InTag held) = get_or held 2 0
partial_number (InData h taken) = h.set

-- The first octet of a tag must be the marker. Otherwise only the count of a tag can be invalid.
abbrev pub tag_cause : List ℕ → Cause
tag_cause [] = causes.Marker
tag_cause (x ∷ xs) = causes.CountForm

-- ---- tokens

-- A token, which the layers examine after complete datasets: an octet of the tag or of the data of
-- a partial dataset; a complete head; or a complete value.
pub data Token : Type 0 where
  AtOctet : PartialDataset → ℕ → Token
  AtHead : Head → Token
  AtValue : Dataset → Token

-- a condition on octets of tags, given the earlier octets of the partial tag
abbrev pub OfTag : (List ℕ → ℕ → Type 0) → Token → Type 0
OfTag P (AtOctet (InTag held) octet) = P held octet
OfTag P _ = ⊥

-- a condition on heads
abbrev pub OfHead : (Head → Type 0) → Token → Type 0
OfHead P (AtHead h) = P h
OfHead P _ = ⊥

-- a condition on values
abbrev pub OfValue : (Dataset → Type 0) → Token → Type 0
OfValue P (AtValue d) = P d
OfValue P _ = ⊥

-- a condition on octets of the object, given the earlier ones: the data of subfiles
abbrev pub OfOctet : (List ℕ → ℕ → Type 0) → List Dataset → Token → Type 0
OfOctet P ds (AtOctet (InData h taken) octet) = (h.rec ≡ 8) × P (object_of ds ++ taken) octet
OfOctet P ds _ = ⊥

-- ---- the conditions

-- 1: the first octet of a tag is not the marker, 1C hexadecimal.
abbrev pub IsWrongMarker : List ℕ → ℕ → Type 0
IsWrongMarker held octet = (held ≡ []) × (octet ≢ tag_marker)

-- 2: the fourth octet is above 80 hexadecimal; or it is 80, and the fifth is not from 1 to 8.
abbrev pub IsInvalidCountForm : List ℕ → ℕ → Type 0
IsInvalidCountForm held octet = ((length held ≡ 3) × (extended < octet))
    ⊎ ((length held ≡ 4) × (get_or held 3 0 ≡ extended) × ((octet ≡ 0) ⊎ (count_octets < octet)))

-- the numbers of record 7 so far: the mode is that of 7:10, the largest subfile 7:20, the announced
-- size 7:90, and the maximum 7:95
abbrev pub stated : ℕ → List Dataset → Option ℕ
stated set ds = number_at set (numbers_of (of_record 7 ds))

-- the total size of the subfiles so far, in octets
abbrev pub total : List Dataset → ℕ
total ds = sum (lengths_of (of_record 8 ds))

-- 20: mode 1 without an announced size, at the head of a subfile; or mode 0 with an announced size,
-- at the later of the two values.
abbrev pub HasModeClash : List Dataset → Token → Type 0
HasModeClash ds (AtHead h) = (h.rec ≡ 8) × (stated 10 ds ≡ Some 1) × (stated 90 ds ≡ None)
HasModeClash ds (AtValue d) = (d.rec ≡ 7) × (stated 10 (ds ++ d ∷ []) ≡ Some 0) × (stated 90 (ds ++ d ∷ []) ≢ None)
HasModeClash ds _ = ⊥

-- 21: the announced size exceeds the maximum, at the later of the two values.
abbrev pub HasSizeClash : List Dataset → Dataset → Type 0
HasSizeClash ds d = (d.rec ≡ 7) × IsSomeAnd (stated 90 (ds ++ d ∷ [])) (λ announced. IsSomeAnd (stated 95 (ds ++ d ∷ [])) (λ most. most < announced))

-- 22: the subfile exceeds the size that 7:20 allows.
abbrev pub IsSubfileTooLong : List Dataset → Head → Type 0
IsSubfileTooLong ds h = (h.rec ≡ 8) × IsSomeAnd (stated 20 ds) (λ largest. largest < h.count)

-- 23: the object including the subfile exceeds the greatest size of any object, the announced size,
-- or the maximum.
abbrev pub IsPastSize : List Dataset → Head → Type 0
IsPastSize ds h = (h.rec ≡ 8) × ((greatest_size < total ds + h.count)
    ⊎ (IsSomeAnd (stated 90 ds) (λ announced. announced < total ds + h.count) ⊎ IsSomeAnd (stated 95 ds) (λ most. most < total ds + h.count)))

-- 24: at the head of 9:10, the object is shorter than announced.
abbrev pub IsObjectShort : List Dataset → Head → Type 0
IsObjectShort ds h = (h.rec ≡ 9) × IsSomeAnd (stated 90 ds) (λ announced. total ds < announced)

-- 25: the number of 9:10 is not the size of the object.
abbrev pub HasWrongConfirmedSize : List Dataset → Dataset → Type 0
HasWrongConfirmedSize ds d = (d.rec ≡ 9) × (number d.octets ≢ total ds)

-- 30: the octet cannot be part of any message here.
abbrev pub IsBadOctet : List ℕ → ℕ → Type 0
IsBadOctet before octet = IsViableMessage (before ++ octet ∷ []) → ⊥

-- 32: the object ends, at the head of 9:10, but no message can end there.
abbrev pub IsUnfinishedMessage : List Dataset → Head → Type 0
IsUnfinishedMessage ds h = (h.rec ≡ 9) × (IsViablePrefix MessageLanguage (with_end (object_of ds)) → ⊥)

-- The octets contain an STX, and no ETX after it.
abbrev pub IsInText : List ℕ → Type 0
IsInText before = IsTrue (list_any (λ b. b == stx) before) × (list_any (λ b. b == etx) (after_stx before) ≡ false)

-- 40: a CR is pending, and the next octet, an octet of the text or ETX, is neither LF nor a second
-- CR.
abbrev pub HasLoneReturn : List ℕ → ℕ → Type 0
HasLoneReturn before octet = IsInText before × ((held : ℕ) × EndsInReturns (text_so_far before) held × (0 < held) × (octet ≢ lf) × (octet ≡ cr → held ≡ max_returns))

-- 41: the text contains SOH, STX or EOT.
abbrev pub IsControlOctet : List ℕ → ℕ → Type 0
IsControlOctet before octet = IsInText before × ((octet ≡ soh) ⊎ ((octet ≡ stx) ⊎ (octet ≡ eot)))

-- 52: the number of subfiles exceeds its limit, at the head of a subfile.
abbrev pub IsOneSubfileTooMany : List Dataset → Head → Type 0
IsOneSubfileTooMany ds h = (h.rec ≡ 8) × (max_subfiles ≤ length (of_record 8 ds))

-- 60: the octet is passed to the sink: it belongs to the text, and is not CR.
abbrev pub IsPassedToSink : List ℕ → ℕ → Type 0
IsPassedToSink before octet = (text_so_far (before ++ octet ∷ []) ≡ text_so_far before ++ octet ∷ []) × (octet ≢ cr)

-- ---- the causes

-- A cause: its number, its layer, and its condition for a token after complete datasets, under
-- limits.
pub record Rule : Type 1 where
  pub number : ℕ
  pub layer : Layer
  pub holds : Limits → List Dataset → Token → Type 0

-- A cause that concerns no token has the condition that is always false.
abbrev pub rule_of : Cause → Rule
rule_of Marker = record { number = 1; layer = layers.Dataset; holds = λ limits ds. OfTag IsWrongMarker }
rule_of CountForm = record { number = 2; layer = layers.Dataset; holds = λ limits ds. OfTag IsInvalidCountForm }
rule_of Truncated = record { number = 3; layer = layers.Dataset; holds = λ limits ds token. ⊥ }
rule_of (Field fields.RecordOrder) = record { number = 10; layer = layers.Record; holds = λ limits ds. OfHead (IsOutOfOrder ds) }
rule_of (Field fields.UnknownDataset) = record { number = 11; layer = layers.Record; holds = λ limits ds. OfHead HasNoRow }
rule_of (Field fields.Repeated) = record { number = 12; layer = layers.Record; holds = λ limits ds. OfHead (IsRepeated ds) }
rule_of (Field fields.CountRange) = record { number = 13; layer = layers.Record; holds = λ limits ds. OfHead IsOutOfRange }
rule_of (Field fields.Missing) = record { number = 14; layer = layers.Record; holds = λ limits ds. OfHead (EndsTooEarly ds) }
rule_of (Field fields.BadValue) = record { number = 15; layer = layers.Record; holds = λ limits ds. OfValue HasBadValue }
rule_of (Field fields.FileFormat) = record { number = 16; layer = layers.Record; holds = λ limits ds. OfValue IsOtherFormat }
rule_of (Size sizes.ModeClash) = record { number = 20; layer = layers.Object; holds = λ limits. HasModeClash }
rule_of (Size sizes.SizeClash) = record { number = 21; layer = layers.Object; holds = λ limits ds. OfValue (HasSizeClash ds) }
rule_of (Size sizes.SubfileTooLong) = record { number = 22; layer = layers.Object; holds = λ limits ds. OfHead (IsSubfileTooLong ds) }
rule_of (Size sizes.PastSize) = record { number = 23; layer = layers.Object; holds = λ limits ds. OfHead (IsPastSize ds) }
rule_of (Size sizes.Short) = record { number = 24; layer = layers.Object; holds = λ limits ds. OfHead (IsObjectShort ds) }
rule_of (Size sizes.ConfirmedWrong) = record { number = 25; layer = layers.Object; holds = λ limits ds. OfValue (HasWrongConfirmedSize ds) }
rule_of (Message messages.BadOctet) = record { number = 30; layer = layers.Message; holds = λ limits. OfOctet IsBadOctet }
rule_of (Message messages.Unfinished) = record { number = 32; layer = layers.Message; holds = λ limits ds. OfHead (IsUnfinishedMessage ds) }
rule_of (Message messages.LoneReturn) = record { number = 40; layer = layers.Story; holds = λ limits. OfOctet HasLoneReturn }
rule_of (Message messages.ControlOctet) = record { number = 41; layer = layers.Story; holds = λ limits. OfOctet IsControlOctet }
rule_of (Field fields.HeaderFull) = record { number = 50; layer = layers.Limits; holds = λ limits ds. OfHead (ExceedsOctets limits ds) }
rule_of (Field fields.TooManyFields) = record { number = 51; layer = layers.Limits; holds = λ limits ds. OfHead (ExceedsFields limits ds) }
rule_of TooManySubfiles = record { number = 52; layer = layers.Limits; holds = λ limits ds. OfHead (IsOneSubfileTooMany ds) }
rule_of (Message messages.Sink) = record { number = 60; layer = layers.Outside; holds = λ limits. OfOctet IsPassedToSink }
rule_of Failed = record { number = 61; layer = layers.Outside; holds = λ limits ds token. ⊥ }

-- ---- what is reported for a token

-- The error names the layer of its cause. The condition of the cause holds, and no condition of a
-- cause of this layer with a lower number.
pub record ReportsLowestCause (limits : Limits) (ds : List Dataset) (token : Token) (fault : TokenFault) : Type 0 where
  pub layer : (rule_of fault.cause).layer ≡ fault.layer
  pub holds : (rule_of fault.cause).holds limits ds token
  pub lowest : (other : Cause) → (rule_of other).layer ≡ fault.layer → (rule_of other).number < (rule_of fault.cause).number
      → (rule_of other).holds limits ds token → ⊥

-- the partial dataset that the token belongs to
abbrev pub begun_in : Token → PartialDataset
begun_in (AtOctet begun octet) = begun
begun_in (AtHead h) = InData h []
begun_in (AtValue d) = InData (head_of d) []

-- The dataset that the error names: for Missing, the missing dataset with the lowest number;
-- otherwise the dataset of the token.
abbrev pub Names : Cause → List Dataset → Token → ℕ → ℕ → Type 0
Names (Field fields.Missing) ds token rec set = (rec ≡ section_after ds) × IsMissing ds set × ((n : ℕ) → IsMissing ds n → set ≤ n)
Names cause ds token rec set = (rec ≡ partial_record (begun_in token)) × (set ≡ partial_number (begun_in token))

abbrev pub layer_name : Layer → List ℕ
layer_name layers.Dataset = codes "dataset"
layer_name layers.Record = codes "record"
layer_name layers.Limits = codes "limits"
layer_name layers.Object = codes "object"
layer_name layers.Message = codes "message"
layer_name layers.Story = codes "story"
layer_name layers.Outside = codes "outside"

abbrev pub cause_number : Cause → ℕ
cause_number cause = (rule_of cause).number

-- The name of a cause, which is that in its layer.
abbrev pub cause_name : Cause → List ℕ
cause_name Marker = codes "Marker"
cause_name CountForm = codes "CountForm"
cause_name Truncated = codes "Truncated"
cause_name (Field cause) = name_of_cause cause
cause_name (Size cause) = name_of_size_cause cause
cause_name (Message cause) = name_of_message cause
cause_name TooManySubfiles = codes "TooManySubfiles"
cause_name Failed = codes "Failed"

-- ---- printed forms

-- the printed form of a cause: its number and its name
abbrev pub cause_text : Cause → List ℕ
cause_text cause = decimal (cause_number cause) ++ (codes " " ++ cause_name cause)

-- the printed form of a refusal: the octet, the layer, the dataset and the cause
abbrev pub refusal_text : Refusal → List ℕ
refusal_text e =
    codes "refused at octet " ++ (decimal e.octet ++ (codes " by layer " ++ (layer_name e.layer ++ (codes " on "
    ++ (dataset_name e.rec e.set ++ (codes ", cause " ++ cause_text e.cause))))))

-- ---- The heads and values that the layers accept after datasets, and the first error of a head or
-- value.

-- the position in the object after datasets and a head: after one more subfile, or at the end
abbrev pub place_at : List Dataset → Head → Place
place_at ds h =
    if h.rec == 8 then record (place_after_datasets ds) { lengths = lengths_of (of_record 8 ds) ++ h.count ∷ [] }
    else if h.rec == 9 then place_ended ds
    else place_after_datasets ds

-- The object layer can continue from the position.
abbrev pub ObjectIsViable : Place → Type 0
ObjectIsViable p = languages.IsViablePrefix ObjectLanguage (tokens_of p)

-- The head stays within the limits after the datasets.
pub record HeadFits (limits : Limits) (ds : List Dataset) (h : Head) : Type 0 where
  pub kept : IsTrue (is_kept h.rec) → IsWithin limits (kept_octets ds + h.count) (length (kept ds) + 1)
  pub subfiles : h.rec ≡ 8 → length (of_record 8 ds) < max_subfiles

-- Every layer can continue after the datasets, which are within the limits.
pub record CanContinue (limits : Limits) (ds : List Dataset) : Type 0 where
  pub records : AreViableSections ds
  pub within : AreWithinLimits limits ds
  pub object : ObjectIsViable (place_after_datasets ds)

-- Every layer can continue after the datasets and the head, within the limits.
pub record CanContinueAt (limits : Limits) (ds : List Dataset) (h : Head) : Type 0 where
  pub records : AreViableSectionsWithHead ds h
  pub within : AreWithinLimits limits ds
  pub room : HeadFits limits ds h
  pub object : ObjectIsViable (place_at ds h)

-- Every layer can continue after the complete datasets and the partial one.
abbrev pub CanContinueIn : Limits → List Dataset → PartialDataset → Type 0
CanContinueIn limits whole (InTag held) = CanContinue limits whole
CanContinueIn limits whole (InData h taken) = CanContinueAt limits whole h

-- The layer cannot continue after the head, but the layers examined before it can. The order is:
-- record layer, limits, object layer.
abbrev pub RejectsHead : Layer → Limits → List Dataset → Head → Type 0
RejectsHead layers.Record limits ds h = AreViableSectionsWithHead ds h → ⊥
RejectsHead layers.Limits limits ds h = AreViableSectionsWithHead ds h × (HeadFits limits ds h → ⊥)
RejectsHead layers.Object limits ds h = AreViableSectionsWithHead ds h × HeadFits limits ds h × (ObjectIsViable (place_at ds h) → ⊥)
RejectsHead other limits ds h = ⊥

-- The layer cannot continue after the value, but the layers examined before it can.
abbrev pub RejectsValue : Layer → List Dataset → Dataset → Type 0
RejectsValue layers.Record ds d = AreViableSections (ds ++ d ∷ []) → ⊥
RejectsValue layers.Object ds d = AreViableSections (ds ++ d ∷ []) × (ObjectIsViable (place_after_datasets (ds ++ d ∷ [])) → ⊥)
RejectsValue other ds d = ⊥

-- ---- first errors

-- the error of the limits at the head of a subfile: there already are as many subfiles as are
-- allowed
abbrev pub subfile_fault : List Dataset → Head → Option TokenFault
subfile_fault ds h = if (h.rec == 8) && not (nat_lt (length (of_record 8 ds)) max_subfiles) then Some (count_fault_on h) else None

-- the error of the object layer at the head of a subfile or of 9:10
abbrev pub object_fault : List Dataset → Head → Option TokenFault
object_fault ds h =
    if (h.rec == 8) || (h.rec == 9) then option_map (size_fault_on h) (cause_at (place_after_datasets ds) (head_token h.rec h.count))
    else None

-- the first error of a head: that of the record layer, otherwise that of the limits, otherwise that
-- of the object layer
abbrev pub fault_at_head : Limits → List Dataset → Head → Option TokenFault
fault_at_head limits ds h = option_or (option_map fault_of_record (first_fault limits ds h)) (option_or (subfile_fault ds h) (object_fault ds h))

-- the error of the object layer at a number of record 7 or 9
abbrev pub number_fault : List Dataset → Dataset → Option TokenFault
number_fault ds d =
    if has_number_value d.rec then option_map (size_fault_on (head_of d)) (cause_at (place_at ds (head_of d)) (value_token d.rec d.set (number d.octets)))
    else None

-- the first error of a value: that of the record layer, otherwise that of the object layer
abbrev pub fault_at_value : List Dataset → Dataset → Option TokenFault
fault_at_value ds d = option_or (option_map fault_of_record (value_fault d)) (number_fault ds d)

-- The error is the first one of the head, and its layer cannot continue after the head.
pub record IsFaultOfHead (limits : Limits) (ds : List Dataset) (h : Head) (fault : TokenFault) : Type 0 where
  pub first : fault_at_head limits ds h ≡ Some fault
  pub dead : RejectsHead fault.layer limits ds h

-- The error is the first one of the value, and its layer cannot continue after the value.
pub record IsFaultOfValue (ds : List Dataset) (d : Dataset) (fault : TokenFault) : Type 0 where
  pub first : fault_at_value ds d ≡ Some fault
  pub dead : RejectsValue fault.layer ds d
