-- The position that octets reach, and its ticket.
use Rattle.std.specs.Prelude.{◌≡◌, ℕ, ◌+◌, ◌-◌, ◌==◌, if◌then◌else◌, List, [], ◌∷◌, ◌++◌, length, codes, Option, Some, None}
use Rattle.std.specs.{List.flat_map, Int.w32, Int.w64, Int.to_be_bytes}
use Rattle.iim_dataset.specs.Format.Datasets.{Dataset, of_record, count_octets, PartialDataset, InTag, InData, ReadsAsDatasets}
use Rattle.iim_fields.specs.Format.Causes.{kept, section_after}
use Rattle.iim_object.specs.{Format.Objects.numbers_of, States.Reading.stated_numbers}
use Rattle.wire_message.specs.States.Reading.{ReachesSavedState}
use Rattle.wire_message.specs.declared.saved.{MessagePart.MessagePart, MessagePlace.MessagePlace}
use Rattle.wire_message.specs.declared.saved.MessagePart.TheVariants as part
use Rattle.iim_places.specs.Format.Open.{object_so_far, section}

-- ---- positions

-- What is in progress: a tag, with its octets so far (none of them between datasets); or data, with
-- the dataset's number, the count, the number of octets that remain, and the octets received (not
-- stored for a subfile); or nothing, after the last dataset.
pub data Phase : Type 0 where
  PartialTag : List ℕ → Phase
  PartialData : (set count left : ℕ) → List ℕ → Phase
  AllEnded : Phase

-- The position of an unpacker: the record of the last head; what is in progress; the datasets of
-- records 1 and 2; the numbers of 7:10, 7:20, 7:90 and 7:95; the number of octets of the object and
-- of heads of 8:10 that were received; and the position in the message.
pub record Place : Type 0 where
  pub section : ℕ
  pub phase : Phase
  pub fields : List Dataset
  pub numbers : List (Option ℕ)
  pub taken : ℕ
  pub heads : ℕ
  pub message : MessagePlace

abbrev pub phase_of : List Dataset → PartialDataset → Phase
phase_of ds (InTag held) = if section_after ds == 9 then AllEnded else PartialTag held
phase_of ds (InData h taken) = PartialData h.set h.count (h.count - length taken) (if h.rec == 8 then [] else taken)

-- the number of heads of 8:10, including that of a subfile in progress
abbrev pub heads_of : List Dataset → PartialDataset → ℕ
heads_of ds (InTag held) = length (of_record 8 ds)
heads_of ds (InData h taken) = length (of_record 8 ds) + (if h.rec == 8 then 1 else 0)

-- the position after complete datasets and a partial one; `message` is the position in the message
abbrev pub place_of : List Dataset → PartialDataset → MessagePlace → Place
place_of whole begun message = record {
  section = section whole begun;
  phase = phase_of whole begun;
  fields = kept whole;
  numbers = stated_numbers (numbers_of (of_record 7 whole));
  taken = length (object_so_far whole begun);
  heads = heads_of whole begun;
  message = message;
}

-- The octets reach this position.
pub record ReachesPlace (octets : List ℕ) (place : Place) : Type 0 where
  pub whole : List Dataset
  pub begun : PartialDataset
  pub reads : ReadsAsDatasets count_octets octets whole begun
  pub text : List ℕ
  pub message : MessagePlace
  pub leads : ReachesSavedState (object_so_far whole begun) text message
  pub is_place : place ≡ place_of whole begun message

-- ---- the encoding of a position

-- A version of tickets: its number, and the width in octets of counts, of sizes and of the number
-- of octets of the object.
pub record TicketVersion : Type 0 where
  pub number : ℕ
  pub width : ℕ

abbrev pub first_version : TicketVersion
first_version = record { number = 1; width = 4 }

abbrev pub second_version : TicketVersion
second_version = record { number = 2; width = 8 }

-- the version that is written now
abbrev pub present_version : ℕ
present_version = second_version.number

-- the width of a version
abbrev pub width : ℕ → ℕ
width version = if version == first_version.number then first_version.width else second_version.width

-- a number in four octets, high octet first
abbrev pub four : ℕ → List ℕ
four n = to_be_bytes w32 n

-- a number in the width of the version, high octet first
abbrev pub wide : ℕ → ℕ → List ℕ
wide version n = if version == first_version.number then four n else to_be_bytes w64 n

abbrev pub phase_octets : ℕ → Phase → List ℕ
phase_octets version (PartialTag held) = 0 ∷ length held ∷ held
phase_octets version (PartialData set count left taken) = 1 ∷ set ∷ (wide version count ++ (wide version left ++ taken))
phase_octets version AllEnded = 2 ∷ []

abbrev pub field_octets : Dataset → List ℕ
field_octets d = (d.rec ∷ d.set ∷ []) ++ four (length d.octets) ++ d.octets

abbrev pub fields_octets : List Dataset → List ℕ
fields_octets ds = four (length ds) ++ flat_map field_octets ds

abbrev pub number_octets : ℕ → Option ℕ → List ℕ
number_octets version None = 0 ∷ []
number_octets version (Some n) = 1 ∷ wide version n

abbrev pub text_octets : List ℕ → List ℕ
text_octets xs = length xs ∷ xs

-- the number that encodes a part of a message
abbrev pub part_number : MessagePart → ℕ
part_number part.Filler = 0
part_number part.Source = 1
part_number part.Number = 2
part_number part.Priority = 3
part_number part.PriorityRead = 4
part_number part.Category = 5
part_number part.Words = 6
part_number part.Info = 7
part_number part.Gap = 8
part_number part.Text = 9
part_number part.Trailer = 10
part_number part.AfterEnd = 11

-- the texts of the header so far, in the order of the header, and the trailer so far
abbrev pub texts_octets : MessagePlace → List ℕ
texts_octets m =
    text_octets m.source.items ++ text_octets m.number.items ++ text_octets m.priority.items ++ text_octets m.category.items
    ++ text_octets m.words.items ++ text_octets m.info.items ++ text_octets m.trailer.items

abbrev pub message_octets : MessagePlace → List ℕ
message_octets m = (part_number m.part ∷ m.counter ∷ m.flag ∷ []) ++ texts_octets m

-- the start of each ticket: the name and the version
abbrev pub ticket_header : ℕ → List ℕ
ticket_header version = codes "IIMT" ++ version ∷ []

-- the order of the other parts: the section, what is in progress, the datasets, the numbers of
-- record 7, the numbers of octets and heads of the object, and the encoding of the position in the
-- message
abbrev pub layout : ℕ → ℕ → Phase → List Dataset → List (Option ℕ) → ℕ → ℕ → List ℕ → List ℕ
layout version section phase fields numbers taken heads message =
    ticket_header version ++ (section ∷ []) ++ phase_octets version phase ++ fields_octets fields ++ flat_map (number_octets version) numbers
    ++ wide version taken ++ four heads ++ message

-- the ticket of the position, in the version
abbrev pub ticket_in_version : ℕ → Place → List ℕ
ticket_in_version version p = layout version p.section p.phase p.fields p.numbers p.taken p.heads (message_octets p.message)

abbrev pub ticket_of : Place → List ℕ
ticket_of p = ticket_in_version present_version p

-- The ticket encodes the position that the octets reach.
pub record IsTicketOf (octets ticket : List ℕ) : Type 0 where
  pub place : Place
  pub is_place : ReachesPlace octets place
  pub spelled : ticket ≡ ticket_of place
