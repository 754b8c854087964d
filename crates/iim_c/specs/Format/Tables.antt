-- The tables, causes, names and instants for C.
use Rattle.std.specs.Prelude.{ℕ, false, Option, Some, None, ◌==◌, List, [], ◌∷◌, codes, ◌≡◌, ◌+◌, ◌<◌, ◌≤◌, ◌&&◌, ◌⊎◌, Bool, ◌++◌, length, drop, ℤ, pos, ◌+ℤ◌, ◌*ℤ◌, true}
use Rattle.std.specs.{List.find, Option.option_map}
use Rattle.iim_object.specs.Format.Causes.{pack_number}
use Rattle.iim_places.specs.Format.Causes.{cause_name, cause_number, layer_name}
use Rattle.iim_places.specs.declared.refusal.{Cause.Cause, Layer.Layer}
use Rattle.iim_script.specs.Format.Causes as script_words
use Rattle.iim_c.specs.Format.Answers.{layer_number}
use Rattle.iim_places.specs.Format.Faults.{ticket_fault_number, ticket_fault_name}
use Rattle.iim_c.specs.declared.{rule.IimRule.IimRule, instant.IimInstant.IimInstant}
use Rattle.jiff.specs.Words.{IsTimestampNanos}
use Rattle.iim_tables.specs.Format.Dates.{nanoseconds_in_second}
use Rattle.iim_tables.specs.declared.shape.{Kind.Kind, Duty.Duty, Row.Row}
use Rattle.iim_tables.specs.declared.shape.Kind.TheVariants.{Graphic, Spaced, SpacedLines, Letters, Digits, Date, PartDate, Time, Binary, Octets, Mode, Size, SizeFromOne}
use Rattle.iim_tables.specs.declared.shape.Duty.TheVariants.{Mandatory, Optional, ByMode}
use Rattle.iim_fields.specs.declared.fault.FieldCause.TheVariants as fields
use Rattle.iim_object.specs.declared.reading.fault.SizeCause.TheVariants as sizes
use Rattle.iim_object.specs.declared.writing.cause.PackCause.TheVariants as packs
use Rattle.wire_message.specs.declared.fault.MessageCause.TheVariants as messages
use Rattle.iim_places.specs.declared.refusal.Cause.TheVariants as octets
use Rattle.iim_places.specs.declared.ticket.fault.TicketFault.TheVariants as tickets
use Rattle.iim_script.specs.declared.fault.ScriptCause.{ScriptCause}
use Rattle.iim_script.specs.declared.fault.ScriptCause.TheVariants as script
use Rattle.iim_places.specs.declared.refusal.Layer.TheVariants as layers

-- the numbers of the kinds
abbrev pub kind_number : Kind → ℕ
kind_number Graphic = 1
kind_number Spaced = 2
kind_number SpacedLines = 3
kind_number Letters = 4
kind_number Digits = 5
kind_number Date = 6
kind_number PartDate = 7
kind_number Time = 8
kind_number Binary = 9
kind_number Octets = 10
kind_number Mode = 11
kind_number Size = 12
kind_number SizeFromOne = 13

-- the numbers of the duties
abbrev pub duty_number : Duty → ℕ
duty_number Mandatory = 1
duty_number Optional = 2
duty_number ByMode = 3

-- a row for C
abbrev pub rule_of : Row → IimRule
rule_of row = record { min = row.min; max = row.max; kind = kind_number row.kind; duty = duty_number row.duty; repeats = row.repeats }

-- the row of a dataset, or zeros if it has no row
abbrev pub rule_for : Option Row → IimRule
rule_for (Some row) = rule_of row
rule_for None = record { min = 0; max = 0; kind = 0; duty = 0; repeats = false }

-- ---- The names and the meanings of causes, by their numbers.

-- a cause: its number, its name and its meaning
pub record CauseEntry : Type 0 where
  pub number : ℕ
  pub name : List ℕ
  pub text : List ℕ

abbrev pub told : ℕ → List ℕ → List ℕ → CauseEntry
told number name text = record { number = number; name = name; text = text }

-- the entry of a cause that concerns octets of an envelope, and of one that concerns a script
abbrev pub of_octets : Cause → List ℕ → CauseEntry
of_octets cause text = told (cause_number cause) (cause_name cause) text

abbrev pub of_script : ScriptCause → List ℕ → CauseEntry
of_script cause text = told (script_words.script_cause_number cause) (script_words.script_cause_name cause) text

-- the causes that concern octets of an envelope, memory and readers, packing, audits, scripts and
-- tickets
unfoldable pub cause_table : List CauseEntry
cause_table =
    of_octets octets.Marker (codes "a tag doesn't begin with 1C")
    ∷ of_octets octets.CountForm (codes "octet 4 of a tag is above 80, or it is 80 and octet 5 is not 1 to 8")
    ∷ of_octets octets.Truncated (codes "the input ends inside an envelope; the octet is how many there were")
    ∷ of_octets (octets.Field fields.RecordOrder) (codes "the record is neither the present one nor the next")
    ∷ of_octets (octets.Field fields.UnknownDataset) (codes "record 7, 8 or 9 has no dataset of this number")
    ∷ of_octets (octets.Field fields.Repeated) (codes "a dataset that doesn't repeat comes a second time")
    ∷ of_octets (octets.Field fields.CountRange) (codes "the dataset has fewer or more octets than its row allows; a subfile, 8:10, more than 9,223,372,036,854,775,807")
    ∷ of_octets (octets.Field fields.Missing) (codes "the next record begins, and a mandatory dataset is absent")
    ∷ of_octets (octets.Field fields.BadValue) (codes "the octets are not of the dataset's kind")
    ∷ of_octets (octets.Field fields.FileFormat) (codes "1:20 is not 2")
    ∷ of_octets (octets.Size sizes.ModeClash) (codes "mode 0 and 7:90, at the later value; mode 1 without 7:90, at the first head of 8:10")
    ∷ of_octets (octets.Size sizes.SizeClash) (codes "announced above maximum, at the later value")
    ∷ of_octets (octets.Size sizes.SubfileTooLong) (codes "a subfile has more octets than 7:20 allows")
    ∷ of_octets (octets.Size sizes.PastSize) (codes "with this subfile's count the object is longer than announced, than the maximum, or than 9,223,372,036,854,775,807 octets")
    ∷ of_octets (octets.Size sizes.Short) (codes "the total is below announced, at the head of 9:10")
    ∷ of_octets (octets.Size sizes.ConfirmedWrong) (codes "9:10 is not the total")
    ∷ of_octets (octets.Message messages.BadOctet) (codes "no message can continue with the octet")
    ∷ of_octets (octets.Message messages.Unfinished) (codes "the object ends before the message does")
    ∷ of_octets (octets.Message messages.LoneReturn) (codes "after held CR comes an octet of the text that is neither LF nor the second CR, or ETX")
    ∷ of_octets (octets.Message messages.ControlOctet) (codes "01, 02 or 04 stands in the text, with no CR held")
    ∷ of_octets (octets.Field fields.HeaderFull) (codes "with the head's count the data of records 1 and 2 pass the limit on octets")
    ∷ of_octets (octets.Field fields.TooManyFields) (codes "with the head the datasets of records 1 and 2 pass the limit on their number")
    ∷ of_octets octets.TooManySubfiles (codes "a head of 8:10 after 4,294,967,295 others")
    ∷ of_octets (octets.Message messages.Sink) (codes "the sink of the story refused what it was told; the dataset is 8:10")
    ∷ of_octets octets.Failed (codes "something was refused before, and the reader was called again; the octet is that of the first refusal, the dataset 0:00")
    ∷ of_script script.OutOfMemory (codes "memory was refused; no refusal's line has it")
    ∷ told 71 (codes "Read") (codes "a read failed")
    ∷ told 72 (codes "Interrupted") (codes "a read was interrupted 1,000,000 times in a row")
    ∷ told (pack_number packs.PastAnnounced) (codes "PastAnnounced") (codes "the object is longer than its announced size or its maximum, or than 4,294,967,295 subfiles hold")
    ∷ told (pack_number packs.ShortOfAnnounced) (codes "ShortOfAnnounced") (codes "the object is shorter than its announced size")
    ∷ of_script script.BadTextOctet (codes "a line of the story has 01, 02, 03, 04, CR or LF in it")
    ∷ of_script script.BadTrailer (codes "the trailer has more than 64 octets, or one that may not stand there")
    ∷ told (pack_number packs.Write) (codes "Write") (codes "a write failed; what is out begins the packed form")
    ∷ told (pack_number packs.Failed) (codes "Failed") (codes "a write failed before, and the packer was called again")
    ∷ told 90 (codes "TooManyEnvelopes") (codes "an input has more than 1,000,000 envelopes; the command prints `too many envelopes`")
    ∷ of_script script.ScriptLine (codes "a line has no form that may stand there, or a line is missing")
    ∷ of_script script.ScriptTooLong (codes "the script has more than 16,777,216 octets; it is told of line 0")
    ∷ told (ticket_fault_number tickets.TicketForm) (ticket_fault_name tickets.TicketForm) (codes "the octets have not the form of a ticket")
    ∷ told (ticket_fault_number tickets.TicketVersion) (ticket_fault_name tickets.TicketVersion) (codes "the ticket is of a version other than 1 and 2")
    ∷ told (ticket_fault_number tickets.Impossible) (ticket_fault_name tickets.Impossible) (codes "no envelope can be at the place that the ticket tells; of version 1, none by the sizes of that version")
    ∷ []

-- the first cause with this number
unfoldable pub cause_entry : ℕ → Option CauseEntry
cause_entry number = find (λ cause. cause.number == number) cause_table

-- the name of the cause with this number, and its meaning
abbrev pub name_for_cause : ℕ → Option (List ℕ)
name_for_cause number = option_map (λ cause. cause.name) (cause_entry number)

abbrev pub cause_text : ℕ → Option (List ℕ)
cause_text number = option_map (λ cause. cause.text) (cause_entry number)

-- ---- The names of layers and of datasets, by their numbers.

-- the name of the first layer with this number
abbrev pub name_in : List Layer → ℕ → Option (List ℕ)
name_in names number = option_map layer_name (find (λ layer. layer_number layer == number) names)

-- the layers
unfoldable pub layer_names : List Layer
layer_names = layers.Dataset ∷ layers.Record ∷ layers.Limits ∷ layers.Object ∷ layers.Message ∷ layers.Story ∷ layers.Outside ∷ []

unfoldable pub name_of_layer : ℕ → Option (List ℕ)
name_of_layer number = name_in layer_names number

-- a dataset and its name
pub record NamedDataset : Type 0 where
  pub rec : ℕ
  pub set : ℕ
  pub name : List ℕ

abbrev pub entry : ℕ → ℕ → List ℕ → NamedDataset
entry rec set name = record { rec = rec; set = set; name = name }

-- the entry has this record and number
abbrev pub is_for : ℕ → ℕ → NamedDataset → Bool
is_for rec set e = (e.rec == rec) && (e.set == set)

-- the datasets of the tables, with the names of the standard
unfoldable pub dataset_names : List NamedDataset
dataset_names =
    entry 1 0 (codes "Model Version")
    ∷ entry 1 5 (codes "Destination")
    ∷ entry 1 20 (codes "File Format")
    ∷ entry 1 22 (codes "File Format Version")
    ∷ entry 1 30 (codes "Service Identifier")
    ∷ entry 1 40 (codes "Envelope Number")
    ∷ entry 1 50 (codes "Product I.D.")
    ∷ entry 1 60 (codes "Envelope Priority")
    ∷ entry 1 70 (codes "Date Sent")
    ∷ entry 1 80 (codes "Time Sent")
    ∷ entry 1 90 (codes "Coded Character Set")
    ∷ entry 1 100 (codes "Unique Name of Object")
    ∷ entry 2 0 (codes "Record Version")
    ∷ entry 2 5 (codes "Object Name")
    ∷ entry 2 7 (codes "Edit Status")
    ∷ entry 2 10 (codes "Urgency")
    ∷ entry 2 15 (codes "Category")
    ∷ entry 2 20 (codes "Supplemental Category")
    ∷ entry 2 22 (codes "Fixture Identifier")
    ∷ entry 2 25 (codes "Keywords")
    ∷ entry 2 30 (codes "Release Date")
    ∷ entry 2 35 (codes "Release Time")
    ∷ entry 2 37 (codes "Expiration Date")
    ∷ entry 2 38 (codes "Expiration Time")
    ∷ entry 2 40 (codes "Special Instructions")
    ∷ entry 2 55 (codes "Date Created")
    ∷ entry 2 60 (codes "Time Created")
    ∷ entry 2 80 (codes "By-line")
    ∷ entry 2 85 (codes "By-line Title")
    ∷ entry 2 90 (codes "City")
    ∷ entry 2 95 (codes "Province/State")
    ∷ entry 2 100 (codes "Country Code")
    ∷ entry 2 101 (codes "Country Name")
    ∷ entry 2 103 (codes "Original Transmission Reference")
    ∷ entry 2 105 (codes "Headline")
    ∷ entry 2 110 (codes "Credit")
    ∷ entry 2 115 (codes "Source")
    ∷ entry 2 116 (codes "Copyright Notice")
    ∷ entry 2 120 (codes "Caption/Abstract")
    ∷ entry 2 122 (codes "Writer/Editor")
    ∷ entry 7 10 (codes "Size Mode")
    ∷ entry 7 20 (codes "Max Subfile Size")
    ∷ entry 7 90 (codes "ObjectData Size Announced")
    ∷ entry 7 95 (codes "Maximum ObjectData Size")
    ∷ entry 8 10 (codes "Subfile")
    ∷ entry 9 10 (codes "Confirmed ObjectData Size")
    ∷ []

unfoldable pub dataset_name_of : ℕ → ℕ → Option (List ℕ)
dataset_name_of rec set = option_map (λ e. e.name) (find (is_for rec set) dataset_names)

-- the name, or no octets
abbrev pub name_or_none : Option (List ℕ) → List ℕ
name_or_none (Some name) = name
name_or_none None = []

-- The buffer begins with the name and a NUL, and the rest is unchanged; or they do not fit, and the
-- whole buffer is unchanged. The count is the length of the name.
abbrev pub WritesName : List ℕ → List ℕ → List ℕ → ℕ → Type 0
WritesName name old new count = (count ≡ length name)
    × (((length name < length old) × (new ≡ (name ++ 0 ∷ []) ++ drop (length name + 1) old)) ⊎ ((length old ≤ length name) × (new ≡ old)))

-- the number of nanoseconds from 1970-01-01T00:00:00Z to an instant
abbrev pub nanoseconds_to : IimInstant → ℤ
nanoseconds_to instant = (instant.second *ℤ pos nanoseconds_in_second) +ℤ pos instant.nanosecond

-- The nanoseconds are fewer than a second has, and the instant is in the range of `jiff`.
abbrev pub IsInstant : IimInstant → Type 0
IsInstant instant = (instant.nanosecond < nanoseconds_in_second) × IsTimestampNanos (nanoseconds_to instant)

-- The instant is valid, and is this many nanoseconds after 1970-01-01T00:00:00Z.
abbrev pub IsInstantAt : IimInstant → ℤ → Type 0
IsInstantAt instant nanosecond = IsInstant instant × (nanosecond ≡ nanoseconds_to instant)

-- The instant is present, and its seconds are rounded down; or it is absent, and its numbers are 0.
abbrev pub IsOptionalInstant : Option ℤ → Bool → IimInstant → Type 0
IsOptionalInstant (Some nanosecond) has instant = (has ≡ true) × (instant.nanosecond < nanoseconds_in_second) × (nanoseconds_to instant ≡ nanosecond)
IsOptionalInstant None has instant = (has ≡ false) × (instant ≡ record { second = pos 0; nanosecond = 0 })
