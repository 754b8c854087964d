-- The rows of the tables: how many octets each dataset may have, of which kind, whether it must
-- occur and whether it may repeat.
use Rattle.std.specs.Prelude.{ℕ, IsTrue, Bool, true, false, ◌&&◌, ◌||◌, ◌==◌, if◌then◌else◌, List, [], ◌∷◌, length, Option, Some, None, IsSomeAnd}
use Rattle.std.specs.{List.find, Option.option_map, Option.option_or}
use Rattle.iim_dataset.specs.Format.Octets.{within, greatest_size}
use Rattle.iim_tables.specs.Format.Kinds.{size_octets, has_kind}
use Rattle.iim_tables.specs.declared.shape.Kind.TheVariants.{Graphic, Spaced, SpacedLines, Letters, Digits, Date, PartDate, Time, Binary, Octets, Mode, Size, SizeFromOne}
use Rattle.iim_tables.specs.declared.shape.Duty.TheVariants.{Mandatory, Optional, ByMode}
use Rattle.iim_tables.specs.declared.shape.{Kind.Kind, Duty.Duty, Row.Row}

-- An entry of the tables: a dataset and its row.
pub record Entry : Type 0 where
  pub rec : ℕ
  pub set : ℕ
  pub row : Row

-- creates an entry: record and number, least and greatest number of octets, kind, duty, whether the
-- dataset repeats
abbrev pub entry : ℕ → ℕ → ℕ → ℕ → Kind → Duty → Bool → Entry
entry rec set least greatest kind duty repeats =
    record { rec = rec; set = set; row = record { min = least; max = greatest; kind = kind; duty = duty; repeats = repeats } }

-- the datasets of the records 1, 2, 7, 8 and 9, in the order and with the names of the standard
unfoldable pub table : List Entry
table =
    entry 1 0 2 2 Binary Mandatory false  -- Model Version
    ∷ entry 1 5 0 1024 Graphic Optional true  -- Destination
    ∷ entry 1 20 2 2 Binary Mandatory false  -- File Format
    ∷ entry 1 22 2 2 Binary Mandatory false  -- File Format Version
    ∷ entry 1 30 0 10 Graphic Mandatory false  -- Service Identifier
    ∷ entry 1 40 8 8 Digits Mandatory false  -- Envelope Number
    ∷ entry 1 50 0 32 Graphic Optional true  -- Product I.D.
    ∷ entry 1 60 1 1 Digits Optional false  -- Envelope Priority
    ∷ entry 1 70 8 8 Date Mandatory false  -- Date Sent
    ∷ entry 1 80 11 11 Time Optional false  -- Time Sent
    ∷ entry 1 90 0 32 Octets Optional false  -- Coded Character Set
    ∷ entry 1 100 14 80 Octets Optional false  -- Unique Name of Object
    ∷ entry 2 0 2 2 Binary Mandatory false  -- Record Version
    ∷ entry 2 5 0 64 Spaced Optional false  -- Object Name
    ∷ entry 2 7 0 64 Spaced Optional false  -- Edit Status
    ∷ entry 2 10 1 1 Digits Optional false  -- Urgency
    ∷ entry 2 15 0 3 Letters Optional false  -- Category
    ∷ entry 2 20 0 32 Spaced Optional true  -- Supplemental Category
    ∷ entry 2 22 0 32 Graphic Optional false  -- Fixture Identifier
    ∷ entry 2 25 0 64 Spaced Optional true  -- Keywords
    ∷ entry 2 30 8 8 Date Optional false  -- Release Date
    ∷ entry 2 35 11 11 Time Optional false  -- Release Time
    ∷ entry 2 37 8 8 Date Optional false  -- Expiration Date
    ∷ entry 2 38 11 11 Time Optional false  -- Expiration Time
    ∷ entry 2 40 0 256 SpacedLines Optional false  -- Special Instructions
    ∷ entry 2 55 8 8 PartDate Optional false  -- Date Created
    ∷ entry 2 60 11 11 Time Optional false  -- Time Created
    ∷ entry 2 80 0 32 Spaced Optional true  -- By-line
    ∷ entry 2 85 0 32 Spaced Optional true  -- By-line Title
    ∷ entry 2 90 0 32 Spaced Optional false  -- City
    ∷ entry 2 95 0 32 Spaced Optional false  -- Province/State
    ∷ entry 2 100 0 3 Letters Optional false  -- Country Code
    ∷ entry 2 101 0 64 Spaced Optional false  -- Country Name
    ∷ entry 2 103 0 32 Spaced Optional false  -- Original Transmission Reference
    ∷ entry 2 105 0 256 Spaced Optional false  -- Headline
    ∷ entry 2 110 0 32 Spaced Optional false  -- Credit
    ∷ entry 2 115 0 32 Spaced Optional false  -- Source
    ∷ entry 2 116 0 128 Spaced Optional false  -- Copyright Notice
    ∷ entry 2 120 0 2000 SpacedLines Optional false  -- Caption/Abstract
    ∷ entry 2 122 0 32 Spaced Optional true  -- Writer/Editor
    ∷ entry 7 10 1 1 Mode Mandatory false  -- Size Mode
    ∷ entry 7 20 1 size_octets SizeFromOne Mandatory false  -- Max Subfile Size
    ∷ entry 7 90 1 size_octets Size ByMode false  -- ObjectData Size Announced
    ∷ entry 7 95 1 size_octets Size Optional false  -- Maximum ObjectData Size
    ∷ entry 8 10 0 greatest_size Octets Mandatory true  -- Subfile
    ∷ entry 9 10 1 size_octets Size Mandatory false ∷ []  -- Confirmed ObjectData Size

-- the row of the first entry for this record and number
abbrev pub row_in : List Entry → ℕ → ℕ → Option Row
row_in entries rec set = option_map (λ e. e.row) (find (λ e. e.rec == rec && e.set == set) entries)

-- the row of a dataset that is not in the tables: up to 8,192 octets of any kind, any number of
-- times
abbrev pub unread_row : Row
unread_row = record { min = 0; max = 8192; kind = Octets; duty = Optional; repeats = true }

-- records 1 and 2 have this row for every other number, and other records have no other numbers
abbrev pub row_of_unread : ℕ → Option Row
row_of_unread rec = if rec == 1 || rec == 2 then Some unread_row else None

-- the row of a dataset, if it has one
unfoldable pub row_of : ℕ → ℕ → Option Row
row_of rec set = option_or (row_in table rec set) (row_of_unread rec)

-- the number of octets is within the row's bounds, and they are of its kind
abbrev pub is_admitted : Row → List ℕ → Bool
is_admitted r xs = within r.min r.max (length xs) && has_kind r.kind xs

-- the dataset has a row, and the octets are valid for it
abbrev pub OctetsMeetRow : ℕ → ℕ → List ℕ → Type 0
OctetsMeetRow rec set xs = IsSomeAnd (row_of rec set) (λ r. IsTrue (is_admitted r xs))
