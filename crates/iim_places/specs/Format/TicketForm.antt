-- The form of a ticket and of its parts. A ticket of this form need not encode a position that any
-- input reaches.
use Rattle.std.specs.Prelude.{◌≡◌, ℕ, ◌^◌, ◌<◌, List, length, Option, Some, None, ⊤, ◌-◌, ◌≤◌, ◌==◌, if◌then◌else◌, [], ◌∷◌, ◌++◌, ◌⊎◌, ◌+◌, codes}
use Rattle.std.specs.List.{AllByRecursion, flat_map}
use Rattle.iim_dataset.specs.Format.Datasets.{Dataset}
use Rattle.iim_places.specs.Format.Tickets.{width, Phase, PartialTag, PartialData, AllEnded, first_version, second_version, layout, text_octets}
use Rattle.iim_places.specs.declared.ticket.fault.TicketFault.{TicketFault}
pub use Rattle.iim_places.specs.declared.ticket.fault.TicketFault.TheVariants.{TicketForm, TicketVersion, HeaderFull, Impossible, OutOfMemory, TooManyFields}

-- The length of the dataset fits into four octets.
abbrev pub FitsInField : Dataset → Type 0
FitsInField d = length d.octets < 2 ^ 32

-- The number fits into the width of the version.
abbrev pub FitsWidth : ℕ → ℕ → Type 0
FitsWidth version n = n < 256 ^ width version

-- The number is absent or fits into the width of the version.
abbrev pub IsOptionalIn : ℕ → Option ℕ → Type 0
IsOptionalIn version None = ⊤
IsOptionalIn version (Some n) = FitsWidth version n

-- The length of the text fits into one octet.
abbrev pub IsShortText : List ℕ → Type 0
IsShortText xs = length xs < 256

-- The number of datasets fits into four octets, and so does the length of each.
pub record AreTicketFields (ds : List Dataset) : Type 0 where
  pub each : AllByRecursion FitsInField ds
  pub few : length ds < 2 ^ 32

-- The numbers of 7:10, 7:20, 7:90 and 7:95, each absent or with the width of the version.
pub record AreTicketNumbers (version : ℕ) (numbers : List (Option ℕ)) : Type 0 where
  pub each : AllByRecursion (IsOptionalIn version) numbers
  pub four : length numbers ≡ 4

-- The texts of the message: source, number, priority, category, words, info and trailer.
pub record AreTicketTexts (texts : List (List ℕ)) : Type 0 where
  pub each : AllByRecursion IsShortText texts
  pub seven : length texts ≡ 7

-- The model of an iterator over the datasets of a ticket: the remaining datasets.
abbrev pub remaining_datasets : List Dataset → List Dataset
remaining_datasets ds = ds

-- ---- The form of a ticket.

-- The parts: the version; the section; what is in progress; the datasets; the numbers of record 7;
-- the number of octets of the object and of heads of 8:10 received; and the part, the counter, the
-- flag and the texts of the message.
pub record Contents : Type 0 where
  pub version : ℕ
  pub section : ℕ
  pub phase : Phase
  pub fields : List Dataset
  pub numbers : List (Option ℕ)
  pub taken : ℕ
  pub heads : ℕ
  pub part : ℕ
  pub counter : ℕ
  pub flag : ℕ
  pub texts : List (List ℕ)

-- the encoding of these parts
abbrev pub contents_octets : Contents → List ℕ
contents_octets s = layout s.version s.section s.phase s.fields s.numbers s.taken s.heads ((s.part ∷ s.counter ∷ s.flag ∷ []) ++ flat_map text_octets s.texts)

-- the number of octets of data in progress that are stored
abbrev pub came : (section count left : ℕ) → ℕ
came section count left = if section == 8 then 0 else count - left

-- There are two versions.
abbrev pub IsTicketVersion : ℕ → Type 0
IsTicketVersion version = (version ≡ first_version.number) ⊎ (version ≡ second_version.number)

-- A partial tag has fewer octets than five plus the width of a number. The data in progress that
-- remain are at most the count, and the octets received are stored, except those of a subfile.
abbrev pub IsTicketPhase : ℕ → ℕ → Phase → Type 0
IsTicketPhase version section (PartialTag held) = length held < 5 + width version
IsTicketPhase version section (PartialData set count left taken) = FitsWidth version count × (left ≤ count) × (length taken ≡ came section count left)
IsTicketPhase version section AllEnded = ⊤

-- The parts have the form of a ticket: each number fits into the octets that encode it.
pub record HasForm (s : Contents) : Type 0 where
  pub version : IsTicketVersion s.version
  pub phase : IsTicketPhase s.version s.section s.phase
  pub fields : AreTicketFields s.fields
  pub numbers : AreTicketNumbers s.version s.numbers
  pub taken : FitsWidth s.version s.taken
  pub heads : s.heads < 2 ^ 32
  pub texts : AreTicketTexts s.texts

-- The octets have the form of a ticket, with these parts.
pub record HasContents (ticket : List ℕ) (s : Contents) : Type 0 where
  pub form : HasForm s
  pub spelled : ticket ≡ contents_octets s

-- The octets begin with a ticket's name, followed by an unknown version.
pub record HasOtherVersion (ticket : List ℕ) : Type 0 where
  pub version : ℕ
  pub rest : List ℕ
  pub named : ticket ≡ codes "IIMT" ++ version ∷ rest
  pub other : IsTicketVersion version → ⊥

-- TicketVersion is reported if and only if a ticket's name is followed by an unknown version.
-- TicketForm is reported for all other octets that are not a ticket.
abbrev pub IsTicketFormFault : List ℕ → TicketFault → Type 0
IsTicketFormFault ticket TicketVersion = HasOtherVersion ticket
IsTicketFormFault ticket TicketForm = (HasOtherVersion ticket → ⊥) × ((s : Contents) → HasContents ticket s → ⊥)
IsTicketFormFault ticket _ = ⊥
