-- The tickets of possible positions, their contents, and why a ticket is rejected.
use Rattle.std.specs.Prelude.{◌≡◌, ℕ, ◌+◌, ◌<◌, ◌≤◌, List, length, map}
use Rattle.iim_fields.specs.{Format.Causes.joined, declared.limits.Limits.Limits}
use Rattle.iim_places.specs.States.Possible.{IsPossibleInVersion, AreHeadsWithin, partial_count, partial_fields}
use Rattle.iim_places.specs.Format.TicketForm.{Contents, IsTicketVersion, HasContents, IsTicketFormFault, TicketForm, TicketVersion, Impossible, HeaderFull, TooManyFields, OutOfMemory}
use Rattle.iim_places.specs.Format.Tickets.{Place, ticket_in_version, Phase, PartialTag, PartialData, AllEnded}
use Rattle.iim_places.specs.declared.ticket.split.TicketPhase.TheVariants.{Tag, Data, Ended}
use Rattle.iim_places.specs.declared.ticket.{fault.TicketFault.TicketFault, split.TicketParts.TicketParts}
use Rattle.iim_places.specs.declared.ticket.{split.TicketPhase.TicketPhase}

-- The octets are the ticket of this position, in a version in which the position is possible.
pub record EncodesPlace (ticket : List ℕ) (place : Place) : Type 0 where
  pub version : ℕ
  pub is_version : IsTicketVersion version
  pub possible : IsPossibleInVersion version place
  pub spelled : ticket ≡ ticket_in_version version place

-- The sum of the counts in the heads of records 1 and 2 in the position, including that of a
-- dataset in progress, and the number of these heads.
abbrev pub counted_octets : Place → ℕ
counted_octets p = length (joined p.fields) + partial_count p.section p.phase

abbrev pub counted_fields : Place → ℕ
counted_fields p = length p.fields + partial_fields p.section p.phase

-- The limit that `octets` octets and `fields` datasets exceed.
abbrev pub IsLimitFault : Limits → (octets fields : ℕ) → TicketFault → Type 0
IsLimitFault limits octets fields HeaderFull = limits.octets < octets
IsLimitFault limits octets fields TooManyFields = (octets ≤ limits.octets) × (limits.fields < fields)
IsLimitFault limits octets fields _ = ⊥

-- Why no unpacker is restored from the octets. They do not have the form of a ticket, or have an
-- unknown version. Or they have the form of a ticket, but encode no possible position. Or the heads
-- of records 1 and 2 at that position exceed the limit on octets, or otherwise the limit on
-- datasets. Or the allocation of memory fails.
abbrev pub IsRestoreFault : Limits → List ℕ → TicketFault → Type 0
IsRestoreFault limits ticket TicketForm = IsTicketFormFault ticket TicketForm
IsRestoreFault limits ticket TicketVersion = IsTicketFormFault ticket TicketVersion
IsRestoreFault limits ticket Impossible = ((s : Contents) × HasContents ticket s) × ((place : Place) → EncodesPlace ticket place → ⊥)
IsRestoreFault limits ticket HeaderFull = (place : Place) × EncodesPlace ticket place × (limits.octets < counted_octets place)
IsRestoreFault limits ticket TooManyFields = (place : Place) × EncodesPlace ticket place × (counted_octets place ≤ limits.octets) × (limits.fields < counted_fields place)
IsRestoreFault limits ticket OutOfMemory = (place : Place) × EncodesPlace ticket place × AreHeadsWithin limits place

-- ---- the models of the Rust types

abbrev pub phase_of_ticket : TicketPhase → Phase
phase_of_ticket (Tag held) = PartialTag held.now
phase_of_ticket (Data set count left taken) = PartialData set count left taken.now
phase_of_ticket Ended = AllEnded

abbrev pub contents_from : TicketParts → Contents
contents_from p = record {
  version = p.version;
  section = p.section;
  phase = phase_of_ticket p.phase;
  fields = p.fields;
  numbers = p.numbers;
  taken = p.taken;
  heads = p.heads;
  part = p.part;
  counter = p.counter;
  flag = p.flag;
  texts = map (λ t. t.now) p.texts;
}
