-- The answer of a call, and the contents of a buffer that octets are written into.
use Rattle.std.specs.Prelude.{ℕ, ◌≡◌, ◌≤◌, List, ◌++◌, length, take, map}
use Rattle.iim_places.specs.{Format.Causes.cause_number, Format.Streams.sum_capped, declared.refusal.Refusal.Refusal}
use Rattle.iim_places.specs.{declared.refusal.Layer.Layer, declared.ticket.fault.TicketFault.TicketFault}
use Rattle.iim_places.specs.declared.refusal.Layer.TheVariants.{Dataset, Record, Limits, Object, Message, Story, Outside}
use Rattle.iim_places.specs.declared.ticket.fault.TicketFault.TheVariants.{OutOfMemory}
use Rattle.iim_places.specs.Format.Faults.{ticket_fault_number}
use Rattle.iim_c.specs.Format.Statuses as status
use Rattle.wire_story.specs.Format.Texts.{StoryEvent, octet_for}
pub use Rattle.iim_c.specs.declared.answer.IimAnswer.{IimAnswer}
use Rattle.iim_c.specs.declared.text_out.TextOut.{TextOut}

-- the answer in which all fields except the status are 0
abbrev pub status_answer : ℕ → IimAnswer
status_answer status = record {
  status = status;
  layer = 0;
  cause = 0;
  rec = 0;
  set = 0;
  octet = 0;
  used = 0;
  written = 0;
  ticket = 0;
}

-- the answer for a buffer that is too short: the number of octets of text or the number of rows,
-- and the length of the ticket
abbrev pub short_answer : ℕ → ℕ → IimAnswer
short_answer written ticket = record (status_answer status.short) { written = written; ticket = ticket }

-- the numbers of the layers
abbrev pub layer_number : Layer → ℕ
layer_number Dataset = 1
layer_number Record = 2
layer_number Limits = 3
layer_number Object = 4
layer_number Message = 5
layer_number Story = 6
layer_number Outside = 7

-- the answer for a refusal
abbrev pub refusal_answer : ℕ → Refusal → IimAnswer
refusal_answer status e = record (status_answer status) {
  layer = layer_number e.layer;
  cause = cause_number e.cause;
  rec = e.rec;
  set = e.set;
  octet = e.octet;
}

-- the answer for an invalid ticket; a failed allocation has its own status
abbrev pub ticket_answer : TicketFault → IimAnswer
ticket_answer OutOfMemory = status_answer status.no_memory
ticket_answer fault = record (status_answer status.bad_ticket) { cause = ticket_fault_number fault }

-- the length of octets as a counter of 64 bits has it, which saturates at the greatest number
abbrev pub counted : List ℕ → ℕ
counted octets = sum_capped 0 (length octets)

-- The buffer begins with these octets, all of which fit into it.
abbrev pub BeginsWith : List ℕ → List ℕ → Type 0
BeginsWith out octets = (length octets ≤ length out) × (take (length octets) out ≡ octets)

-- The count is the length of these octets, and the buffer begins with them if they fit.
abbrev pub HasTaken : List ℕ → ℕ → List ℕ → Type 0
HasTaken out count octets = (count ≡ counted octets) × (length octets ≤ length out → take (length octets) out ≡ octets)

-- The sink received these octets after earlier ones, and writes into the same buffer.
pub record WritesOctets (old : TextOut) (octets : List ℕ) (new : TextOut) : Type 0 where
  pub same : new.out.ghost_name ≡ old.out.ghost_name
  pub room : length new.out.now ≡ length old.out.now
  pub taken : (before : List ℕ) → HasTaken old.out.now old.count before → HasTaken new.out.now new.count (before ++ octets)

-- The sink received these events.
abbrev pub WritesLines : TextOut → List StoryEvent → TextOut → Type 0
WritesLines old events new = WritesOctets old (map octet_for events) new
