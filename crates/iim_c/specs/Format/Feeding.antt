-- The result of feeding a chunk in the state of a ticket.
use Rattle.std.specs.Prelude.{◌≡◌, ◌≢◌, ℕ, ◌+◌, ◌*◌, ◌<◌, ◌≤◌, ◌⊎◌, List, [], ◌∷◌, ◌++◌, length, take, map}
use Rattle.iim_fields.specs.declared.limits.Limits.{Limits}
use Rattle.wire_story.specs.Format.Texts.{StoryEvent, octet_for}
use Rattle.iim_places.specs.{Format.Admitted.Value, States.Restored.EncodesPlace, States.Restored.IsRestoreFault}
use Rattle.iim_places.specs.{Format.Streams.IsEnvelopeWithin, Format.Streams.sum_capped, declared.refusal.Refusal.Refusal}
use Rattle.iim_places.specs.{declared.refusal.Cause.TheVariants.Message, declared.ticket.fault.TicketFault.TicketFault}
use Rattle.iim_places.specs.Format.Open.{IsIncomplete, Delivers, IsTruncatedAt}
use Rattle.iim_places.specs.Format.Tickets.{Place, ReachesPlace, IsTicketOf}
use Rattle.iim_unpack.specs.States.Unpacking.{IsRefusedIn}
use Rattle.wire_message.specs.declared.fault.MessageCause.TheVariants.{Sink}
use Rattle.iim_c.specs.Format.Answers.{status_answer, short_answer, refusal_answer, ticket_answer, IimAnswer, counted, BeginsWith}
use Rattle.iim_c.specs.Format.Statuses as status

-- ---- the state of a ticket

-- The octets reach the ticket's state, and `a` is their number. The state of an empty ticket is
-- reached by no octets, and any other state by the octets that reach the state which the ticket
-- encodes.
abbrev pub ReachesTicket : List ℕ → ℕ → List ℕ → ℕ → Type 0
ReachesTicket [] at p a = (p ≡ []) × (a ≡ 0)
ReachesTicket (x ∷ xs) at p a = ((place : Place) × EncodesPlace (x ∷ xs) place × ReachesPlace p place) × (a ≡ at)

-- The octets reach the ticket's state, and are a viable prefix.
pub record IsViableAt (limits : Limits) (ticket : List ℕ) (at : ℕ) (p : List ℕ) (a : ℕ) : Type 0 where
  pub led : ReachesTicket ticket at p a
  pub is_open : IsIncomplete limits p

-- The octets reach the ticket's state, and are an envelope.
pub record IsCompleteAt (limits : Limits) (ticket : List ℕ) (at : ℕ) (p : List ℕ) (a : ℕ) : Type 0 where
  pub led : ReachesTicket ticket at p a
  pub value : Value
  pub envelope : IsEnvelopeWithin limits p value

-- There are octets that reach the ticket's state. `stands` holds for all of them that are a viable
-- prefix, and `ends` holds for all of them that are an envelope.
pub record HoldsForTicket (limits : Limits) (ticket : List ℕ) (at : ℕ) (stands ends : List ℕ → ℕ → Type 0) : Type 0 where
  pub some : (p : List ℕ) × (a : ℕ) × (IsViableAt limits ticket at p a ⊎ IsCompleteAt limits ticket at p a)
  pub open_octets : (p : List ℕ) (a : ℕ) → IsViableAt limits ticket at p a → stands p a
  pub envelopes : (p : List ℕ) (a : ℕ) → IsCompleteAt limits ticket at p a → ends p a

-- ---- the result for a chunk

-- These octets deliver this text after the octets `p`, with lines joined by LF.
abbrev pub DeliversText : List ℕ → List ℕ → List ℕ → Type 0
DeliversText p octets text = (more : List StoryEvent) × Delivers p octets more × (text ≡ map octet_for more)

-- The envelope can continue after the chunk. The text is that of the chunk, and the ticket encodes
-- the state after it.
pub record CanContinueAfter (limits : Limits) (piece : List ℕ) (octet : ℕ) (text next : List ℕ) (p : List ℕ) (a : ℕ) : Type 0 where
  pub is_open : IsIncomplete limits (p ++ piece)
  pub delivers : DeliversText p piece text
  pub ticket : IsTicketOf (p ++ piece) next
  pub counts : octet ≡ sum_capped a (length piece)

-- An envelope ends after `used` octets of the chunk.
pub record FinishesEnvelope (limits : Limits) (piece : List ℕ) (octet used : ℕ) (text next : List ℕ) (p : List ℕ) (a : ℕ) : Type 0 where
  pub fits : used ≤ length piece
  pub value : Value
  pub envelope : IsEnvelopeWithin limits (p ++ take used piece) value
  pub delivers : DeliversText p (take used piece) text
  pub ticket : IsTicketOf (p ++ take used piece) next
  pub counts : octet ≡ sum_capped a used

-- The envelope was already complete: no octet is consumed.
pub record WasComplete (octet used : ℕ) (text next : List ℕ) (p : List ℕ) (a : ℕ) : Type 0 where
  pub unused : used ≡ 0
  pub no_text : text ≡ []
  pub ticket : IsTicketOf p next
  pub counts : octet ≡ a

-- An octet of the chunk is rejected, and the text is that of the octets before it.
pub record Refuses (limits : Limits) (piece : List ℕ) (e : Refusal) (text : List ℕ) (p : List ℕ) (a : ℕ) : Type 0 where
  pub more : List StoryEvent
  pub refused : IsRefusedIn limits p a piece more e
  pub text_is : text ≡ map octet_for more
  pub by_octets : e.cause ≢ Message Sink

-- There is no state to continue from: the ticket is invalid, or an allocation fails. The answer has
-- the reason.
abbrev pub HasNoState : Limits → List ℕ → IimAnswer → Type 0
HasNoState limits ticket told =
    ((fault : TicketFault) × (ticket ≢ []) × IsRestoreFault limits ticket fault × (told ≡ ticket_answer fault)) ⊎ (told ≡ status_answer status.no_memory)

-- the result for a chunk: its text, the next ticket, and the answer if both fit into their buffers
pub record ChunkOutcome : Type 0 where
  pub text : List ℕ
  pub next : List ℕ
  pub answer : IimAnswer

-- the answer after `octet` octets of an envelope, of which `used` are in the chunk
abbrev pub continuing_answer : (state octet used : ℕ) → ChunkOutcome → IimAnswer
continuing_answer state octet used o = record (status_answer state) { octet = octet; used = used; written = length o.text; ticket = length o.next }

-- The result for a chunk in the state of the ticket: the whole chunk is consumed; or the part up to
-- the end of an envelope is consumed; or one of its octets is rejected; or there is no such state.
abbrev pub IsOutcome : Limits → List ℕ → ℕ → List ℕ → ChunkOutcome → Type 0
IsOutcome limits ticket at piece o =
    ((octet : ℕ) × HoldsForTicket limits ticket at (CanContinueAfter limits piece octet o.text o.next) (λ p a. ⊥) × (o.answer ≡ continuing_answer status.more octet (length piece) o))
    ⊎ ((octet : ℕ) × (used : ℕ) × HoldsForTicket limits ticket at (FinishesEnvelope limits piece octet used o.text o.next) (WasComplete octet used o.text o.next)
    × (o.answer ≡ continuing_answer status.done octet used o))
    ⊎ ((e : Refusal) × HoldsForTicket limits ticket at (Refuses limits piece e o.text) (λ p a. ⊥) × (o.next ≡ [])
    × (o.answer ≡ record (refusal_answer status.refused e) { written = length o.text }))
    ⊎ ((o.text ≡ []) × (o.next ≡ []) × HasNoState limits ticket o.answer)

-- the greatest length of a ticket under these limits
abbrev pub max_ticket_octets : Limits → ℕ
max_ticket_octets limits = limits.octets + 6 * limits.fields + 256

-- The output is no longer than `iim.h` states: the text is at most as long as the chunk, and the
-- ticket is at most as long as the limits allow.
abbrev pub IsShortOutput : Limits → List ℕ → ChunkOutcome → Type 0
IsShortOutput limits piece o = (length o.text ≤ length piece) × (length o.next ≤ max_ticket_octets limits)

-- Both the text and the ticket fit into their buffers, which begin with them, and this is the
-- answer; or one of the buffers is too short.
abbrev pub IsAnswered : ChunkOutcome → List ℕ → List ℕ → IimAnswer → Type 0
IsAnswered o text_out ticket_out told =
    (BeginsWith text_out o.text × BeginsWith ticket_out o.next × (told ≡ o.answer))
    ⊎ (((length text_out < length o.text) ⊎ (length ticket_out < length o.next)) × (told ≡ short_answer (counted o.text) (length o.next)))

-- The chunk is fed in the state of the ticket, and the answer has the result. Buffers of these
-- lengths are never too short.
abbrev pub ReturnsFed : Limits → List ℕ → ℕ → List ℕ → List ℕ → List ℕ → IimAnswer → Type 0
ReturnsFed limits ticket at piece text_out ticket_out told =
    (o : ChunkOutcome) × IsOutcome limits ticket at piece o × IsShortOutput limits piece o × IsAnswered o text_out ticket_out told

-- ---- the end of the input

-- The envelope is truncated.
abbrev pub IsCutShort : IimAnswer → List ℕ → ℕ → Type 0
IsCutShort told p a = (e : Refusal) × IsTruncatedAt p a e × (told ≡ refusal_answer status.truncated e)

-- the result if the input ends in the state of the ticket
abbrev pub ReturnsEnd : Limits → List ℕ → ℕ → IimAnswer → Type 0
ReturnsEnd limits ticket at told =
    HoldsForTicket limits ticket at (IsCutShort told) (λ p a. told ≡ record (status_answer status.done) { octet = a })
    ⊎ ((fault : TicketFault) × (ticket ≢ []) × IsRestoreFault limits ticket fault × (told ≡ ticket_answer fault))
    ⊎ (told ≡ status_answer status.no_memory)
