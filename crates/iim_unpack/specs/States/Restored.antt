-- The unpacker restored from a ticket.
use Rattle.std.specs.Prelude.{◌≡◌, ℕ, ◌⊎◌, List, ◌+◌, ◌*◌, ◌≤◌, length, take}
use Rattle.iim_fields.specs.declared.limits.Limits.{Limits}
use Rattle.iim_places.specs.{Format.Admitted.Value, States.Possible.AreHeadsWithin, Format.Streams.IsEnvelopeWithin}
use Rattle.iim_places.specs.{Format.Open.IsIncomplete, States.Restored.EncodesPlace}
use Rattle.iim_places.specs.Format.Tickets.{Place, ReachesPlace, IsTicketOf}
use Rattle.iim_unpack.specs.States.Unpacking.{Unpacking, HasRead, IsDoneWith, limits_in}

-- The octets are the ticket of a possible position whose heads are within the limits. The unpacker
-- has these limits. It is in the state after every incomplete input and after every envelope that
-- reaches the position, and there is at least one of these. Its count of octets is `at`.
pub record IsRestored (limits : Limits) (ticket : List ℕ) (at : ℕ) (u : Unpacking) : Type 0 where
  pub place : Place
  pub is_ticket : EncodesPlace ticket place
  pub within : AreHeadsWithin limits place
  pub limits_are : limits_in u ≡ limits
  pub stands : (p : List ℕ) → ReachesPlace p place → IsIncomplete limits p → HasRead u p at
  pub done : (p : List ℕ) (v : Value) → ReachesPlace p place → IsEnvelopeWithin limits p v → IsDoneWith u p at
  pub some : (p : List ℕ) × ReachesPlace p place × (HasRead u p at ⊎ IsDoneWith u p at)

-- The ticket of the unpacker has `count` octets. The buffer begins with it if it fits.
pub record WritesTicketOf (u : Unpacking) (out : List ℕ) (count : ℕ) : Type 0 where
  pub ticket : List ℕ
  pub is_ticket : (p : List ℕ) (a : ℕ) → HasRead u p a ⊎ IsDoneWith u p a → IsTicketOf p ticket
  pub counts : count ≡ length ticket
  pub few : count ≤ (limits_in u).octets + 6 * (limits_in u).fields + 256
  pub stands : count ≤ length out → take count out ≡ ticket
