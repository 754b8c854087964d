-- The state of a ticket, and the unpacker in that state.
use Rattle.iim_c.proofs.Words.{◌≡◌, ◌==◌, ◌⊎◌, ℕ, true, length, arith, List, [], ◌∷◌, inl, inr, refl, sym, ap, ◌∙◌, get_or, None, Limits, ◌≢◌, Cause, CountsSinkFailure, Message, Sink, PlaceLaws, EncodesPlace, Place, ReachesPlace, Unpacking, HasRead, IsDone, IsDoneWith, limits_in}
use Rattle.iim_places.specs.{Laws.TicketsEncodeOnePlace, Format.Tickets.ticket_in_version}
use Rattle.iim_c.specs.{Steps.IsBegun, Format.Feeding.IsViableAt, Format.Feeding.IsCompleteAt, Format.Feeding.HoldsForTicket}

-- Some octets have reached the ticket's state.
abbrev pub IsPlace : Limits → List ℕ → ℕ → Type 0
IsPlace limits ticket at = (p : List ℕ) × (a : ℕ) × (IsViableAt limits ticket at p a ⊎ IsCompleteAt limits ticket at p a)

-- An unpacker is restored: some octets have reached the ticket's state, and the unpacker is in the
-- state after all octets that have, under its limits.
pub record Begun (limits : Limits) (ticket : List ℕ) (at : ℕ) (u : Unpacking) : Type 0 where
  pub some : IsPlace limits ticket at
  pub stands : (p : List ℕ) (a : ℕ) → IsViableAt limits ticket at p a → HasRead u p a
  pub ends : (p : List ℕ) (a : ℕ) → IsCompleteAt limits ticket at p a → IsDoneWith u p a
  pub same : limits_in u ≡ limits

-- a ticket encodes one state, and all octets that reach the ticket reach it
ticket_reaches_one_state : TicketsEncodeOnePlace → (ticket p : List ℕ) (q : Place) → ((place : Place) × EncodesPlace ticket place × ReachesPlace p place)
    → EncodesPlace ticket q → ReachesPlace p q
ticket_reaches_one_state law ticket p q (place, h, led) k =
    let same : ticket_in_version h.version place ≡ ticket_in_version k.version q = sym h.spelled ∙ k.spelled in
    let version : h.version ≡ k.version = ap (λ (xs : List ℕ). get_or xs 4 0) same in
    rw (← law h.version place q h.is_version h.possible (rw version k.possible) (same ∙ ap (λ (n : ℕ). ticket_in_version n q) (sym version))) led

-- an envelope is not empty, so no envelope reaches the empty ticket
pub begun : PlaceLaws → (limits : Limits) (ticket : List ℕ) (at : ℕ) (u : Unpacking) → IsBegun limits ticket at u → Begun limits ticket at u
begun laws limits [] at u is = record {
  some = ([], 0, inl (record { led = (refl, refl); is_open = rw is.1 at is.0.is_open }));
  stands = λ p a s. rw (s.led.0, s.led.1) is.0;
  ends = λ p a e.
      let framed = laws.envelopes_are_framed limits p e.value e.envelope.admits e.envelope.within in
      absurd (laws.no_envelope_is_empty limits (rw e.led.0 at framed));
  same = is.1;
}
begun laws limits (x ∷ xs) at u is = record {
  some = elim is.some.2 as (λ _. IsPlace limits (x ∷ xs) at) [
    | inl stands ↦ (is.some.0, at, inl (record { led = ((is.place, is.is_ticket, is.some.1), refl); is_open = rw is.limits_are at stands.is_open }))
    | inr done ↦ (
      is.some.0,
      at,
      inr (record {
        led = ((is.place, is.is_ticket, is.some.1), refl);
        value = done.value;
        envelope = record { admits = done.admits; within = rw is.limits_are at done.within };
      }),
    )
  ];
  stands = λ p a s. rw s.led.1 (is.stands p (ticket_reaches_one_state laws.tickets_encode_one_place (x ∷ xs) p is.place s.led.0 is.is_ticket) s.is_open);
  ends = λ p a e. rw e.led.1 (is.done p e.value (ticket_reaches_one_state laws.tickets_encode_one_place (x ∷ xs) p is.place e.led.0 is.is_ticket) e.envelope);
  same = is.limits_are;
}

pub is_done : {u : Unpacking} {p : List ℕ} {a : ℕ} → IsDoneWith u p a → IsDone u
is_done d = (d.taking, d.ended)

pub not_open : (u : Unpacking) → IsDone u → (p : List ℕ) (a : ℕ) → HasRead u p a → ⊥
not_open u done p a stands = let h = sym stands.unended ∙ done.1 in cc

-- what holds of the octets that the unpacker has consumed, and of those with which it is done,
-- holds of the ticket's octets
pub said : {limits : Limits} {ticket : List ℕ} {at : ℕ} {u : Unpacking} → Begun limits ticket at u → (stands ends : List ℕ → ℕ → Type 0)
    → ((p : List ℕ) (a : ℕ) → HasRead u p a → stands p a) → ((p : List ℕ) (a : ℕ) → IsDoneWith u p a → ends p a) → HoldsForTicket limits ticket at stands ends
said b stands ends standing done =
    record { some = b.some; open_octets = λ p a s. standing p a (b.stands p a s); envelopes = λ p a e. done p a (b.ends p a e) }

-- what holds of a state holds of the unpacker in that state
pub holds_for_unpacker : (P : Type 0) {limits : Limits} {ticket : List ℕ} {at : ℕ} {u : Unpacking} → Begun limits ticket at u
    → ((p : List ℕ) (a : ℕ) → HasRead u p a → P) → ((p : List ℕ) (a : ℕ) → IsDoneWith u p a → P) → P
holds_for_unpacker P b standing done = elim b.some.2 as (λ _. P) [ inl s ↦ standing _ _ (b.stands _ _ s) | inr e ↦ done _ _ (b.ends _ _ e) ]

pub restored_is_alive : {limits : Limits} {ticket : List ℕ} {at : ℕ} {u : Unpacking} → Begun limits ticket at u → u.refused ≡ None
restored_is_alive {u} b = holds_for_unpacker (u.refused ≡ None) b (λ p a stands. stands.taking) (λ p a done. done.taking)

-- a refusal with which no failure is counted is not that of the sink
pub refusal_is_not_of_sink : (cause : Cause) → CountsSinkFailure cause 0 0 → cause ≢ Message Sink
refusal_is_not_of_sink cause counts is = grind arith

-- ---- the empty ticket

pub begun_none : (limits : Limits) (ticket : List ℕ) (at : ℕ) (u : Unpacking) → true ≡ (length ticket == 0) → HasRead u [] 0 → limits_in u ≡ limits
    → IsBegun limits ticket at u
begun_none limits [] at u empty stands same = (stands, same)
begun_none limits (x ∷ xs) at u empty stands same = grind arith
