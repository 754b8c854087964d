-- The octets that may come next in the state of a ticket.
use Rattle.iim_c.proofs.Words.{◌≡◌, ◌≢◌, ℕ, ◌+◌, ◌<◌, ◌≤◌, List, [], ◌∷◌, ◌++◌, inl, inr, take, refl, sym, ap, subst, ◌∙◌, arith, append-nil, Bool, true, false, if◌then◌else◌, cases_eq, Limits, StoryEvent, IsIncomplete, sum_capped, Refusal, Message, Sink, Unpacking, Progresses, IsDoneWith, IsRefusedIn, limits_in, Progress, IsSet}
use Rattle.iim_places.specs.{Format.Streams.IsEnvelopeWithin, Format.Streams.RefusesOctet, Laws.RefusedOctetsHaveNoContinuation, Laws.IncompleteBeginsWithNoEnvelope}
use Rattle.iim_places.specs.declared.fault.TokenFault.{TokenFault}
use Rattle.iim_unpack.specs.declared.unpacker.Progress.TheVariants.{More, Done}
use Rattle.iim_c.specs.{Format.Answers.IimAnswer, Format.Feeding.HasNoState, Format.Feeding.HoldsForTicket, Steps.IsSet}
use Rattle.iim_c.specs.Format.Tickets.{IsAccepted, ReturnsNext, BitIsAcceptance, bit_of, no_octets}
use Rattle.std.proofs.Common.{◌≡◌, ◌≢◌, ℕ, ◌/◌, ◌%◌, ◌<◌, List, get_or, set, replicate, ap, ◌∙◌, arith}
use Rattle.std.specs.Int.{bit_at}
use Rattle.std.proofs.lemmas.List.{get_or-replicate, get_or_past, length-replicate}
use Rattle.std.proofs.lemmas.Nat.Bits.{bit_at-zero}

-- ---- one octet

accepted_by_done : (limits : Limits) (v : Unpacking) (p : List ℕ) (a octet used : ℕ) → IncompleteBeginsWithNoEnvelope → IsIncomplete limits p → limits_in v
    ≡ limits → used ≤ 1
    → IsDoneWith v (p ++ take used (octet ∷ [])) a → IsAccepted limits p octet
accepted_by_done limits v p a octet used law opens same few done =
    elim (cases_eq used 0) as (λ _. IsAccepted limits p octet) [
      | inl none ↦
          (let q : IsDoneWith v (p ++ []) a = rw none at done in
          absurd (law limits p (p ++ []) [] q.value opens (sym (append-nil p) ∙ sym (append-nil (p ++ []))) q.admits))
      | inr some ↦
          (let one : used ≡ 1 = omega (arith, few, some) in
          let q : IsDoneWith v (p ++ octet ∷ []) a = rw one at done in
          inr (q.value, subst (λ (l : Limits). IsEnvelopeWithin l (p ++ octet ∷ []) q.value) same (record { admits = q.admits; within = q.within })))
    ]

pub goes_taken : (limits : Limits) (v : Unpacking) (p : List ℕ) (a octet : ℕ) (more : List StoryEvent) (progress : Progress)
    → IncompleteBeginsWithNoEnvelope → IsIncomplete limits p → limits_in v ≡ limits → Progresses v p a (octet ∷ []) more progress → IsAccepted limits p octet
goes_taken limits v p a octet more More law opens same goes = inl (rw same at goes.0.is_open)
goes_taken limits v p a octet more (Done used) law opens same goes = accepted_by_done limits v p (sum_capped a used) octet used law opens same goes.0 goes.1

-- a rejected octet has no valid continuation, so its bit is either set or not
rejected_is_not_accepted : RefusedOctetsHaveNoContinuation → (limits : Limits) (p : List ℕ) (octet : ℕ) → IsAccepted limits p octet
    → (fault : TokenFault) (k : RefusesOctet limits p octet fault) → ⊥
rejected_is_not_accepted law limits p octet (inl opens) fault k = (law limits p [] octet fault k).0 opens
rejected_is_not_accepted law limits p octet (inr whole) fault k = (law limits p [] octet fault k).1 whole.0 whole.1

pub tells_taken : RefusedOctetsHaveNoContinuation → (limits : Limits) (p : List ℕ) (octet : ℕ) → IsAccepted limits p octet → BitIsAcceptance limits p octet 1
tells_taken law limits p octet taken = record {
  taken = (λ _. taken, λ _. refl);
  refused = (λ none. absurd (omega (arith, none)), λ dead. absurd (rejected_is_not_accepted law limits p octet taken dead.0 dead.1));
}

pub tells_refused : RefusedOctetsHaveNoContinuation → (limits : Limits) (p : List ℕ) (octet : ℕ) → ((fault : TokenFault) × RefusesOctet limits p octet fault)
    → BitIsAcceptance limits p octet 0
tells_refused law limits p octet dead = record {
  taken = (λ one. absurd (omega (arith, one)), λ taken. absurd (rejected_is_not_accepted law limits p octet taken dead.0 dead.1));
  refused = (λ _. dead, λ _. refl);
}

-- ---- the result of trying an octet

-- what holds of one octet if the envelope is incomplete
abbrev pub HoldsForOctet : Limits → List ℕ → ℕ → ℕ → Type 0
HoldsForOctet limits ticket next bit = HoldsForTicket limits ticket 0 (λ p a. BitIsAcceptance limits p next bit) (λ p a. ⊥)

pub rejected_by_refusal : (limits : Limits) (p : List ℕ) (a octet : ℕ) (more : List StoryEvent) (e : Refusal) → e.cause ≢ Message Sink
    → IsRefusedIn limits p a (octet ∷ []) more e
    → (fault : TokenFault) × RefusesOctet limits p octet fault
rejected_by_refusal limits p a octet more e sinkless r =
    let first : r.k ≡ 0 = (let w = r.within in omega (arith, w)) in
    (r.fault, record { refuses = rw (first, append-nil p) at r.refuses; by_octets = λ is. sinkless (ap (λ (x : Refusal). x.cause) r.refusal ∙ is) })

-- ---- all octets

-- The bits of the first octets are right, and no other bit is set.
pub record BitsAreAcceptance (limits : Limits) (ticket : List ℕ) (count : ℕ) (bits : List ℕ) : Type 0 where
  pub told : (next : ℕ) → next < count → HoldsForOctet limits ticket next (bit_of bits next)
  pub rest : (next : ℕ) → count ≤ next → bit_of bits next ≡ 0

-- one more octet, whose bit is set if it is accepted
put : (old new : List ℕ) (octet : ℕ) (taken : Bool) → (taken ≡ true → IsSet old new octet 1) → (taken ≡ false → new ≡ old) → bit_of old octet ≡ 0
    → IsSet old new octet (if taken then 1 else 0)
put old new octet taken set same none = grind arith

pub put_if_wanted : (limits : Limits) (ticket : List ℕ) (count : ℕ) (old new : List ℕ) (taken : Bool) → BitsAreAcceptance limits ticket count old
    → (taken ≡ true → IsSet old new count 1)
    → (taken ≡ false → new ≡ old) → HoldsForOctet limits ticket count (if taken then 1 else 0) → BitsAreAcceptance limits ticket (count + 1) new
put_if_wanted limits ticket count old new taken before set same said_of =
    let s = put old new count taken set same (before.rest count (omega arith)) in
    record {
      told = λ next below.
          elim (cases_eq next count) as (λ _. HoldsForOctet limits ticket next (bit_of new next)) [
            | inl is ↦ rw (is, s.set) said_of
            | inr other ↦ rw (s.others next other) (before.told next (omega (arith, below, other)))
          ];
      rest = λ next above. s.others next (λ is. omega (arith, above, is)) ∙ before.rest next (omega (arith, above));
    }

-- the empty set has no bit set
no_bit_in_zeros : (n i : ℕ) → ◌≡◌ {A = ℕ} (get_or (replicate n 0) i 0) 0
no_bit_in_zeros n i = grind (arith, get_or-replicate, get_or_past, length-replicate)

pub empty_set_has_no_bit : (octet : ℕ) → bit_of no_octets octet ≡ 0
empty_set_has_no_bit octet = ap (λ (n : ℕ). bit_at n (octet % 8)) (no_bit_in_zeros 32 (octet / 8)) ∙ bit_at-zero (octet % 8)

-- ---- without a state

pub nowhere : (limits : Limits) (ticket : List ℕ) (told : IimAnswer) → HasNoState limits ticket told → ReturnsNext limits ticket no_octets told
nowhere limits ticket told (inl (fault, some, why, is)) = inr (inr (inl (fault, some, why, refl, is)))
nowhere limits ticket told (inr none) = inr (inr (inr (refl, none)))
