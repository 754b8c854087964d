-- Statements of the lemmas about all unpackers. The record at the end has a field for each lemma.
use Rattle.std.specs.Prelude.{◌<◌, ◌^◌, ℕ, List, ◌≡◌, ◌≢◌, ◌⊎◌, [], ◌∷◌, None, Some, Result, Ok, Err, IfOk, IfErr, OnOk}
use Rattle.iim_unpack.specs.States.Restored.{IsRestored}
use Rattle.iim_places.specs.Format.{Tickets.IsTicketOf, Tickets.Place, Tickets.ReachesPlace, Open.IsIncomplete}
use Rattle.iim_places.specs.declared.refusal.{Cause.TheVariants.Message, Refusal.Refusal}
use Rattle.iim_unpack.specs.States.Unpacking.{IsDoneWith, HasRead, Unpacking, limits_in, IsDone, Progresses, IsRefusedIn, failed_at, Done, Progress}
use Rattle.wire_story.specs.Format.Texts.{StoryEvent}
use Rattle.wire_message.specs.declared.fault.MessageCause.TheVariants.{Sink}

-- A restored unpacker is in the state of the saved one. If it has the same limits and the same
-- count of octets, it has consumed every incomplete input or envelope that the saved one has
-- consumed, so that each call returns the same for both.
abbrev pub RestoredStateIsTheSavedState : Type 0
RestoredStateIsTheSavedState = (u v : Unpacking) (p ticket : List ℕ) (a : ℕ) → (limits_in u).octets < 2 ^ 32 → (limits_in u).fields < 2 ^ 32 → IsTicketOf p ticket → IsRestored (limits_in u) ticket a v
    → (HasRead u p a → HasRead v p a) × (IsDoneWith u p a → IsDoneWith v p a)

-- The state of an unpacker depends only on the position: an unpacker in the state after some
-- incomplete input is also in the state after every incomplete input that reaches the same
-- position.
abbrev pub PlacesDetermineUnpackers : Type 0
PlacesDetermineUnpackers = (u : Unpacking) (p q : List ℕ) (a : ℕ) (place : Place) → ReachesPlace p place → ReachesPlace q place → HasRead u p a → IsIncomplete (limits_in u) q → HasRead u q a

-- A call with the chunk changed an unpacker from `u` to `v` and returned the answer. These are the
-- clauses of `feed`, without the sink.
pub record ReturnsForChunk (u v : Unpacking) (piece : List ℕ) (answer : Result Progress Refusal) : Type 0 where
  pub goes : IfOk answer (λ progress. (more : List StoryEvent) × ((p : List ℕ) (a : ℕ) → HasRead u p a → Progresses v p a piece more progress))
  pub refused : IfErr answer (λ e. (more : List StoryEvent) × ((p : List ℕ) (a : ℕ) → HasRead u p a → IsRefusedIn (limits_in u) p a piece more e))
  pub failed : IfErr answer (λ e. v.refused ≡ Some e.octet)
  pub done : IsDone u → (answer ≡ Ok (Done 0)) × (v ≡ u)
  pub again : (octet : ℕ) → u.refused ≡ Some octet → (answer ≡ Err (failed_at octet)) × (v ≡ u)
  pub limits : u.refused ≡ None → OnOk answer (limits_in v ≡ limits_in u)

-- The sink did not stop.
abbrev pub IsNotFromSink : Result Progress Refusal → Type 0
IsNotFromSink answer = IfErr answer (λ e. e.cause ≢ Message Sink)

-- The chunks were fed one after another with these answers, and no sink stopped.
abbrev pub ReturnsForChunks : Unpacking → List (List ℕ) → List (Result Progress Refusal) → Type 0
ReturnsForChunks u [] [] = Unit {0}
ReturnsForChunks u (piece ∷ pieces) (answer ∷ answers) = (v : Unpacking) × ReturnsForChunk u v piece answer × IsNotFromSink answer × ReturnsForChunks v pieces answers
ReturnsForChunks u pieces answers = ⊥

-- The two unpackers have the same limits, have consumed the same incomplete input or the same
-- envelope, and have equal counts of octets.
pub record HaveReadTheSame (u v : Unpacking) : Type 0 where
  pub limits : limits_in v ≡ limits_in u
  pub octets : List ℕ
  pub count : ℕ
  pub both : (HasRead u octets count × HasRead v octets count) ⊎ (IsDoneWith u octets count × IsDoneWith v octets count)

-- The two unpackers have consumed the same in this sense, or both have rejected the same octet.
abbrev pub AreEquivalent : Unpacking → Unpacking → Type 0
AreEquivalent u v = HaveReadTheSame u v ⊎ ((octet : ℕ) × (u.refused ≡ Some octet) × (v.refused ≡ Some octet))

-- Equivalent unpackers return the same answer for a chunk, if no sink stops, and are equivalent
-- afterwards.
abbrev pub EquivalentUnpackersReturnTheSame : Type 0
EquivalentUnpackersReturnTheSame = (u v u' v' : Unpacking) (piece : List ℕ) (one other : Result Progress Refusal) → AreEquivalent u v → ReturnsForChunk u u' piece one → ReturnsForChunk v v' piece other
    → IsNotFromSink one → IsNotFromSink other → (one ≡ other) × AreEquivalent u' v'

-- A saved state resumes exactly: equivalent unpackers return the same answers for each list of
-- chunks, if no sink stops.
abbrev pub SavedStateResumesExactly : Type 0
SavedStateResumesExactly = (u v : Unpacking) (pieces : List (List ℕ)) (ones others : List (Result Progress Refusal)) → AreEquivalent u v → ReturnsForChunks u pieces ones → ReturnsForChunks v pieces others
    → ones ≡ others

-- An unpacker that is restored from the ticket of another, with the same limits and the same count
-- of octets, is equivalent to it.
abbrev pub RestoredUnpackersAreEquivalent : Type 0
RestoredUnpackersAreEquivalent = (u v : Unpacking) (p ticket : List ℕ) (a : ℕ) → (limits_in u).octets < 2 ^ 32 → (limits_in u).fields < 2 ^ 32 → HasRead u p a ⊎ IsDoneWith u p a → IsTicketOf p ticket
    → IsRestored (limits_in u) ticket a v → AreEquivalent u v

-- The lemmas about unpackers, with a field for each.
pub record UnpackerLaws : Type 0 where
  pub places_determine_unpackers : PlacesDetermineUnpackers
  pub restored_state_is_the_saved_state : RestoredStateIsTheSavedState
  pub equivalent_unpackers_return_the_same : EquivalentUnpackersReturnTheSame
  pub saved_state_resumes_exactly : SavedStateResumesExactly
  pub restored_unpackers_are_equivalent : RestoredUnpackersAreEquivalent
