-- Positions of the object after its end, and before it.
use Rattle.std.proofs.Common.{◌≡◌, ℕ, [], ◌∷◌, ◌++◌, Option, refl, subst, arith}
use Rattle.iim_places.proofs.Words.{nil_from_length, IsViablePrefix, TokensExtendThePlace, ObjectToken, ObjectEnded, Confirmed, ObjectLanguage, NotEnded, Ended, ConfirmedAs, MayFollow, place_after, tokens_of, IsPossible, State}
use Rattle.iim_places.proofs.Living.{viable_prefix}
use Rattle.iim_object.specs.{Format.Objects.Place, States.Reading.RejectsObjectHead, States.Reading.RejectsObjectValue, States.Reading.ObjectReaderStandsAt}
use Rattle.iim_object.specs.declared.reading.fault.ObjectFault.{ObjectFault}
use Rattle.iim_object.specs.declared.reading.fault.ObjectFault.TheVariants.{Size, Stopped}
use Rattle.iim_places.specs.NullObjectSink.{null_sink_accepts, null_sink_stops}
use Rattle.iim_places.specs.declared.ticket.object.NullObjectSink.{NullObjectSink}

-- the end is allowed at a position after which it is possible
pub may_end : (p : Place) → p.ending ≡ NotEnded → IsPossible (place_after p ObjectEnded) → MayFollow p ObjectEnded
may_end p open' is = (open', grind (arith, nil_from_length p.lengths, is.subfiles))

before : TokensExtendThePlace → (p : Place) (token : ObjectToken) → MayFollow p token → IsViablePrefix ObjectLanguage (tokens_of (place_after p token))
    → IsViablePrefix ObjectLanguage (tokens_of p)
before law p token may alive = viable_prefix ObjectLanguage (tokens_of p) (token ∷ []) (subst (IsViablePrefix ObjectLanguage) (law p token may) alive)

pub before_end : TokensExtendThePlace → (p : Place) → p.ending ≡ NotEnded → IsPossible (place_after p ObjectEnded) → IsPossible p
before_end law p open' is =
    record { stated = is.stated; subfiles = λ none. open'; duties = is.duties; few = is.few; alive = before law p ObjectEnded (may_end p open' is) is.alive }

pub before_size : TokensExtendThePlace → (p : Place) (n : ℕ) → IsPossible (place_after (place_after p ObjectEnded) (Confirmed n))
    → IsPossible (place_after p ObjectEnded)
before_size law p n is =
    let alive = before law (place_after p ObjectEnded) (Confirmed n) refl is.alive in
    let some : p.lengths ≡ [] → Ended ≡ NotEnded = λ none. absurd (let bad : ConfirmedAs n ≡ NotEnded = is.subfiles none in cc) in
    record { stated = is.stated; subfiles = some; duties = is.duties; few = is.few; alive = alive }

-- after a token that the layer rejects, no position is possible
pub not_possible : TokensExtendThePlace → (p : Place) (token : ObjectToken) → MayFollow p token → (IsViablePrefix ObjectLanguage (tokens_of p ++ token ∷ [])
    → ⊥)
    → IsPossible (place_after p token) → ⊥
not_possible law p token may dead is = dead (subst (IsViablePrefix ObjectLanguage) (law p token may) is.alive)

pub value_refused : TokensExtendThePlace → (object : Option State) (token : ObjectToken) (fault : ObjectFault) → RejectsObjectValue object token fault
    → (p : Place) → ObjectReaderStandsAt object p → MayFollow p token → IsPossible (place_after p token) → ⊥
value_refused law object token (Size cause) refuses p at may is = not_possible law p token may (refuses p at may).0.1 is
value_refused law object token (Stopped stop) refuses p at may is = refuses

pub end_refused : TokensExtendThePlace → (object : Option State) (a b : NullObjectSink) (fault : ObjectFault)
    → RejectsObjectHead null_sink_accepts null_sink_stops object ObjectEnded a b fault
    → (p : Place) → ObjectReaderStandsAt object p → MayFollow p ObjectEnded → IsPossible (place_after p ObjectEnded) → ⊥
end_refused law object a b (Size cause) refuses p at may is = not_possible law p ObjectEnded may (refuses.0 p at may).0.1 is
end_refused law object a b (Stopped stop) refuses p at may is = refuses.3
