-- The first cause by tests is the cause with the lowest number whose condition holds.
use Rattle.iim_object.proofs.Words.{◌≡◌, ℕ, ◌<◌, ◌≤◌, ◌+◌, ◌⊎◌, List, [], ◌∷◌, ◌++◌, sum, Option, Some, None, IfSome, unwrap_or, refl, ap, ◌∙◌, arith, inl, inr, IsViablePrefix, greatest_size, StatedNumber, number_at, ObjectToken, SubfileBegun, ObjectLanguage, Place, HasModeAndLargest, MayFollow, tokens_of, cause_at}
use Rattle.iim_object.specs.declared.reading.fault.SizeCause.{SizeCause}
use Rattle.iim_object.specs.Format.Causes.{bound, number_of_size_cause, ExceedsBound, HasSizeCause}
use Rattle.iim_object.specs.Laws.{CausesAreTheFirst, ObjectsAreRejectedForCauses}
use Rattle.iim_object.proofs.Steps.{announced_small, lives_on, tokens_extend_the_place}

-- Causes with the same number are the same cause.
same_cause : (a b : SizeCause) → number_of_size_cause a ≤ number_of_size_cause b → number_of_size_cause b ≤ number_of_size_cause a → a ≡ b
same_cause a b h k = grind arith

past_given : (o : Option ℕ) (most total : ℕ) → unwrap_or o most < total → (most < total) ⊎ ((n : ℕ) × (o ≡ Some n) × (n < total))
past_given None most total h = inl h
past_given (Some n) most total h = inr (n, refl, h)

-- A total above the bound is above one of its three numbers.
past_met : (ps : List StatedNumber) (total : ℕ) → bound (number_at 90 ps) (number_at 95 ps) < total → ExceedsBound ps total
past_met ps total h =
    let announced = past_given (number_at 90 ps) greatest_size total in
    let most = past_given (number_at 95 ps) greatest_size total in
    grind arith

-- The condition of the reported cause holds.
subfile_holds : (p : Place) (count : ℕ) (c : SizeCause) → HasModeAndLargest p.stated → cause_at p (SubfileBegun count) ≡ Some c → HasSizeCause c p
    (SubfileBegun count)
subfile_holds p count c both e = let met = past_met p.stated (sum p.lengths + count) in grind arith

holds : (p : Place) (token : ObjectToken) (c : SizeCause) → MayFollow p token → cause_at p token ≡ Some c → HasSizeCause c p token
holds p (SubfileBegun count) c may e = subfile_holds p count c may.1 e
holds p token c may e = grind arith

-- No condition of a lower cause holds, and none at all if none is reported.
lowest : (p : Place) (token : ObjectToken) (c told : SizeCause) → IfSome (number_at 90 p.stated) (λ a. a ≤ greatest_size) → HasSizeCause c p token
    → cause_at p token ≡ Some told
    → number_of_size_cause told ≤ number_of_size_cause c
lowest p token c told small h e = grind arith

none_holds : (p : Place) (token : ObjectToken) (c : SizeCause) → IfSome (number_at 90 p.stated) (λ a. a ≤ greatest_size) → HasSizeCause c p token
    → cause_at p token ≡ None → ⊥
none_holds p token c small h e = grind arith

-- ---- The lemmas.

pub first_law : CausesAreTheFirst
first_law p token cause stated may = (
  λ e. record { holds = holds p token cause may e; lowest = λ other h. lowest p token other cause (announced_small p.stated stated) h e },
  λ first. by_told first.holds first.lowest (cause_at p token) refl,
)
  where
    by_told : HasSizeCause cause p token → ((other : SizeCause) → HasSizeCause other p token → number_of_size_cause cause ≤ number_of_size_cause other) →
        (o : Option SizeCause)
        → cause_at p token ≡ o
        → cause_at p token ≡ Some cause
    by_told h least None e = absurd (none_holds p token cause (announced_small p.stated stated) h e)
    by_told h least (Some c) e = e ∙ ap Some
        (same_cause c cause (lowest p token cause c (announced_small p.stated stated) h e) (least c (holds p token c may e)))

pub dies_law : ObjectsAreRejectedForCauses
dies_law reader p token st may = (
  λ dies. cause_for dies.1 (cause_at p token) refl,
  λ (c, h). (
    st.alive,
    λ alive. none_holds p token c (announced_small p.stated st.stated) h ((lives_on p token st may).0 (rw
        (tokens_extend_the_place p token may) alive)),
  ),
)
  where
    cause_for : (IsViablePrefix ObjectLanguage (tokens_of p ++ token ∷ []) → ⊥) → (o : Option SizeCause) → cause_at p token ≡ o
        → (cause : SizeCause) × HasSizeCause cause p token
    cause_for dies None e = absurd (dies (rw (tokens_extend_the_place p token may) at ((lives_on p token st may).1 e)))
    cause_for dies (Some c) e = (c, holds p token c may e)
