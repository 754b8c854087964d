-- Why a packer rejects a call: the condition of each cause, and the order in which they are
-- checked.
use Rattle.std.specs.Prelude.{◌≡◌, ℕ, Bool, IsTrue, List, ◌∷◌, ◌++◌, Option, Some, None}
use Rattle.std.specs.List.{AllByRecursion}
use Rattle.iim_object.specs.States.Writing.{ExceedsPlan, IsBelowKnown}
use Rattle.iim_object.specs.declared.writing.cause.PackCause.TheVariants.{PastAnnounced, ShortOfAnnounced, BadTextOctet, BadTrailer, Failed}
use Rattle.iim_object.specs.declared.{plan.Plan.Plan, writing.cause.PackCause.PackCause}
use Rattle.wire_story.specs.Format.Texts.{IsLine}
use Rattle.wire_message.specs.Format.Messages.{IsTrailer}

-- The cause is in the list `order`, its condition holds, and the condition of no cause before it
-- holds.
pub record IsFirstIn (Says : PackCause → Type 0) (order : List PackCause) (cause : PackCause) : Type 0 where
  pub before : List PackCause
  pub after : List PackCause
  pub order_is : order ≡ before ++ cause ∷ after
  pub none_before : AllByRecursion (λ other. Says other → ⊥) before
  pub holds : Says cause

-- the first cause in the list `order` whose condition holds, or none
abbrev pub IsFirstInOrder : (PackCause → Type 0) → List PackCause → Option PackCause → Type 0
IsFirstInOrder Says order (Some cause) = IsFirstIn Says order cause
IsFirstInOrder Says order None = AllByRecursion (λ cause. Says cause → ⊥) order

-- The condition of each cause. It depends on whether a write failed before the call, on the octets
-- of a line and the trailer that are passed in the call, if any, on the plan, and on the least
-- length in octets that the object will have.
abbrev pub CauseHolds : Bool → List ℕ → List ℕ → Plan → ℕ → PackCause → Type 0
CauseHolds failed line trailer plan size Failed = IsTrue failed
CauseHolds failed line trailer plan size BadTextOctet = IsLine line → ⊥
CauseHolds failed line trailer plan size BadTrailer = IsTrailer trailer → ⊥
CauseHolds failed line trailer plan size PastAnnounced = ExceedsPlan plan size
CauseHolds failed line trailer plan size ShortOfAnnounced = IsBelowKnown plan size
CauseHolds failed line trailer plan size _ = ⊥
