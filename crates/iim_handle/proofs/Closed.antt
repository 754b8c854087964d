-- A handle that is not open owns nothing, and what opening it comes to.
use Rattle.std.proofs.Common.{◌≡◌, ◌⊎◌, inl, inr, refl, sym, ap, ◌∙◌, ℕ, List, [], false, is_some}
use mathlib.Core.Bool.{true≢false}
use Rattle.std.specs.declared.option.Option.{Option}
use Rattle.std.specs.declared.option.Option.TheVariants.{None, Some}
use Rattle.iim_c.specs.Format.Statuses as status
use Rattle.iim_fields.specs.States.Standing.{room_for}
use Rattle.iim_fields.specs.declared.limits.Limits.{Limits}
use Rattle.iim_handle.specs.Format.{HandleIsOpened, HandleIsRestored}
use Rattle.iim_c.specs.Format.Answers.{status_answer, ticket_answer}
use Rattle.iim_c.specs.declared.answer.IimAnswer.{IimAnswer}
use Rattle.iim_places.specs.States.Restored.{IsRestoreFault}
use Rattle.iim_places.specs.declared.ticket.fault.TicketFault.{TicketFault}
use Rattle.iim_unpack.specs.States.Restored.{IsRestored}
use Rattle.iim_unpack.specs.States.Unpacking.{Unpacking, HasRead, limits_in, capacity_in}

pub closed_none : {X : Type 0} (o : Option X) → false ≡ is_some o → o ≡ None
closed_none None e = refl
closed_none (Some x) e = absurd (true≢false (sym e))

-- an unpacker was put into a closed handle, or there was no memory for it
abbrev pub IsPut : Option Unpacking → Unpacking → ℕ → Type 0
IsPut new u returned = ((new ≡ Some u) × (returned ≡ status.done)) ⊎ ((new ≡ None) × (returned ≡ status.no_memory))

pub put_new_opens : (limits given : Limits) (old new : Option Unpacking) (u : Unpacking) (returned : ℕ) → old ≡ None → given ≡ limits
    → HasRead u [] 0 → limits_in u ≡ given → capacity_in u ≡ room_for given → IsPut new u returned → HandleIsOpened limits old new returned
put_new_opens limits given old new u returned closed same begins within capacity (inl put) =
    rw (closed, put.0, put.1) (record { begins = begins; limits_are = within ∙ same; capacity = capacity ∙ ap room_for same }, refl)
put_new_opens limits given old new u returned closed same begins within capacity (inr none) = rw (closed, none.0, none.1) refl

pub stays_closed_without_memory : (limits : Limits) (old : Option Unpacking) → old ≡ None → HandleIsOpened limits old old status.no_memory
stays_closed_without_memory limits old closed = rw closed refl

pub put_new_restores : (limits given : Limits) (ticket : List ℕ) (at : ℕ) (old new : Option Unpacking) (u : Unpacking) (returned : ℕ) (answer : IimAnswer)
    → old ≡ None → given ≡ limits → IsRestored given ticket at u → capacity_in u ≡ room_for given → answer ≡ status_answer returned → IsPut new u returned
    → HandleIsRestored limits ticket at old new answer
put_new_restores limits given ticket at old new u returned answer closed same is capacity told (inl put) =
    rw (closed, put.0, told, put.1) (rw same at is, capacity ∙ ap room_for same, refl)
put_new_restores limits given ticket at old new u returned answer closed same is capacity told (inr none) = rw (closed, none.0, told, none.1) (inr refl)

pub stays_closed_after_fault : (limits given : Limits) (ticket : List ℕ) (at : ℕ) (old : Option Unpacking) (fault : TicketFault) (answer : IimAnswer)
    → old ≡ None → given ≡ limits → IsRestoreFault given ticket fault → answer ≡ ticket_answer fault → HandleIsRestored limits ticket at old old answer
stays_closed_after_fault limits given ticket at old fault answer closed same is told = rw closed (inl (fault, rw same at is, told))
