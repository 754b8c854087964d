-- The beginning and the end of a run.
use Rattle.iim_commands.proofs.Imports.{◌≡◌, ℕ, ◌⊎◌, inl, inr, refl, ap, ◌∙◌, List, [], Option, None, Some, Result, Ok, Err, IfOk, IfErr, Device, CommandFault, status_failed, input_of, PrintsError, EndsOrPrintsError}
use Rattle.iim_unpack.specs.States.Blocks.{with_unread, prepend_to}
use Rattle.iim_unpack.specs.declared.intake.Intake.{Intake}

none_before : (known : Option (List ℕ)) → prepend_to [] known ≡ known
none_before None = refl
none_before (Some xs) = refl

-- a reader without buffered octets
pub with_none_held : (pending : List ℕ) (d : Device) → pending ≡ [] → with_unread pending d ≡ d
with_none_held pending d is = rw is (λ i. record { octets = none_before d.octets i; failures = d.failures; interruptions = d.interruptions })

-- a new intake over a reader
pub begun : {R : Type 0} (state : R → Device) (intake : Intake R) (reader : R) → intake.block ≡ [] → intake.reader ≡ reader
    → input_of state intake ≡ state reader
begun state intake reader none is = with_none_held intake.block (state intake.reader) none ∙ ap state is

-- with its result, or an error that is printed
pub ends : (P : ℕ → Type 0) (Q : CommandFault → Type 0) (old new : Device) (answer : Result ℕ CommandFault) (status : ℕ) → IfOk answer P → IfErr answer Q
    → IfOk answer (λ want. (status ≡ want) × (new ≡ old)) → IfErr answer (λ fault. (status ≡ status_failed) × PrintsError old new fault)
    → EndsOrPrintsError (P status × (new ≡ old)) (λ fault before. Q fault × (before ≡ old)) new status
ends P Q old new (Ok want) status ok err same told = inl (rw same.0 ok, same.1)
ends P Q old new (Err fault) status ok err same told = inr (fault, old, (err, refl), told.1, told.0)
