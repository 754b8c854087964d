-- `pack`: its effect, from the effects of its parts.
use Rattle.iim_pack_script.proofs.Words.{◌≡◌, ◌<◌, ◌⊎◌, ℕ, ◌+◌, ap, length-append, IfOk, min, ◌≤◌, ◌++◌, List, [], length, inl, inr, refl, take, drop, append_assoc, take-append-drop, sym, subst, ◌∙◌, arith, Bool, true, false, Option, Some, None, Result, Ok, Err, IfErr, IsTrue, Device, WriteFailedAfter, ReadsGave, WroteOnlyPrefixOf, WroteAllOf, IsPrefix, pack_cause, max_script, CompletesPack, Asked, BreaksOffPacking, FailsToPack, WritesForm, IsPast, IsRequestedPlan, IsReadInput, IsScriptRefusal, IsScriptOf, FailsToComplete, FailsToRead, ScriptContent, object_of, IsFresh, block_device, buffer_of, octets_from, IsFaultFor, IsFailedRead, IsFaultOfScript}
use Rattle.std.specs.Prelude.{if◌then◌else◌}
use Rattle.std.specs.Option.{unwrap_or}
use Rattle.std.specs.Io.KnownBytes.{IsAtEnd}
use Rattle.iim_dataset.specs.{Format.Octets.greatest_size, Steps.appends_nothing, Laws.ReadsJoin}
use Rattle.iim_object.specs.Format.Objects.{bound_of, is_plan, most_in}
use Rattle.iim_object.specs.declared.writing.cause.PackCause.TheVariants as causes
use Rattle.iim_object.specs.declared.writing.cause.StartFault.{StartFault}
use Rattle.iim_object.specs.declared.plan.Plan.{Plan}
use Rattle.iim_object.specs.declared.size.Size.TheVariants.{Known, Unknown}
use Rattle.iim_object.proofs.PlanParts.{plan_parts}
use Rattle.iim_dataset.proofs.DeviceLaws.{broke_later}
use Rattle.iim_pack.specs.{Format.Packed.Packed, Laws.PackedFormIsUnique, States.Packing.StartBreaksOff, States.Packing.IsStartFault, States.Packing.Packs}
use Rattle.iim_pack.proofs.Orders.{pack_order}
use Rattle.iim_script.specs.Format.Causes.{IsScriptFault}
use Rattle.iim_script.specs.declared.fault.ScriptFault.{ScriptFault}
use Rattle.iim_output.specs.{Format.limits, Format.IsPrinted, States.Devices.devices}
use Rattle.iim_pack_script.specs.declared.blocks.BlockTarget.{BlockTarget}
use Rattle.iim_pack_script.proofs.BlockSteps.{broken_off, finished}
use Rattle.iim_output.specs.declared.fault.CommandFault.{CommandFault}
use Rattle.iim_output.specs.declared.fault.CommandFault.TheVariants.{CannotRead, CannotWrite, OutOfMemory}
use Rattle.iim_pack_script.specs.declared.packing.PackFault.{PackFault}
use Rattle.iim_pack_script.specs.declared.packing.PackFault.TheVariants.{Refused, Around}

-- ---- a fresh block target

-- the view of a fresh block target, from that of its inner target
abbrev begun : Device → Device
begun d = record { octets = octets_from d.octets [] d.octets; failures = d.failures; interruptions = d.interruptions }

fresh_device : {W : Type 0} (state : W → Device) (old : W) (fresh : BlockTarget W) → fresh.writer ≡ old → IsFresh fresh
    → block_device state fresh ≡ begun (state old)
fresh_device state old fresh is h =
    let first : fresh.first.value ≡ old = h.first_is ∙ is in
    let empty : buffer_of fresh ≡ [] = ap (λ (n : ℕ). take n fresh.block.now) h.empty in
    λ i. record {
      octets = octets_from (state (first i)).octets (empty i) (state (is i)).octets;
      failures = (state (is i)).failures;
      interruptions = (state (is i)).interruptions;
    }

-- ---- the bound of a plan

-- within the bound of the plan, the object is within the requested size
within_by : (unknown : Bool) (max : Option ℕ) (subfile : ℕ) (object : List ℕ)
    → IsTrue (is_plan subfile (if unknown then Unknown max else Known (length object)))
    → length object ≤ bound_of subfile (if unknown then Unknown max else Known (length object))
    → length object ≤ min (if unknown then unwrap_or max greatest_size else greatest_size) (most_in subfile)
within_by false max subfile object plan within =
    let parts = plan_parts subfile (Known (length object)) plan in
    let limit : length object ≤ greatest_size = parts.limit in
    omega (arith, limit, within)
within_by true None subfile object plan within = within
within_by true (Some m) subfile object plan within = within

-- if the packer has no cause against it, the object is within the requested size
room_for : (a : Asked) (t : ScriptContent) (plan : Plan) → IsRequestedPlan a (object_of t) plan → pack_cause t.head t.lines t.trailer plan ≡ None → IsPast a t
    → ⊥
room_for a t plan is none past =
    let against = rw none at (pack_order t.head t.lines t.trailer plan) in
    let within : length (object_of t) ≤ bound_of plan.subfile plan.size = omega (arith, against.1.0) in
    let few = rw is.subfile_is at (within_by a.unknown a.max plan.subfile (object_of t) (rw is.size_is at plan.valid) (rw is.size_is at within)) in
    omega (arith, few, past)

-- ---- the results of a packer

begins_later : (xs ys zs : List ℕ) → IsPrefix xs ys → IsPrefix ys zs → IsPrefix xs zs
begins_later xs ys zs h k = (h.0 ++ k.0, rw (← append_assoc xs h.0 k.0, h.1) k.1)

module _ {W : Type 0} (state : W → Device) (a : Asked) (octets : List ℕ) (t : ScriptContent) (plan : Plan) (old : W) (fresh : BlockTarget W)
    (tells : IsScriptOf octets t) (is_plan : IsRequestedPlan a (object_of t) plan) (same : fresh.writer ≡ old) (is_fresh : IsFresh fresh)
    (none : pack_cause t.head t.lines t.trailer plan ≡ None) where
  -- the form is packed, and the octets buffered at the end were written
  pub packs_contents : (last : W) (new : BlockTarget W) → Packs (block_device state) fresh t.fields t.head t.lines t.trailer plan new
      → WroteAllOf (state new.writer) (state last) (buffer_of new) → WritesForm a octets (state old) (state last)
  packs_contents last new p out =
      let h = subst (λ (d : Device). WroteAllOf d (block_device state new) p.out) (fresh_device state old fresh same is_fresh) p.wrote in (
        t,
        p.out,
        tells,
        record { plan = plan; is_plan = is_plan; packed = p.packed },
        (
          finished (state old).octets (state new.first.value).octets (state new.writer).octets (state last).octets (buffer_of new) p.out h.0 out.0,
          (omega (arith, h.1.0, out.1.0), omega (arith, h.1.1, out.1.1)),
        ),
      )

  -- or they were not all written
  pub breaks_last : PackedFormIsUnique → (last : W) (new : BlockTarget W) → Packs (block_device state) fresh t.fields t.head t.lines t.trailer plan new
      → (out : ℕ) × WroteOnlyPrefixOf (state new.writer) (state last) (buffer_of new) out → BreaksOffPacking a octets (state old) (state last)
  breaks_last one last new p (out, stopped) =
      let h = subst (λ (d : Device). WroteAllOf d (block_device state new) p.out) (fresh_device state old fresh same is_fresh) p.wrote in
      let b = broken_off (state old).octets (state new.first.value).octets (state new.writer).octets (state last).octets (buffer_of new)
      (take out (buffer_of new)) (drop out (buffer_of new)) p.out h.0 (sym (take-append-drop out (buffer_of new))) stopped.1 in (
        t,
        plan,
        b.0,
        tells,
        room_for a t plan is_plan none,
        is_plan,
        (b.1, broke_later (state old) (state new.writer) (state last) h.1 stopped.2),
        λ form other. rw (← one t.fields t.head t.lines t.trailer plan p.out form p.packed other) b.2,
      )

  -- an earlier write failed
  breaks_first : (fault : StartFault (BlockTarget W)) → StartBreaksOff (block_device state) (Packed t.fields t.head t.lines t.trailer plan) fresh fault
      → BreaksOffPacking a octets (state old) (state fault.writer.writer)
  breaks_first fault h =
      let new = fault.writer in
      let k = subst (λ (d : Device). WriteFailedAfter d (block_device state new) h.out) (fresh_device state old fresh same is_fresh) (h.appends, h.broke) in
      let b = broken_off (state old).octets (state new.first.value).octets (state new.writer).octets (state new.writer).octets (buffer_of new) []
      (buffer_of new)
      h.out k.0 refl (appends_nothing (state new.writer).octets) in
      (t, plan, b.0, tells, room_for a t plan is_plan none, is_plan, (b.1, k.1), λ form packed. begins_later b.0 h.out form b.2 (h.begins form packed))

  pub unpacks_told : (fault : StartFault (BlockTarget W)) (why : PackFault)
      → IsStartFault (block_device state) (Packed t.fields t.head t.lines t.trailer plan) fresh fault → IsFaultFor fault.cause t.text_line why
      → FailsToPack a octets (state old) (state fault.writer.writer) why
  unpacks_told fault why (inl m) to = for_memory why (rw m.cause_is at to) (ap (λ b. state b.writer) m.writer_is ∙ ap state same)
    where
      for_memory : {new : Device} (why : PackFault) → IsFaultFor causes.OutOfMemory t.text_line why → new ≡ state old → FailsToPack a octets (state old) new why
      for_memory (Around OutOfMemory) h same = same
      for_memory _ h same = absurd h
  unpacks_told fault why (inr h) to = for_write (state fault.writer.writer) why (rw h.cause_is at to) (breaks_first fault h)
    where
      for_write : (new : Device) (why : PackFault) → IsFaultFor causes.Write t.text_line why → BreaksOffPacking a octets (state old) new
          → FailsToPack a octets (state old) new why
      for_write new (Around CannotWrite) h front = front
      for_write new _ h front = absurd h

-- ---- octets

-- the object exceeds the requested size
pub past_reported : (a : Asked) (octets : List ℕ) (t : ScriptContent) (old : Device) (why : PackFault) → IsScriptOf octets t → IsPast a t
    → IsFaultFor causes.PastAnnounced t.text_line why → FailsToPack a octets old old why
past_reported a octets t old (Refused line number name) tells past h = (refl, inr (t, tells, past, rw (h.0, h.1, h.2) refl))
past_reported a octets t old (Around fault) tells past h = absurd h

-- the first error of a script is reported
pub told_fault : (a : Asked) (octets : List ℕ) (old : Device) (f : ScriptFault) (why : PackFault) → IsScriptFault limits octets f.line f.cause
    → IsFaultOfScript f why → FailsToPack a octets old old why
told_fault a octets old f (Refused line number name) is h = (refl, inl (f.line, f.cause, is, h.0, rw (h.1, h.2, h.3) refl))
told_fault a octets old f (Around OutOfMemory) is h = refl
told_fault a octets old f _ is h = absurd h

-- ---- the input

pub unread : ReadsJoin → (first mid new : Device) (script : List ℕ) (room : ℕ) (fault : CommandFault) → length script ≤ max_script
    → length script + room ≤ max_script + 1
    → ReadsGave first mid script → IsFailedRead mid new room fault → FailsToRead first new fault
unread joins first mid new script room CannotRead few fits given h = (script, h.0, few, joins.missed first mid new script h.0 given h.1)
unread joins first mid new script room CannotWrite few fits given h = absurd h
unread joins first mid new script room OutOfMemory few fits given h =
    let long = length-append script h.0 in
    let some : 0 < length h.0 = h.1 in
    let within : length h.0 ≤ room = h.2 in
    (script ++ h.0, omega (arith, long, within, fits), joins.more first mid new script h.0 given h.3, inl (omega (arith, long, some)))

-- ---- results

few_read : (old new : Device) (octets : List ℕ) → IsReadInput old new octets → length octets ≤ max_script + 1
few_read old new octets read = elim read.1 [ inl h ↦ (let within : length octets ≤ max_script = h.1 in omega (arith, within)) | inr h ↦ omega (arith, h) ]

-- octets were read, or the input is at its end
some_octets_read : (old new : Device) (octets : List ℕ) → IsReadInput old new octets → (0 < length octets) ⊎ IsAtEnd new.octets
some_octets_read old new octets read = elim read.1 [ inl h ↦ inr h.0 | inr h ↦ inl (omega (arith, h)) ]

-- the input was not read
pub unread_as : (a : Asked) (first rest old errors : Device) (fault : CommandFault) → FailsToRead first rest fault
    → FailsToComplete a (devices first old errors) (devices rest old errors) fault
unread_as a first rest old errors CannotWrite h = absurd h
unread_as a first rest old errors _ h = (h, refl)

pub told_refused : (a : Asked) (octets text : List ℕ) (first rest old new errors said : Device) (result : Result ℕ CommandFault)
    → IsReadInput first rest octets → new ≡ old → IsScriptRefusal a octets text → IfOk result (IsPrinted errors said text 1)
    → IfOk result (CompletesPack a (devices first old errors) (devices rest new said))
told_refused a octets text first rest old new errors said (Ok status) read same refusal told = (octets, read, inr (text, refusal, same, told))
told_refused a octets text first rest old new errors said (Err e) read same refusal told = tt

-- the allocation failed for the line that reports a refusal
pub starved_as : (a : Asked) (octets : List ℕ) (first rest old new errors said : Device) (result : Result ℕ CommandFault)
    → IsReadInput first rest octets → new ≡ old → IfErr result (λ fault. fault ≡ OutOfMemory)
    → IfErr result (FailsToComplete a (devices first old errors) (devices rest new said))
starved_as a octets first rest old new errors said (Ok status) read same starved = tt
starved_as a octets first rest old new errors said (Err fault) read same starved =
    rw starved ((octets, few_read first rest octets read, read.0, some_octets_read first rest octets read), same)

pub unanswered_as : (a : Asked) (octets : List ℕ) (first rest old new errors said : Device) (fault : CommandFault) → IsReadInput first rest octets
    → FailsToPack a octets old new (Around fault) → FailsToComplete a (devices first old errors) (devices rest new said) fault
unanswered_as a octets first rest old new errors said CannotRead read h = absurd h
unanswered_as a octets first rest old new errors said CannotWrite read h = (octets, read, h)
unanswered_as a octets first rest old new errors said OutOfMemory read h =
    ((octets, few_read first rest octets read, read.0, some_octets_read first rest octets read), h)
