-- Writing the beginning of an object.
use Rattle.iim_pack.proofs.Words.{◌≡◌, ℕ, ◌+◌, ◌≤◌, None, List, [], ◌++◌, length, take, refl, sym, ap, subst, ◌∙◌, arith, append_assoc, length-append, le-leb, Device, WroteAllOf, WroteOnlyPrefixOf, WithinInterruptionLimit, WritesJoin, canonical_stream, IsWrittenObject, plan_datasets, subfile_datasets, confirmed_datasets, joined_parts, Writing, IsWrittenFrom, IsPrefix, plan_bound, total_of, plan_octets, write_cause, Plan, StartFault, stream_append, OpensObject, StartBreaksOff}
use Rattle.std.proofs.Common.{drop}
use Rattle.std.proofs.lemmas.List.{take-append-drop}
use Rattle.iim_dataset.specs.States.Devices.{WriteFailedAfter}
use Rattle.iim_object.specs.Format.Objects.{most_sizes}
use Rattle.iim_object.specs.States.Writing.{HasWritten, WriterAccepts, WriterFails, IsWrittenOfMore}
use Rattle.iim_object.proofs.{PlanParts.plan_length, Written.front_length}
use Rattle.iim_object.specs.declared.writing.cause.PackCause.TheVariants as causes

pub begins_by : (text rest whole : List ℕ) (n : ℕ) → whole ≡ text ++ rest → IsPrefix (take n text) whole
begins_by text rest whole n e =
    (drop n text ++ rest, sym (append_assoc (take n text) (drop n text) rest) ∙ (ap (λ (t : List ℕ). t ++ rest) (take-append-drop n text) ∙ sym e))

pub total_is : {W : Type 0} (w : Writing W) (xs out : List ℕ) → HasWritten w xs out → length xs ≡ total_of w
total_is w xs out s = omega (arith, ap length s.object_is, s.sent, length-append (joined_parts s.parts) w.held)

pub plan_small : (plan : Plan) → length (plan_octets plan) ≤ most_sizes
plan_small plan = plan_length plan.subfile plan.size

-- The octets written begin with record 7.
whole_begins : (plan : Plan) (xs whole : List ℕ) → (w : IsWrittenObject plan.subfile plan.size xs whole)
    → whole ≡ plan_octets plan ++ canonical_stream (subfile_datasets w.parts ++ confirmed_datasets xs)
whole_begins plan xs whole w = w.octets_are ∙ stream_append (plan_datasets plan.subfile plan.size) (subfile_datasets w.parts ++ confirmed_datasets xs)

-- record 7 could not be written
pub not_started : {W : Type 0} (state : W → Device) (writer : W) (plan : Plan) (front : List ℕ) (fault : StartFault W) → fault.cause ≡ causes.Write
    → WroteOnlyPrefixOf (state writer) (state fault.writer) (plan_octets plan) fault.written
    → WithinInterruptionLimit (fault.written + 1) (state writer) (state fault.writer) → StartBreaksOff state (IsWrittenFrom plan front) writer fault
not_started state writer plan front fault cause s limit = record {
  cause_is = cause;
  out = take fault.written (plan_octets plan);
  appends = s.1;
  broke = s.2;
  retry_limit = omega (arith, limit, front_length fault.written (plan_octets plan) s.0);
  counted = sym (front_length fault.written (plan_octets plan) s.0);
  begins = λ whole w. begins_by (plan_octets plan) (canonical_stream (subfile_datasets w.1.parts ++ confirmed_datasets (front ++ w.0))) whole fault.written
      (whole_begins plan (front ++ w.0) whole w.1);
}

pub opened : {W : Type 0} (state : W → Device) (writer : W) (plan : Plan) (front : List ℕ) (first new : Writing W) → WritesJoin → first.plan ≡ plan
    → HasWritten first [] (plan_octets plan) → WroteAllOf (state writer) (state first.writer) (plan_octets plan)
    → WithinInterruptionLimit (length (plan_octets plan)) (state writer) (state first.writer) → WriterAccepts state first new front
    → OpensObject state writer plan front new
opened state writer plan front first new join is_plan s wrote limit l = record {
  out = plan_octets plan ++ l.more;
  wrote = join.more (state writer) (state first.writer) (state new.writer) (plan_octets plan) l.more wrote l.wrote;
  retry_limit = omega (arith, limit, l.retry_limit, length-append (plan_octets plan) l.more);
  is_plan = l.plan ∙ is_plan;
  stands = l.stands [] (plan_octets plan) s;
}

-- a write failed after the beginning
pub halts_after : {W : Type 0} (state : W → Device) (Form : List ℕ → Type 0) (writer middle end : W) (fault : StartFault W) (out more : List ℕ) (before : ℕ)
    → WritesJoin → WroteAllOf (state writer) (state middle) out
    → WriteFailedAfter (state middle) (state end) more → fault.writer ≡ end → fault.cause ≡ causes.Write → fault.written ≡ before + length more → before
    ≡ length out
    → WithinInterruptionLimit (length out) (state writer) (state middle) → WithinInterruptionLimit (length more + 1) (state middle) (state end)
    → ((whole : List ℕ) → Form whole → IsPrefix (out ++ more) whole) → StartBreaksOff state Form writer fault
halts_after state Form writer middle end fault out more before join wrote broke handed cause written counted limit rest begins =
    let both = join.broke (state writer) (state middle) (state end) out more wrote broke in
    record {
      cause_is = cause;
      out = out ++ more;
      appends = rw handed both.0;
      broke = rw handed both.1;
      retry_limit = rw handed (omega (arith, limit, rest, length-append out more));
      counted = omega (arith, written, counted, length-append out more);
      begins = begins;
    }

-- the octets of the beginning could not be written
pub opening_broke : {W : Type 0} (state : W → Device) (writer : W) (plan : Plan) (front : List ℕ) (first new : Writing W) (fault : StartFault W) → WritesJoin
    → first.plan ≡ plan → HasWritten first [] (plan_octets plan)
    → WroteAllOf (state writer) (state first.writer) (plan_octets plan) → WithinInterruptionLimit (length (plan_octets plan)) (state writer)
    (state first.writer)
    → WriterFails state (IsWrittenOfMore first.plan front) first new → fault.cause ≡ causes.Write → fault.writer ≡ new.writer → fault.written ≡ new.written
    → StartBreaksOff state (IsWrittenFrom plan front) writer fault
opening_broke state writer plan front first new fault join is_plan s wrote limit k cause handed written =
    halts_after state (IsWrittenFrom plan front) writer first.writer new.writer fault (plan_octets plan) k.more first.written join wrote (k.appends, k.broke)
    handed cause (written ∙ k.counted)
    (omega (arith, s.written)) limit k.retry_limit
    (λ whole w. k.begins [] (plan_octets plan) whole s (w.0, subst (λ (p : Plan). IsWrittenObject p.subfile p.size (front ++ w.0) whole) (sym is_plan) w.1))

pub may_open : {W : Type 0} (w : Writing W) (plan : Plan) (front : List ℕ) → w.plan ≡ plan → HasWritten w [] (plan_octets plan) → length front ≤ plan_bound plan
    → write_cause w (length front) ≡ None
may_open w plan front is_plan s fits =
    let nothing : total_of w ≡ 0 = omega (arith, s.sent, ap length s.object_is, length-append (joined_parts s.parts) w.held) in
    rw (s.unfailed, is_plan, le-leb (total_of w + length front) (plan_bound plan) (omega (arith, nothing, fits))) refl
