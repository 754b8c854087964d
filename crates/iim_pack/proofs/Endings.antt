-- Writing the end of an object.
use Rattle.iim_pack.proofs.Words.{◌≡◌, ℕ, ◌+◌, ◌≤◌, false, None, List, [], ◌++◌, length, refl, sym, subst, append_assoc, append-nil, arith, length-append, le-leb, Device, WroteAllOf, WithinInterruptionLimit, WritesJoin, is_short, IsWrittenObject, Writing, plan_bound, total_of, write_cause, Plan}
use Rattle.iim_object.specs.States.Writing.{HasWritten, WriterAccepts, WriterFails, IsWrittenOfMore, IsWrittenOf, WriterFinishes, finish_cause}
use Rattle.iim_object.proofs.Written.{breaks_on}

-- what is written of the object with its last octets
abbrev pub EndsWithTail : Plan → List ℕ → List ℕ → List ℕ → Type 0
EndsWithTail plan tail object whole = IsWrittenOf plan (object ++ tail) whole

-- The complete object was written, with its last octets. There were at most a million interruptions
-- per octet written by this call.
pub record Ends {W : Type 0} (state : W → Device) (old : Writing W) (tail : List ℕ) (writer : W) : Type 0 where
  pub more : List ℕ
  pub wrote : WroteAllOf (state old.writer) (state writer) more
  pub retry_limit : WithinInterruptionLimit (length more) (state old.writer) (state writer)
  pub whole : (object out : List ℕ) → HasWritten old object out → EndsWithTail old.plan tail object (out ++ more)

pub ends : {W : Type 0} (state : W → Device) (old mid : Writing W) (tail : List ℕ) (writer : W) → WritesJoin → WriterAccepts state old mid tail
    → WriterFinishes state mid writer → Ends state old tail writer
ends state old mid tail writer join l f = record {
  more = l.more ++ f.more;
  wrote = join.more (state old.writer) (state mid.writer) (state writer) l.more f.more l.wrote f.wrote;
  retry_limit = omega (arith, l.retry_limit, f.retry_limit, length-append l.more f.more);
  whole = λ object out s. rw (← l.plan, ← append_assoc out l.more f.more) (f.whole (object ++ tail) (out ++ l.more) (l.stands object out s));
}

-- the tail could not be written
pub tail_broke : {W : Type 0} (state : W → Device) (old new : Writing W) (tail : List ℕ) → WriterFails state (IsWrittenOfMore old.plan tail) old new
    → WriterFails state (EndsWithTail old.plan tail) old new
tail_broke state old new tail k = record {
  more = k.more;
  appends = k.appends;
  broke = k.broke;
  retry_limit = k.retry_limit;
  plan = k.plan;
  failed = k.failed;
  counted = k.counted;
  begins = λ object out whole s w. k.begins object out whole s
      ([], subst (λ (t : List ℕ). IsWrittenObject old.plan.subfile old.plan.size t whole) (sym (append-nil (object ++ tail))) w);
}

-- what follows the tail could not be written
pub end_broke : {W : Type 0} (state : W → Device) (old mid new : Writing W) (tail : List ℕ) → WritesJoin → WriterAccepts state old mid tail
    → WriterFails state (IsWrittenOf mid.plan) mid new → WriterFails state (EndsWithTail old.plan tail) old new
end_broke state old mid new tail join l k =
    breaks_on state (IsWrittenOf mid.plan) (EndsWithTail old.plan tail) old mid new tail join l
    (λ object whole w. subst (λ (p : Plan). IsWrittenObject p.subfile p.size (object ++ tail) whole) (sym l.plan) w) k

pub may_write : {W : Type 0} (w : Writing W) (n : ℕ) → w.failed ≡ false → total_of w + n ≤ plan_bound w.plan → write_cause w n ≡ None
may_write w n unfailed fits = rw (unfailed, le-leb (total_of w + n) (plan_bound w.plan) fits) refl

pub may_finish : {W : Type 0} (state : W → Device) (old mid : Writing W) (tail : List ℕ) → WriterAccepts state old mid tail
    → is_short old.plan.size (total_of old + length tail) ≡ false → finish_cause mid ≡ None
may_finish state old mid tail l whole =
    let now : is_short mid.plan.size (total_of mid) ≡ false = rw (l.plan, l.total) whole in
    rw (l.unfailed, now) refl
