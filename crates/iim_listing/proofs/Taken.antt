-- How an unpacker in the initial state is fed up to the end of an envelope, and what an intake
-- returns.
use Rattle.iim_listing.proofs.Words.{◌≡◌, ◌⊎◌, ℕ, inl, inr, refl, sym, ap, subst, ◌∙◌, arith, List, [], length, take, Option, Some, Result, take-length, Device, StoryEvent, Unpacking, limits_in, sum_capped, Joined, ReadsJoin, DeliveryOfChunksJoins, Refusal, CommandFault, EnvelopeIsRead, CountsFailuresOfSink, IsNextItem, RefusalIsRead, limits, EventsAreDelivered, no_text, ◌-◌, ◌^◌, ◌<◌, ◌∷◌, length-append, IsAtEnd, ReadsGave}
use Rattle.std.proofs.Common.{◌≢◌, append-nil}
use Rattle.iim_dataset.specs.declared.device.IoFault.{IoFault}
use Rattle.iim_dataset.specs.declared.device.IoFault.TheVariants as io
use Rattle.iim_unpack.specs.declared.intake.IntakeFault.{IntakeFault}
use Rattle.iim_unpack.specs.declared.intake.IntakeFault.TheVariants.{Refused, Read, Interrupted}
use Rattle.iim_unpack.specs.States.Intakes.{Faults, IsCompleted, ReaderFails, HasRefused, WasTruncated, HasFed, AcceptsInput, HasEnded}
use Rattle.iim_unpack.specs.States.Unpacking.{CountsSinkFailure, IsDoneWith, AreSame, HasRead}
use Rattle.iim_places.specs.{Format.Open.Delivers, Format.Admitted.AreWithinLimits, Laws.IncompleteOctetsAreBounded}
use Rattle.iim_fields.specs.declared.limits.Limits.{Limits}
use Rattle.iim_unpack.proofs.Intakes.{fed_and_done, fed_and_faults, missed_open, fed_few, fed_none, fed_nothing, fed_on, fed_then, raised_on, some_received}
use Rattle.iim_places.specs.declared.refusal.Cause.{Cause}
use Rattle.iim_places.specs.declared.refusal.Cause.TheVariants.{Message, Truncated}
use Rattle.wire_message.specs.declared.fault.MessageCause.TheVariants as messages
use Rattle.iim_listing.specs.States.{CanReadNext, ReadFailsInside, FlushFailsInside, SinkStops}
use Rattle.iim_listing.specs.Steps.{IsNextForFault}
use Rattle.iim_listing.specs.declared.coming.Next.{Next}

delivered_of : (octets : List ℕ) (more : List StoryEvent) → Delivers [] octets more → EventsAreDelivered octets more
delivered_of octets more adds = let added = adds [] no_text in (added.0, added.1, added.2)

-- the sink's number of failures, if it did not stop
failures_unchanged_unless_stopped : (cause : Cause) (before now : ℕ) → cause ≢ Message messages.Sink → CountsSinkFailure cause before now → now ≡ before
failures_unchanged_unless_stopped (Message messages.Sink) before now other counts = absurd (other refl)
failures_unchanged_unless_stopped _ before now other counts = counts

-- ---- why an intake returns no envelope

module _ {S : Type 0} (goes : S → List StoryEvent → S → Type 0) (failures : S → ℕ) (old new : Device) (u v : Unpacking) (a b : S)
    (same : limits_in u ≡ limits) (at : HasRead u [] 0) where
  is_refusal : (e : Refusal) → e.cause ≢ Message messages.Sink → HasRefused goes failures old new u v a b e ⊎ WasTruncated goes failures old new u v a b e
      → RefusalIsRead goes old new a b e × (failures b ≡ failures a)
  is_refusal e other (inl w) =
      let is = rw same at (w.refuses [] 0 at) in (
        record {
          octets = w.octets;
          more = w.more;
          came = w.came;
          k = is.k;
          refused = inr (record {
            within = is.within;
            fault = is.fault;
            refusal = is.refusal;
            kills = record { refuses = is.refuses; by_octets = λ sunk. other (rw is.refusal sunk) };
          });
          at_end = λ all. absurd (omega (arith, all, is.within));
          delivered = delivered_of (take is.k w.octets) w.more is.adds;
        },
        failures_unchanged_unless_stopped e.cause (failures a) (failures b) other w.counts,
      )
  is_refusal e other (inr w) =
      let is = rw same at (w.truncated [] 0 at) in (
        record {
          octets = w.octets;
          more = w.more;
          came = w.came;
          k = length w.octets;
          refused = inl (record { some = is.some; is_open = is.is_open; truncated = is.truncated }, refl);
          at_end = λ all. w.at_end;
          delivered = rw take-length (delivered_of w.octets w.more is.adds);
        },
        w.no_failure,
      )

  is_unheard : (e : Refusal) → e.cause ≡ Message messages.Sink → HasRefused goes failures old new u v a b e ⊎ WasTruncated goes failures old new u v a b e
      → SinkStops goes failures old new a b
  is_unheard e sink (inl w) =
      let is = w.refuses [] 0 at in
      record {
        octets = w.octets;
        more = w.more;
        came = w.came;
        k = is.k;
        within = is.within;
        delivered = delivered_of (take is.k w.octets) w.more is.adds;
        rose = subst (λ (c : Cause). CountsSinkFailure c (failures a) (failures b)) sink w.counts;
      }
  is_unheard e sink (inr w) = let cause : e.cause ≡ Truncated = ap (λ (x : Refusal). x.cause) (w.truncated [] 0 at).truncated.refusal in cc

  is_cut_off : (kept : ℕ) (fault : IoFault) → ReaderFails goes failures old new u v a b kept fault → ReadFailsInside goes old new a b
  is_cut_off kept fault w =
      let is = missed_open goes failures old new u v a b kept fault w [] 0 at in
      record {
        octets = w.octets;
        more = w.more;
        fault = fault;
        missed = w.missed;
        told = w.told;
        is_open = rw same at is.0;
        delivered = delivered_of w.octets w.more is.1;
      }

  -- the next item, the sink's number of failures, and whether the next one can be read
  fault_next : (is_flushed : S → Type 0) (write_failed : S → S → Type 0) (alive : Option ℕ) (fault : IntakeFault) (result : Result Next CommandFault)
      → (kept : ℕ) × Faults goes failures old new u v a b kept fault → (((e : Refusal) → fault ≢ Refused e) → is_flushed b) → IsNextForFault fault result
      → IsNextItem goes failures is_flushed write_failed (old, a) (new, v, b) result × CountsFailuresOfSink (failures a) (failures b) result
      × CanReadNext alive result
  fault_next is_flushed write_failed alive (Refused e) result (kept, f) rests (inl (sink, is)) = rw is (inl (is_unheard e sink f.1), tt, tt)
  fault_next is_flushed write_failed alive (Refused e) result (kept, f) rests (inr (other, is)) =
      let (refusal, no_failure) = is_refusal e other f.1 in
      rw is (refusal, no_failure, tt)
  fault_next is_flushed write_failed alive Read result (kept, f) rests is = rw is ((is_cut_off kept io.Failed f, rests (λ e is. cc)), f.no_failure, tt)
  fault_next is_flushed write_failed alive Interrupted result (kept, f) rests is = rw is (
    (
      is_cut_off kept io.Interrupted f,
      rests
          (λ e is. cc),
    ),
    f.no_failure,
    tt,
  )

-- ---- how an unpacker is fed up to the end of an envelope

empty_too : (used : ℕ) (xs ys : List ℕ) → used ≡ sum_capped 0 (length xs) → used ≡ sum_capped 0 (length ys) → xs ≡ [] → ys ≡ []
empty_too used xs [] one two none = refl
empty_too used xs (y ∷ ys) one two none = absurd (omega (arith, one, two, ap length none))

-- What was fed to an unpacker that was in the initial state, within the limits; without octets
-- nothing was passed to the sink.
pub record HasFedFromStart {S : Type 0} (goes : S → List StoryEvent → S → Type 0) (old new : Device) (v : Unpacking) (a b : S) : Type 0 where
  pub first : Unpacking
  pub stood : HasRead first [] 0
  pub within : limits_in first ≡ limits
  pub used : ℕ
  pub fed : HasFed goes old new first v a b used
  pub still : fed.octets ≡ [] → goes a [] b

pub nothing_fed_yet : {S : Type 0} (goes : S → List StoryEvent → S → Type 0) → ReadsJoin → (d : Device) (u : Unpacking) (a : S) → HasRead u [] 0
    → limits_in u ≡ limits → goes a [] a → HasFedFromStart goes d d u a a
nothing_fed_yet goes joins d u a at same nothing =
    let fed = fed_none goes joins d u a (omega (arith, at.counts)) nothing in
    record { first = u; stood = at; within = same; used = 0; fed = fed; still = λ none. nothing }

module _ {S : Type 0} {goes : S → List StoryEvent → S → Type 0} {old mid : Device} {v : Unpacking} {a d : S} (joined : Joined goes)
    (h : HasFedFromStart goes old mid v a d) where
  -- the sink was flushed
  pub take_out : {e : S} → goes d [] e → HasFedFromStart goes old mid v a e
  take_out {e} told =
      let fed = fed_on joined h.fed told in
      let still = λ (none : fed.octets ≡ []).
      joined a d e [] [] (h.still (empty_too h.used fed.octets h.fed.octets fed.counts h.fed.counts none)) told in
      record { first = h.first; stood = h.stood; within = h.within; used = h.used; fed = fed; still = still }

  -- no octets were read, and none are unread
  pub take_ended : {new : Device} {e : S} (is_flushed : S → Type 0) → ReadsJoin → HasEnded mid new v d e → is_flushed d
      → ReadsGave old new [] × IsAtEnd new.octets × goes a [] e × is_flushed e
  take_ended {new} is_flushed joins ended rests =
      let octets = h.fed.octets in
      let empty : octets ≡ [] = fed_nothing h.fed [] 0 h.stood ended in (
        subst (λ (ys : List ℕ). ReadsGave old new ys) (append-nil octets ∙ empty) (joins.more old mid new octets [] h.fed.came.given ended.given),
        ended.at_end,
        rw ended.still (h.still empty),
        rw ended.still rests,
      )

  pub is_ready : AcceptsInput v
  is_ready =
      let there = (h.fed.stands [] 0 h.stood).0 in
      (there.taking, there.unended)

  -- one more chunk
  pub take_more : {new : Device} {w : Unpacking} {e : S} {k : ℕ} → ReadsJoin → DeliveryOfChunksJoins → (0 < k) × AcceptsInput w × HasFed goes mid new v w d e k
      → HasFedFromStart goes old new w a e
  take_more {k = k} joins cut (some, ready, two) =
      let used = sum_capped h.used k in
      let fed = fed_then joined joins cut h.fed two refl in
      let still = λ (none : fed.octets ≡ []). absurd (some_received (raised_on h.used k used some refl) fed none) in
      record { first = h.first; stood = h.stood; within = h.within; used = used; fed = fed; still = still }

  pub fewer_left : {new : Device} {w : Unpacking} {e : S} {k : ℕ} → IncompleteOctetsAreBounded → ReadsJoin → DeliveryOfChunksJoins
      → (0 < k) × AcceptsInput w × HasFed goes mid new v w d e k → 2 ^ 64 - 1 - w.octets < 2 ^ 64 - 1 - v.octets
  fewer_left {k = k} law joins cut (some, ready, two) =
      let one = h.fed in
      let both = fed_then {now = sum_capped h.used k} joined joins cut one two refl in
      let within : limits_in v ≡ limits = one.limits ∙ h.within in
      omega (
        arith,
        some,
        one.counts,
        two.counts,
        (one.stands [] 0 h.stood).0.counts,
        (both.stands [] 0 h.stood).0.counts,
        length-append one.octets two.octets,
        fed_few law one (rw within (omega arith)) (rw within (omega arith)) [] 0 h.stood,
      )

-- ---- for an unpacker that was fed

-- an unpacker is done
pub taken_whole : {S : Type 0} {goes : S → List StoryEvent → S → Type 0} {old mid new : Device} {v w : Unpacking} {a d e : S} {k octets : ℕ} → Joined goes
    → ReadsJoin → DeliveryOfChunksJoins → HasFedFromStart goes old mid v a d → IsCompleted goes mid new v w d e k → octets ≡ w.octets
    → EnvelopeIsRead goes old new w a e octets
taken_whole {w = w} {octets = octets} joined joins cut h done' counts =
    let whole = fed_and_done joined joins cut h.fed done' refl in
    let (end, adds) = whole.done [] 0 h.stood in
    let within : limits_in w ≡ limits = whole.limits ∙ h.within in
    let told : octets ≡ sum_capped 0 (length whole.octets) = counts ∙ end.counts in
    record {
      envelope = record { octets = whole.octets; value = end.value };
      is = record { admits = end.admits; within = subst (λ (l : Limits). AreWithinLimits l end.admits.datasets) within end.within };
      done = subst (IsDoneWith w whole.octets) (sym told) end;
      same = within;
      counts = told;
      more = whole.more;
      came = whole.came;
      delivered = delivered_of whole.octets whole.more adds;
    }

-- a flush of the sink failed
pub flush_failed_inside : {S : Type 0} {goes : S → List StoryEvent → S → Type 0} {old mid : Device} {v : Unpacking} {a b : S} (failures : S → ℕ)
    (write_failed : S → S → Type 0)
    (d : S) → HasFedFromStart goes old mid v a b → failures b ≡ failures a → write_failed b d → FlushFailsInside goes failures write_failed old mid a d
flush_failed_inside {b = b} failures write_failed d h no_failure is =
    let (there, adds) = h.fed.stands [] 0 h.stood in
    record {
      octets = h.fed.octets;
      more = h.fed.more;
      told = b;
      came = h.fed.came;
      no_failure = no_failure;
      is_open = rw (h.fed.limits, h.within) at there.is_open;
      delivered = delivered_of h.fed.octets h.fed.more adds;
      holds_back = is;
    }

-- the intake returns no envelope, and if its reader failed, the sink has nothing buffered
pub taken_fault : {S : Type 0} {goes : S → List StoryEvent → S → Type 0} {old mid : Device} {v : Unpacking} {a d : S} (failures : S → ℕ)
    (is_flushed : S → Type 0) (write_failed : S → S → Type 0) → Joined goes → ReadsJoin → DeliveryOfChunksJoins → (new : Device) (w : Unpacking) (e : S)
    (block : List ℕ) (failed : Option ℕ) (fault : IntakeFault) (result : Result Next CommandFault) → HasFedFromStart goes old mid v a d → failures d
    ≡ failures a
    → (block ≡ [] → is_flushed d) → (kept : ℕ) × (failed ≡ Some kept) × Faults goes failures mid new v w d e kept fault
    → (((e : Refusal) → fault ≢ Refused e) → (block ≡ []) × AreSame v d w e) → IsNextForFault fault result
    → IsNextItem goes failures is_flushed write_failed (old, a) (new, w, e) result × CountsFailuresOfSink (failures a) (failures e) result
    × CanReadNext failed result
taken_fault {goes = goes} {old = old} {a = a} failures is_flushed write_failed joined joins cut new w e block failed fault result h no_failure rests
    (kept, keeps, f) unread =
    fault_next goes failures old new h.first w a e h.within h.stood is_flushed write_failed failed fault result
    (kept, fed_and_faults failures joined joins cut new w e kept fault h.fed no_failure f) (λ of_reader. let left = unread of_reader in rw left.1.1
    (rests left.0))
