-- Blocks, and the remaining input of an intake. What an intake feeds, chunk after chunk.
use Rattle.iim_unpack.proofs.Words.{Bool, CountsSinkFailure, Delivers, DeliveryOfChunksJoins, Done, Progresses, HasFed, HasParts, IsDoneWith, IsIncomplete, AcceptsInput, IsRefusedIn, IsTruncatedAt, AreSame, Limits, List, More, None, Option, Refusal, Some, HasRead, IsReachable, Unpacked, Unpacking, Value, [], ap, append-nil, append_assoc, arith, drop, false, get_or-append-add, input_of, inl, inr, length, length-append, length-take-le, limits_in, sum_capped, refl, refusal_at, same_Some, subst, sym, take, take-append-add, take-append-drop, take_all, true≢false, with_unread, ℕ, ◌++◌, ◌+◌, ◌-◌, ◌<◌, ◌^◌, ◌∙◌, ◌≡◌, ◌≤◌}
use Rattle.std.proofs.Common.{length-take}
use Rattle.std.proofs.lemmas.List.{drop-drop, drop-take}
use Rattle.std.specs.Io.KnownBytes.{Consumes, IsAtEnd}
use Rattle.iim_dataset.specs.States.Devices.{Device, ReadsGave, ReadFailedAfter, WithinInterruptionLimit}
use Rattle.iim_dataset.specs.{Laws.ReadsJoin, Steps.consumes_consumes}
use Rattle.std.specs.List.{slice_range}
use Rattle.iim_unpack.specs.{States.Blocks.prepend_to, Steps.read_fault}
use Rattle.iim_unpack.specs.States.Intakes.{ReadsInput, Faults, FedChunk, ReturnsNone, IsRefusedAmong, IsTruncatedIn, HasReadOn, IsCompleted, HasEnded, IsReturned, ReaderFails, HasRefused, WasTruncated}
use Rattle.std.specs.Prelude.{IfNone, IfSome, IsTrue, ◌↔◌}
use Rattle.iim_dataset.specs.declared.device.IoFault.{IoFault}
use Rattle.iim_dataset.specs.declared.device.IoFault.TheVariants as io
use Rattle.iim_dataset.proofs.{Lists.nothing_of_two, DeviceLaws.broke_for_later}
use Rattle.wire_story.specs.Format.Texts as story
use Rattle.iim_places.specs.{Laws.IncompleteOctetsAreBounded, Format.Admitted.Admits}
use Rattle.iim_unpack.specs.declared.intake.Fed.{Fed}
use Rattle.iim_unpack.specs.declared.intake.Fed.TheVariants as piece
use Rattle.iim_unpack.specs.declared.intake.Intake.{Intake}
use Rattle.iim_unpack.specs.declared.intake.IntakeFault.{IntakeFault}
use Rattle.iim_unpack.specs.declared.intake.IntakeFault.TheVariants.{Interrupted, Read, Refused}
use Rattle.iim_unpack.proofs.Feeding.{reachable_has_consumed}

-- after some of the octets of a block
pub passes : (octets : List ℕ) (from to used : ℕ) (held : List ℕ) → slice_range octets from to ≡ held → from + used ≤ to
    → slice_range octets (from + used) to ≡ drop used held
passes octets from to used held is fits =
    ap (take (to - (from + used))) (sym (drop-drop used from octets)) ∙ sym (drop-take used (to - (from + used)) (drop from octets))
    ∙ ap (λ n. drop used (take n (drop from octets))) (omega (arith, fits)) ∙ ap (drop used) is

used_up : (n : ℕ) (xs : List ℕ) (o : Option (List ℕ)) → Consumes (prepend_to xs o) (prepend_to (drop n xs) o) (take n xs)
used_up n xs None = tt
used_up n xs (Some rest) = ap (λ w. w ++ rest) (sym (take-append-drop n xs)) ∙ append_assoc (take n xs) (drop n xs) rest

-- Octets of the block were consumed.
pub line_passed : (n : ℕ) (held new : List ℕ) (d : Device) → new ≡ drop n held → ReadsGave (with_unread held d) (with_unread new d) (take n held)
line_passed n held new d is = rw is (used_up n held d.octets, (omega arith, omega arith))

-- If at least `used` octets are buffered, they can be discarded.
pub fits : (octets : List ℕ) (from to used : ℕ) (held : List ℕ) → slice_range octets from to ≡ held → from ≤ to → used ≤ length held → from + used ≤ to
fits octets from to used held is order le =
    let few : length (take (to - from) (drop from octets)) ≤ to - from = omega (arith, length-take (to - from) (drop from octets)) in
    omega (arith, order, le, rw is at few)

-- The whole block was consumed.
pub line_used : (n : ℕ) (held new piece : List ℕ) (d : Device) → n ≡ length held → piece ≡ held → new ≡ drop n held
    → ReadsGave (with_unread held d) (with_unread new d) piece
line_used n held new piece d all same is =
    subst (λ (ys : List ℕ). ReadsGave (with_unread held d) (with_unread new d) ys) (take_all n held (omega (arith, all)) ∙ sym same)
    (line_passed n held new d is)

-- Part of the block was consumed.
pub input_prefix : (n : ℕ) (held new piece : List ℕ) (d : Device) → piece ≡ held → new ≡ drop n held
    → ReadsGave (with_unread held d) (with_unread new d) (take n piece)
input_prefix n held new piece d same is = subst (λ (ys : List ℕ). ReadsGave (with_unread held d) (with_unread new d) (take n ys)) (sym same)
    (line_passed n held new d is)

abbrev pub Joined : {S : Type 0} → (S → List story.StoryEvent → S → Type 0) → Type 0
Joined {S} goes = (a b c : S) (xs ys : List story.StoryEvent) → goes a xs b → goes b ys c → goes a (xs ++ ys) c

-- ---- counts

pub raised_twice : (a m n : ℕ) → sum_capped (sum_capped a m) n ≡ sum_capped a (m + n)
raised_twice a m n = omega arith

-- ---- what is delivered

pub adds_none : (p : List ℕ) → Delivers p [] []
adds_none p text is = ([], rw (append-nil text, append-nil p) is, refl)

pub adds_more : DeliveryOfChunksJoins → (p x y : List ℕ) (m n : List story.StoryEvent) → Delivers p x m → Delivers (p ++ x) y n → Delivers p (x ++ y) (m ++ n)
adds_more cut p x y m n one two text is =
    let (first, there, told) = one text is in
    let (second, then', told') = two (text ++ first) there in (
      first ++ second,
      rw (← append_assoc text first second, ← append_assoc p x y) then',
      ap (λ (es : List story.StoryEvent). es ++ n) told ∙ ap (λ (es : List story.StoryEvent). story.delivered first ++ es) told' ∙ sym (cut first second),
    )

-- ---- octets that the unpacker has consumed, and then more

-- what holds of the unpacker for all octets, from what holds for the chunk
on_all : (used more : List ℕ) (p : List ℕ) (n : ℕ) (P : List ℕ → ℕ → Type 0) → P ((p ++ used) ++ more) (sum_capped (sum_capped n (length used)) (length more))
    → P (p ++ (used ++ more)) (sum_capped n (length (used ++ more)))
on_all used more p n P is = rw (length-append used more, ← raised_twice n (length used) (length more), ← append_assoc p used more) is

-- no further octets
unchanged_has_consumed : (u : Unpacking) → u.octets < 2 ^ 64 → HasReadOn u u [] []
unchanged_has_consumed u low p n at =
    let same : n ≡ sum_capped n 0 = omega (arith, at.counts, low) in
    (rw (append-nil p, ← same) at, adds_none p)

-- ---- one chunk

module _ {S : Type 0} (goes : S → List story.StoryEvent → S → Type 0) (d : Device) (held rest piece : List ℕ) (same : piece ≡ held) {a b : S} where
  -- the whole block was removed from the input
  consumed_block : {more : List story.StoryEvent} (n : ℕ) → n ≡ length held → rest ≡ drop n held → goes a more b
      → ReadsInput goes (with_unread held d) (with_unread rest d) a b piece more
  consumed_block n all drops told = record { given = line_used n held rest piece d all same drops; told = told; retry_limit = omega arith }

  pub piece_more : {u v : Unpacking} {used : ℕ} (n : ℕ) → n ≡ length held → rest ≡ drop n held → used ≡ sum_capped 0 n → limits_in v ≡ limits_in u
      → ((more : List story.StoryEvent) × goes a more b × ((p : List ℕ) (n : ℕ) → HasRead u p n → Progresses v p n piece more More))
      → HasFed goes (with_unread held d) (with_unread rest d) u v a b used
  piece_more n all drops count limits (more, told, onward) = record {
    octets = piece;
    more = more;
    came = consumed_block n all drops told;
    retry_limit = omega arith;
    counts = count ∙ ap (sum_capped 0) (all ∙ ap length (sym same));
    limits = limits;
    stands = onward;
  }

  pub piece_done : {u v : Unpacking} {used : ℕ} (last : ℕ) → rest ≡ drop last held → last ≤ length piece → used ≡ sum_capped 0 last → limits_in v ≡ limits_in u
      → ((more : List story.StoryEvent) × goes a more b × ((p : List ℕ) (n : ℕ) → HasRead u p n → Progresses v p n piece more (Done last)))
      → IsCompleted goes (with_unread held d) (with_unread rest d) u v a b used
  piece_done {v = v} last drops fit count limits (more, told, onward) =
      let len : length (take last piece) ≡ last = length-take-le last piece fit in
      record {
        octets = take last piece;
        more = more;
        came = record { given = input_prefix last held rest piece d same drops; told = told; retry_limit = omega arith };
        limits = limits;
        counts = count ∙ ap (sum_capped 0) (sym len);
        done = λ p n at.
            let (fits, then_, adds) = onward p n at in
            (subst (λ k. IsDoneWith v (p ++ take last piece) (sum_capped n k)) (sym len) then_, adds);
      }

  pub piece_refused : {u v : Unpacking} (failures : S → ℕ) (n : ℕ) (e : Refusal) → n ≡ length held → rest ≡ drop n held
      → CountsSinkFailure e.cause (failures a) (failures b) → v.refused ≡ Some e.octet
      → ((more : List story.StoryEvent) × goes a more b × ((p : List ℕ) (n : ℕ) → HasRead u p n → IsRefusedIn (limits_in u) p n piece more e))
      → HasRefused goes failures (with_unread held d) (with_unread rest d) u v a b e
  piece_refused failures n e all drops counts refused (more, told, refuses) = record {
    octets = piece;
    more = more;
    came = consumed_block n all drops told;
    counts = counts;
    refused = refused;
    refuses = λ p n at.
        let is = refuses p n at in
        record {
          k = is.k;
          within = is.within;
          fault = is.fault;
          refusal = is.refusal;
          adds = λ text t. (is.added, is.adds text t, is.delivers);
          refuses = is.refuses;
        };
  }

-- ---- one chunk, after a read

-- The octets of the chunk were removed from the input since before the read.
consumed_read : {S : Type 0} {goes : S → List story.StoryEvent → S → Type 0} {old mid new : Device} {a b : S} {octets : List ℕ} {more : List story.StoryEvent}
    → ReadsJoin → ReadsGave old mid [] → WithinInterruptionLimit 1 old mid → new.interruptions ≡ mid.interruptions
    → ReadsInput goes mid new a b octets more → ReadsInput goes old new a b octets more
consumed_read {old = old} {mid = mid} {new = new} {octets = octets} joins none limit still came =
    record { given = joins.more old mid new [] octets none came.given; told = came.told; retry_limit = omega (arith, came.retry_limit, limit, still) }

pub read_and_fed : {S : Type 0} (goes : S → List story.StoryEvent → S → Type 0) (old mid new : Device) (u v : Unpacking) (a b : S) → ReadsJoin
    → ReadsGave old mid []
    → WithinInterruptionLimit 1 old mid → new.interruptions ≡ mid.interruptions → (fed : Fed) → FedChunk goes (mid, u, a) (new, v, b) fed
    → FedChunk goes (old, u, a) (new, v, b) fed
read_and_fed goes old mid new u v a b joins none limit still (piece.More used) (some, ready, h) =
    let retry_limit : WithinInterruptionLimit (length h.octets) old new = omega (arith, limit, still, some, h.counts) in
    let came = consumed_read joins none limit still h.came in
    (some, ready, record { octets = h.octets; more = h.more; came = came; retry_limit = retry_limit; counts = h.counts; limits = h.limits; stands = h.stands })
read_and_fed goes old mid new u v a b joins none limit still (piece.Done used) h =
    record { octets = h.octets; more = h.more; came = consumed_read joins none limit still h.came; limits = h.limits; counts = h.counts; done = h.done }
read_and_fed goes old mid new u v a b joins none limit still piece.End (same, h) = (
  same,
  record { given = joins.more old mid new [] [] none h.given; at_end = h.at_end; retry_limit = omega (arith, limit, still); still = h.still; none = h.none },
)

pub read_and_refused : {R S : Type 0} (goes : S → List story.StoryEvent → S → Type 0) (failures : S → ℕ) (state : R → Device) (old mid new : Intake R)
    {u v : Unpacking} {a b : S}
    → ReadsJoin → ReadsGave (input_of state old) (input_of state mid) [] → WithinInterruptionLimit 1 (input_of state old) (input_of state mid)
    → (state new.reader).interruptions ≡ (state mid.reader).interruptions → (fault : IntakeFault)
    → ((e : Refusal) × (fault ≡ Refused e) × (new.failed ≡ Some e.octet) × HasRefused goes failures (input_of state mid) (input_of state new) u v a b e)
    → ReturnsNone goes failures state (old, u, a) (new, v, b) fault
read_and_refused goes failures state old mid new {u} {v} {a} {b} joins none limit still fault (e, is, failed, h) =
    let came = consumed_read joins none limit still h.came in
    let was : HasRefused goes failures (input_of state old) (input_of state new) u v a b e =
    record { octets = h.octets; more = h.more; came = came; counts = h.counts; refused = h.refused; refuses = h.refuses } in
    (e.octet, failed, rw is (refl, inl was))

-- ---- nothing was received

module _ {S : Type 0} (goes : S → List story.StoryEvent → S → Type 0) (failures : S → ℕ) (old new : Device) (u : Unpacking) (a : S) (low : u.octets < 2 ^ 64)
    (nothing : goes a [] a) (limit : WithinInterruptionLimit 1 old new) where
  pub none_truncated : (e : Refusal) → ReadsGave old new [] → IsAtEnd new.octets → ((p : List ℕ) (n : ℕ) → HasRead u p n → (p ≡ [] → ⊥) × IsTruncatedAt p n e)
      → WasTruncated goes failures old new u u a a e
  none_truncated e given end is = record {
    octets = [];
    more = [];
    came = record { given = given; told = nothing; retry_limit = limit };
    at_end = end;
    no_failure = refl;
    limits = refl;
    stands = unchanged_has_consumed u low;
    truncated = λ p n at.
        let here = (unchanged_has_consumed u low p n at).0 in
        let (some, truncated) = is (p ++ []) (sum_capped n 0) here in
        record { is_open = here.is_open; some = some; adds = adds_none p; truncated = truncated };
  }

  pub none_missed : (fault : IoFault) (kept : ℕ) (answer : IntakeFault) → ReadFailedAfter old new [] fault → kept ≡ u.octets → answer ≡ read_fault fault
      → Faults goes failures old new u u a a kept answer
  none_missed fault kept answer missed counts is = rw is (by fault missed)
    where
      was : (f : IoFault) → ReadFailedAfter old new [] f → ReaderFails goes failures old new u u a a kept f
      was f missed =
          let still = unchanged_has_consumed u low in
          record {
            octets = [];
            more = [];
            missed = missed;
            retry_limit = limit;
            told = nothing;
            no_failure = refl;
            counts = counts;
            limits = refl;
            stands =
                still;
          }

      by : (f : IoFault) → ReadFailedAfter old new [] f → Faults goes failures old new u u a a kept (read_fault f)
      by io.Failed missed = was io.Failed missed
      by io.Interrupted missed = was io.Interrupted missed

-- ---- the end of feeding

pub somewhere : (u : Unpacking) → AcceptsInput u → (u.refused ≡ None → IsReachable u) → (p : List ℕ) × (a : ℕ) × HasRead u p a
somewhere u ready stood = reachable_has_consumed u ready.1 (stood ready.0)

pub told_truncated : (q : List ℕ) (k : ℕ) (answer : Option Refusal) (e : Refusal) → answer ≡ Some e
    → ((f : Refusal) × (answer ≡ Some f) × IsTruncatedAt q k f) → IsTruncatedAt q k e
told_truncated q k answer e is (f, same, told) = subst (λ (x : Refusal). IsTruncatedAt q k x) (same_Some _ _ (sym same ∙ is)) told

pub sink_unchanged : (answer : Option Refusal) (q : List ℕ) (k : ℕ) → answer ≡ None → ((f : Refusal) × (answer ≡ Some f) × IsTruncatedAt q k f) → ⊥
sink_unchanged answer q k none (f, same, told) = let bad : None ≡ Some f = sym none ∙ same in cc

-- what is missing at the end of the input, if the unpacker has consumed some octets
pub none_missing : (answer : Option Refusal) (u : Unpacking) → ((p : List ℕ) (n : ℕ) → HasRead u p n → (e : Refusal) × (answer ≡ Some e) × IsTruncatedAt p n e)
    → IfNone answer ((p : List ℕ) (n : ℕ) → HasRead u p n → p ≡ [])
none_missing None u told = λ p n at. absurd (sink_unchanged None p n refl (told p n at))
none_missing (Some e) u told = tt

pub some_missing : (answer : Option Refusal) (u : Unpacking) (fresh : Bool) → fresh ≡ false → ((p : List ℕ) (n : ℕ) → HasRead u p n → IsTrue fresh ↔ (p ≡ []))
    → ((p : List ℕ) (n : ℕ) → HasRead u p n → (e : Refusal) × (answer ≡ Some e) × IsTruncatedAt p n e)
    → IfSome answer (λ e. (p : List ℕ) (n : ℕ) → HasRead u p n → (p ≡ [] → ⊥) × IsTruncatedAt p n e)
some_missing None u fresh stale begun told = tt
some_missing (Some e) u fresh stale begun told = λ p n at.
    (λ none. true≢false (sym ((begun p n at).1 none) ∙ stale), told_truncated p n (Some e) e refl (told p n at))

-- ---- what is returned

pub returned_by : {S : Type 0} {goes : S → List story.StoryEvent → S → Type 0} {old new : Device} {u v : Unpacking} {a b : S} {used : ℕ} {got : Unpacked}
    → IsCompleted goes old new u v a b used → ((p : List ℕ) (n : ℕ) → IsDoneWith v p n → (w : Value) → Admits p w → HasParts got w)
    → IsReturned goes old new u a b used got
returned_by done' parts = record {
  octets = done'.octets;
  more = done'.more;
  came = done'.came;
  counts = done'.counts;
  envelope = λ p n at.
      let (end, adds) = done'.done p n at in (
        end.value,
        record { admits = end.admits; within = rw done'.limits at end.within },
        parts (p ++ done'.octets) (sum_capped n (length done'.octets)) end end.value end.admits,
        adds,
      );
}

-- ---- chunks, one after another

pub fed_none : {S : Type 0} (goes : S → List story.StoryEvent → S → Type 0) → ReadsJoin → (d : Device) (u : Unpacking) (a : S) → u.octets < 2 ^ 64 → goes a [] a
    → HasFed goes d d u u a a 0
fed_none goes joins d u a low nothing =
    let came : ReadsInput goes d d a a [] [] = record { given = joins.none d; told = nothing; retry_limit = omega arith } in
    record { octets = []; more = []; came = came; retry_limit = omega arith; counts = refl; limits = refl; stands = unchanged_has_consumed u low }

then_has_consumed : DeliveryOfChunksJoins → {u v w : Unpacking} (xs ys : List ℕ) (first more : List story.StoryEvent) → HasReadOn u v xs first
    → HasReadOn v w ys more
    → HasReadOn u w (xs ++ ys) (first ++ more)
then_has_consumed cut {w = w} xs ys first more one two p n at =
    let (there, adds) = one p n at in
    let (then_, adds') = two (p ++ xs) (sum_capped n (length xs)) there in
    (on_all xs ys p n (HasRead w) then_, adds_more cut p xs ys first more adds adds')

module _ {S : Type 0} {goes : S → List story.StoryEvent → S → Type 0} where
  -- the sink received nothing in between
  pub fed_on : {old new : Device} {u v : Unpacking} {a b c : S} {used : ℕ} → Joined goes → HasFed goes old new u v a b used → goes b [] c
      → HasFed goes old new u v a c used
  fed_on {a = a} {b = b} {c = c} joined fed still = record {
    octets = fed.octets;
    more = fed.more;
    came = record { given = fed.came.given; told = rw append-nil at (joined a b c fed.more [] fed.came.told still); retry_limit = fed.came.retry_limit };
    retry_limit = fed.retry_limit;
    counts = fed.counts;
    limits = fed.limits;
    stands = fed.stands;
  }

  -- octets were received after those that were fed
  consumed_then : {old mid new : Device} {u v : Unpacking} {a b c : S} {used : ℕ} {octets : List ℕ} {more : List story.StoryEvent} → Joined goes → ReadsJoin
      → (one : HasFed goes old mid u v a b used) → ReadsInput goes mid new b c octets more → ReadsInput goes old new a c (one.octets ++ octets)
      (one.more ++ more)
  consumed_then {old} {mid} {new} {a = a} {b = b} {c = c} {octets = octets} {more = more} joined joins one two = record {
    given = joins.more old mid new one.octets octets one.came.given two.given;
    told = joined a b c one.more more one.came.told two.told;
    retry_limit = omega (arith, one.retry_limit, two.retry_limit, length-append one.octets octets);
  }

  pub fed_then : {old mid new : Device} {u v w : Unpacking} {a b c : S} {used k now : ℕ} → Joined goes → ReadsJoin → DeliveryOfChunksJoins
      → HasFed goes old mid u v a b used → HasFed goes mid new v w b c k → now ≡ sum_capped used k → HasFed goes old new u w a c now
  fed_then joined joins cut one two is = record {
    octets = one.octets ++ two.octets;
    more = one.more ++ two.more;
    came = consumed_then joined joins one two.came;
    retry_limit = omega (arith, one.retry_limit, two.retry_limit, length-append one.octets two.octets);
    counts = omega (arith, one.counts, two.counts, is, length-append one.octets two.octets);
    limits = two.limits ∙ one.limits;
    stands = then_has_consumed cut one.octets two.octets one.more two.more one.stands two.stands;
  }

  pub fed_and_done : {old mid new : Device} {u v w : Unpacking} {a b c : S} {used k now : ℕ} → Joined goes → ReadsJoin → DeliveryOfChunksJoins
      → HasFed goes old mid u v a b used → IsCompleted goes mid new v w b c k → now ≡ sum_capped used k → IsCompleted goes old new u w a c now
  fed_and_done {w = w} joined joins cut one two is = record {
    octets = one.octets ++ two.octets;
    more = one.more ++ two.more;
    came = consumed_then joined joins one two.came;
    limits = two.limits ∙ one.limits;
    counts = omega (arith, one.counts, two.counts, is, length-append one.octets two.octets);
    done = λ p n at.
        let (there, adds) = one.stands p n at in
        let (then_, adds') = two.done (p ++ one.octets) (sum_capped n (length one.octets)) there in
        (on_all one.octets two.octets p n (IsDoneWith w) then_, adds_more cut p one.octets two.octets one.more two.more adds adds');
  }

  -- The unpacker has consumed no octet, so none was received.
  pub fed_nothing : {old mid new : Device} {u v : Unpacking} {a b c : S} {used : ℕ} (fed : HasFed goes old mid u v a b used) (p : List ℕ) (n : ℕ)
      → HasRead u p n
      → HasEnded mid new v b c → fed.octets ≡ []
  fed_nothing fed p n at ended = (nothing_of_two p fed.octets (ended.none (p ++ fed.octets) (sum_capped n (length fed.octets)) (fed.stands p n at).0)).1

  pub fed_and_ended : {old mid new : Device} {u v : Unpacking} (w : Unpacking) {a b c : S} {used : ℕ} → ReadsJoin → (one : HasFed goes old mid u v a b used)
      → (one.octets ≡ [] → AreSame u a v b) → (w ≡ v) × HasEnded mid new v b c → (p : List ℕ) (n : ℕ) → HasRead u p n → (w ≡ u) × HasEnded old new u a c
  fed_and_ended {old} {mid} {new} w joins one left (as_then, ended) p n at =
      let empty : one.octets ≡ [] = fed_nothing one p n at ended in
      let same = left empty in (
        as_then ∙ same.0,
        record {
          given = subst (ReadsGave old new) (append-nil one.octets ∙ empty) (joins.more old mid new one.octets [] one.came.given ended.given);
          at_end = ended.at_end;
          retry_limit = omega (arith, one.retry_limit, ended.retry_limit, ap length empty);
          still = ended.still ∙ same.1;
          none = λ q k is. (nothing_of_two q one.octets (ended.none (q ++ one.octets) (sum_capped k (length one.octets)) (one.stands q k is).0)).0;
        },
      )

refused_then : DeliveryOfChunksJoins → (limits : Limits) (p : List ℕ) (n : ℕ) (xs ys : List ℕ) (first more : List story.StoryEvent) (e : Refusal)
    → Delivers p xs first
    → IsRefusedAmong limits (p ++ xs) (sum_capped n (length xs)) ys more e → IsRefusedAmong limits p n (xs ++ ys) (first ++ more) e
refused_then cut limits p n xs ys first more e adds is =
    let front : take (length xs + is.k) (xs ++ ys) ≡ xs ++ take is.k ys = take-append-add xs ys is.k in
    record {
      k = length xs + is.k;
      within = omega (arith, is.within, length-append xs ys);
      fault = is.fault;
      refusal = is.refusal ∙ ap (λ (m : ℕ). refusal_at m is.fault) (raised_twice n (length xs) is.k);
      adds = subst (λ (zs : List ℕ). Delivers p zs (first ++ more)) (sym front) (adds_more cut p xs (take is.k ys) first more adds is.adds);
      refuses = rw (get_or-append-add xs ys is.k 0, front, ← append_assoc p xs (take is.k ys)) is.refuses;
    }

truncated_then : DeliveryOfChunksJoins → (limits : Limits) (p : List ℕ) (n : ℕ) (xs ys : List ℕ) (first more : List story.StoryEvent) (e : Refusal)
    → Delivers p xs first
    → IsTruncatedIn limits (p ++ xs) (sum_capped n (length xs)) ys more e → IsTruncatedIn limits p n (xs ++ ys) (first ++ more) e
truncated_then cut limits p n xs ys first more e adds is = record {
  is_open = subst (IsIncomplete limits) (append_assoc p xs ys) is.is_open;
  some = λ none. is.some (append_assoc p xs ys ∙ none);
  adds = adds_more cut p xs ys first more adds is.adds;
  truncated = on_all xs ys p n (λ q k. IsTruncatedAt q k e) is.truncated;
}

module _ {S : Type 0} {goes : S → List story.StoryEvent → S → Type 0} {old mid : Device} {u v : Unpacking} {a b : S} {used : ℕ} (failures : S → ℕ)
    (joined : Joined goes)
    (joins : ReadsJoin) (cut : DeliveryOfChunksJoins) (new : Device) (w : Unpacking) (c : S) (kept : ℕ) where
  missed_then : (fault : IoFault) → HasFed goes old mid u v a b used → failures b ≡ failures a → ReaderFails goes failures mid new v w b c kept fault
      → ReaderFails goes failures old new u w a c kept fault
  missed_then fault one no_failure was = record {
    octets = one.octets ++ was.octets;
    more = one.more ++ was.more;
    missed = (
      consumes_consumes old.octets mid.octets new.octets one.octets was.octets one.came.given.0 was.missed.0,
      broke_for_later old mid new fault one.came.given.1 was.missed.1,
    );
    retry_limit = omega (arith, one.retry_limit, was.retry_limit, length-append one.octets was.octets);
    told = joined a b c one.more was.more one.came.told was.told;
    no_failure = was.no_failure ∙ no_failure;
    counts = was.counts;
    limits = was.limits ∙ one.limits;
    stands = then_has_consumed cut one.octets was.octets one.more was.more one.stands was.stands;
  }

  pub fed_and_faults : (fault : IntakeFault) → HasFed goes old mid u v a b used → failures b ≡ failures a → Faults goes failures mid new v w b c kept fault
      → Faults goes failures old new u w a c kept fault
  fed_and_faults (Refused e) one no_failure (is, inl was) = (
    is,
    inl (record {
      octets = one.octets ++ was.octets;
      more = one.more ++ was.more;
      came = consumed_then joined joins one was.came;
      counts = subst (λ k. CountsSinkFailure e.cause k (failures c)) no_failure was.counts;
      refused = was.refused;
      refuses = λ p n at.
          let (there, adds) = one.stands p n at in
          subst (λ (l : Limits). IsRefusedAmong l p n (one.octets ++ was.octets) (one.more ++ was.more) e) one.limits
          (refused_then cut (limits_in v) p n one.octets was.octets one.more was.more e adds
          (was.refuses (p ++ one.octets) (sum_capped n (length one.octets)) there));
    }),
  )
  fed_and_faults (Refused e) one no_failure (is, inr was) = (
    is,
    inr (record {
      octets = one.octets ++ was.octets;
      more = one.more ++ was.more;
      came = consumed_then joined joins one was.came;
      at_end = was.at_end;
      no_failure = was.no_failure ∙ no_failure;
      limits = was.limits ∙ one.limits;
      stands = then_has_consumed cut one.octets was.octets one.more was.more one.stands was.stands;
      truncated = λ p n at.
          let (there, adds) = one.stands p n at in
          subst (λ (l : Limits). IsTruncatedIn l p n (one.octets ++ was.octets) (one.more ++ was.more) e) one.limits
          (truncated_then cut (limits_in v) p n one.octets was.octets one.more was.more e adds
          (was.truncated (p ++ one.octets) (sum_capped n (length one.octets)) there));
    }),
  )
  fed_and_faults Read one no_failure was = missed_then io.Failed one no_failure was
  fed_and_faults Interrupted one no_failure was = missed_then io.Interrupted one no_failure was

-- The octets that the unpacker has consumed are incomplete, and it counts them.
pub missed_open : {S : Type 0} (goes : S → List story.StoryEvent → S → Type 0) (failures : S → ℕ) (old new : Device) (u v : Unpacking) (a b : S) (kept : ℕ)
    (fault : IoFault)
    → (was : ReaderFails goes failures old new u v a b kept fault) → (p : List ℕ) (n : ℕ) → HasRead u p n
    → IsIncomplete (limits_in u) (p ++ was.octets) × Delivers p was.octets was.more × (kept ≡ sum_capped n (length was.octets))
missed_open goes failures old new u v a b kept fault was p n at =
    let (there, adds) = was.stands p n at in
    (subst (λ (l : Limits). IsIncomplete l (p ++ was.octets)) was.limits there.is_open, adds, was.counts ∙ there.counts)

module _ {S : Type 0} {goes : S → List story.StoryEvent → S → Type 0} {old new : Device} {u v : Unpacking} {a b : S} {used : ℕ} where
  -- some octets were received
  pub some_received : 0 < used → (fed : HasFed goes old new u v a b used) → fed.octets ≡ [] → ⊥
  some_received some fed none = absurd (omega (arith, some, fed.counts, ap length none))

  pub fed_few : IncompleteOctetsAreBounded → HasFed goes old new u v a b used → (limits_in v).octets < 2 ^ 32 → (limits_in v).fields < 2 ^ 32
      → (p : List ℕ) (n : ℕ) → HasRead u p n → used < 2 ^ 64 - 1
  fed_few law fed low few p n at =
      omega (arith, fed.counts, length-append p fed.octets, law (limits_in v) (p ++ fed.octets) low few (fed.stands p n at).0.is_open)

  -- the clauses of a chunk's result
  pub more_of : {fed : Fed} → fed ≡ piece.More used → FedChunk goes (old, u, a) (new, v, b) fed → (0 < used) × AcceptsInput v × HasFed goes old new u v a b used
  more_of is f = subst (λ (x : Fed). FedChunk goes (old, u, a) (new, v, b) x) is f

  pub done_of : {fed : Fed} → fed ≡ piece.Done used → FedChunk goes (old, u, a) (new, v, b) fed → IsCompleted goes old new u v a b used
  done_of is f = subst (λ (x : Fed). FedChunk goes (old, u, a) (new, v, b) x) is f

pub end_of : {S : Type 0} (goes : S → List story.StoryEvent → S → Type 0) {old new : Device} {u : Unpacking} (v : Unpacking) {a b : S} {fed : Fed}
    → fed ≡ piece.End → FedChunk goes (old, u, a) (new, v, b) fed → (v ≡ u) × HasEnded old new u a b
end_of goes {old} {new} {u} v {a} {b} is f = subst (λ (x : Fed). FedChunk goes (old, u, a) (new, v, b) x) is f

pub raised_on : (used k now : ℕ) → 0 < k → now ≡ sum_capped used k → 0 < now
raised_on used k now some is = omega (arith, some, is)
