-- How a writer of subfiles continues, fails and finishes.
use Rattle.iim_object.proofs.Words.{◌≡◌, ℕ, ◌+◌, ◌<◌, ◌≤◌, Bool, true, false, Option, Some, None, List, [], ◌∷◌, ◌++◌, length, take, drop, refl, sym, ap, ◌∙◌, arith, append_assoc, append-nil, length-append, length-take, map-append, all_append, Device, WritesJoin, Dataset, canonical_dataset, canonical_stream, joined_parts, AreFull, SplitsIntoSubfiles, ObjectsSplitUniquely, plan_datasets, subfile_dataset, subfile_datasets, number_dataset, OutputWrites, OutputFails, total_of, octets_written, WriterAccepts, write_cause, finish_cause, writing_of, Plan, Output, Cutter}
use Rattle.std.proofs.Common.{cond}
use Rattle.std.specs.Prelude.{IfNone}
use Rattle.std.proofs.lemmas.List.{take-append-drop}
use Rattle.iim_object.specs.{Format.Packing.confirmed_datasets, Format.Packing.object_datasets, Steps.CutterBecomes}
use Rattle.iim_object.specs.States.Writing.{Writing, HasWritten, IsPrefix, WriterFails, IsWrittenOfMore, IsWrittenOf, WriterFinishes}
use Rattle.iim_object.proofs.{Rooms.holding, PlanParts.plan_parts, Cutting.same_first, Cutting.some_octet, Cutting.too_short}

-- ---- Streams.

pub stream_append : (xs ys : List Dataset) → canonical_stream (xs ++ ys) ≡ canonical_stream xs ++ canonical_stream ys
stream_append [] ys = refl
stream_append (x ∷ xs) ys = ap (λ (t : List ℕ). canonical_dataset x ++ t) (stream_append xs ys)
    ∙ sym (append_assoc (canonical_dataset x) (canonical_stream xs) (canonical_stream ys))

stream_more : (ds xs ys : List Dataset) → canonical_stream (ds ++ (xs ++ ys)) ≡ canonical_stream (ds ++ xs) ++ canonical_stream ys
stream_more ds xs ys = simp (stream_append, append_assoc)

begun_more : (plan : Plan) (ps qs : List (List ℕ)) → octets_written plan (ps ++ qs) ≡ octets_written plan ps ++ canonical_stream (subfile_datasets qs)
begun_more plan ps qs =
    let ds = plan_datasets plan.subfile plan.size in
    ap (λ (t : List Dataset). canonical_stream (ds ++ t)) (map-append subfile_dataset ps qs) ∙ stream_more ds (subfile_datasets ps) (subfile_datasets qs)

-- ---- Parts.

pub joined_append : (ps : List (List ℕ)) (p : List ℕ) → joined_parts (ps ++ p ∷ []) ≡ joined_parts ps ++ p
joined_append [] p = append-nil p
joined_append (q ∷ ps) p = ap (λ (t : List ℕ). q ++ t) (joined_append ps p) ∙ sym (append_assoc q (joined_parts ps) p)

full_append : (size : ℕ) (ps : List (List ℕ)) (p : List ℕ) → AreFull size ps → length p ≡ size → AreFull size (ps ++ p ∷ [])
full_append size ps p h e = all_append (λ (part : List ℕ). length part ≡ size) ps (p ∷ []) h (e, tt)

-- The full parts that an object begins with are the first of its division, if it continues after
-- them.
pub first_parts : (size : ℕ) (ps full : List (List ℕ)) (last more : List ℕ) → 1 ≤ size → AreFull size ps → AreFull size full → length last ≤ size
    → (last ≡ [] → joined_parts full ++ last ≡ []) → 1 ≤ length more → joined_parts ps ++ more ≡ joined_parts full ++ last
    → (others : List (List ℕ)) × (full ++ last ∷ [] ≡ ps ++ others)
first_parts size [] full last more one p f short some long e = (full ++ last ∷ [], refl)
first_parts size (p ∷ ps) [] last more one pf f short some long e =
    let some_more : 1 ≤ length (joined_parts ps ++ more) = omega (arith, length-append (joined_parts ps) more) in
    absurd (too_short size last p [] (joined_parts ps ++ more) short pf.0 some_more (simp append-nil (simp append_assoc at (sym e))))
first_parts size (p ∷ ps) (g ∷ gs) last more one pf f short some long e =
    let parts = same_first p g (joined_parts ps) (joined_parts gs) more last (pf.0 ∙ sym f.0) e in
    let least = some_octet size g (joined_parts gs) last one f.0 some in
    let rest = first_parts size ps gs last more one pf.1 f.1 short (λ empty. absurd (omega (arith, least, ap length empty))) long parts.1 in
    (rest.0, λ i. sym parts.0 i ∷ rest.1 i)

-- ---- Prefixes.

-- What was written and a prefix of what follows are a prefix of the whole.
pub begins_by : (out text rest whole : List ℕ) (n : ℕ) → whole ≡ out ++ (text ++ rest) → IsPrefix (out ++ take n text) whole
begins_by out text rest whole n e =
    let text_is : take n text ++ (drop n text ++ rest) ≡ text ++ rest = simp (← append_assoc, take-append-drop) in
    (drop n text ++ rest, rw (e, ← text_is) (simp append_assoc))

-- ---- A writer continues.

pub goes_nowhere : {W : Type 0} (state : W → Device) (w : Writing W) → WritesJoin → w.failed ≡ false → WriterAccepts state w w []
goes_nowhere state w join unfailed = record {
  more = [];
  wrote = join.none (state w.writer);
  retry_limit = omega arith;
  plan = refl;
  unfailed = unfailed;
  counted = omega arith;
  total = omega arith;
  stands = λ object out s. simp append-nil s;
}

pub leads_on : {W : Type 0} (state : W → Device) (a b c : Writing W) (xs ys : List ℕ) → WritesJoin → WriterAccepts state a b xs → WriterAccepts state b c ys
    → WriterAccepts state a c (xs ++ ys)
leads_on state a b c xs ys join l m = record {
  more = l.more ++ m.more;
  wrote = join.more (state a.writer) (state b.writer) (state c.writer) l.more m.more l.wrote m.wrote;
  retry_limit = omega (arith, l.retry_limit, m.retry_limit, length-append l.more m.more);
  plan = m.plan ∙ l.plan;
  unfailed = m.unfailed;
  counted = omega (arith, l.counted, m.counted, length-append l.more m.more);
  total = omega (arith, l.total, m.total, length-append xs ys);
  stands = λ object out s. simp append_assoc at (m.stands (object ++ xs) (out ++ l.more) (l.stands object out s));
}

no_less : (xs ys : List ℕ) → 1 ≤ length ys → xs ++ ys ≡ [] → ⊥
no_less xs ys some e = omega (arith, some, length-append xs ys, ap length e)

-- Octets are buffered.
pub filled : {W : Type 0} (state : W → Device) (old new : Cutter W) (xs : List ℕ) → WritesJoin → old.failed ≡ false → 1 ≤ length xs
    → CutterBecomes new (holding old (old.held.items ++ xs)) → WriterAccepts state (writing_of old) (writing_of new) xs
filled state old new xs join unfailed some is =
    let room = rw is.same at is.room in rw is.same (
    record {
      more = [];
      wrote = join.none (state old.output.writer);
      retry_limit = omega arith;
      plan = refl;
      unfailed = unfailed;
      counted = omega arith;
      total = omega (arith, length-append old.held.items xs);
      stands = λ object out s. record {
        unfailed = unfailed;
        parts = s.parts;
        are_full = s.are_full;
        object_is = rw s.object_is (simp append_assoc);
        some = λ empty. absurd (no_less old.held.items xs some empty);
        sent = s.sent;
        within = omega (arith, room.within, room.bound);
        out_is = rw append-nil s.out_is;
        written = rw append-nil s.written;
      };
    })

-- A full subfile is written, and octets are buffered after it.
pub flushed : {W : Type 0} (state : W → Device) (old mid new : Cutter W) (xs : List ℕ) → WritesJoin → old.failed ≡ false
    → length old.held.items ≡ old.plan.subfile → 1 ≤ length xs → OutputWrites state old.output mid.output (canonical_dataset (subfile_dataset old.held.items))
    → CutterBecomes mid (record (holding old []) { sent = old.sent + length old.held.items; output = mid.output }) → CutterBecomes new (holding mid
    (mid.held.items ++ xs))
    → WriterAccepts state (writing_of old) (writing_of new) xs
flushed state old mid new xs join unfailed full some put out is =
    let text : List ℕ = canonical_dataset (subfile_dataset old.held.items) in
    let room = rw (is.same, out.same) at is.room in rw (is.same, out.same) (record {
      more = text;
      wrote = put.wrote;
      retry_limit = put.retry_limit;
      plan = refl;
      unfailed = unfailed;
      counted = put.counted;
      total = omega arith;
      stands = λ object out s. record {
        unfailed = unfailed;
        parts = s.parts ++ old.held.items ∷ [];
        are_full = full_append old.plan.subfile s.parts old.held.items s.are_full full;
        object_is = rw (s.object_is, joined_append s.parts old.held.items) refl;
        some = λ empty. absurd (omega (arith, some, ap length empty));
        sent = omega (arith, s.sent, ap length (joined_append s.parts old.held.items), length-append (joined_parts s.parts) old.held.items);
        within = omega (arith, room.within, room.bound);
        out_is = rw (s.out_is, begun_more old.plan s.parts (old.held.items ∷ [])) (simp append-nil);
        written = omega (arith, put.counted, s.written, length-append out text);
      };
    })

-- ---- A writer fails.

pub front_length : (n : ℕ) (text : List ℕ) → n < length text → length (take n text) ≡ n
front_length n text lt = omega (arith, lt, length-take n text)

-- The whole, after full parts that were written and one more.
parted : (ds last : List Dataset) (ps others : List (List ℕ)) (p : List ℕ) → canonical_stream (ds ++ (subfile_datasets ((ps ++ p ∷ []) ++ others) ++ last))
    ≡ canonical_stream (ds ++ subfile_datasets ps) ++ (canonical_dataset (subfile_dataset p) ++ canonical_stream (subfile_datasets others ++ last))
parted ds last ps others p =
    let all : ds ++ (subfile_datasets ((ps ++ p ∷ []) ++ others) ++ last) ≡ (ds ++ subfile_datasets ps)
    ++ (subfile_dataset p ∷ (subfile_datasets others ++ last)) = simp (map-append, append_assoc) in
    ap canonical_stream all ∙ stream_append (ds ++ subfile_datasets ps) (subfile_dataset p ∷ (subfile_datasets others ++ last))

-- A write of this text failed, with which all that may be written continues.
breaks_off : {W : Type 0} (state : W → Device) (May : List ℕ → List ℕ → Type 0) (old : Cutter W) (output : Output W) (text : List ℕ)
    → OutputFails state old.output output text
    → ((object out whole : List ℕ) → HasWritten (writing_of old) object out → May object whole → (rest : List ℕ) × (whole ≡ out ++ (text ++ rest)))
    → WriterFails state May (writing_of old) (writing_of (record old { output = output; failed = true }))
breaks_off state May old output text cut continues = record {
  more = take cut.out text;
  appends = cut.stopped.1;
  broke = cut.stopped.2;
  retry_limit = omega (arith, cut.retry_limit, front_length cut.out text cut.stopped.0);
  plan = refl;
  failed = refl;
  counted = omega (arith, cut.counted, front_length cut.out text cut.stopped.0);
  begins = λ object out whole s may. let (rest, is) = continues object out whole s may in begins_by out text rest whole cut.out is;
}

-- A full subfile could not be written, and octets remained after it.
pub halted : {W : Type 0} (state : W → Device) (old new : Cutter W) (octets : List ℕ) → length old.held.items ≡ old.plan.subfile → 1 ≤ length octets
    → OutputFails state old.output new.output (canonical_dataset (subfile_dataset old.held.items))
    → CutterBecomes new (record old { output = new.output; failed = true }) → WriterFails state (IsWrittenOfMore old.plan octets) (writing_of old)
    (writing_of new)
halted state old new octets full some cut is =
    let plan = old.plan in
    let held : List ℕ = old.held.items in
    rw is.same (breaks_off state (IsWrittenOfMore plan octets) old new.output (canonical_dataset (subfile_dataset held)) cut (λ object out whole s (rest, w).
    let cut = w.cut in
    let joins : joined_parts (s.parts ++ held ∷ []) ++ (octets ++ rest) ≡ joined_parts cut.full ++ cut.last =
    rw (joined_append s.parts held, ← s.object_is) (simp append_assoc at cut.joined) in
    let (others, first) = first_parts plan.subfile (s.parts ++ held ∷ []) cut.full cut.last (octets ++ rest)
    (plan_parts plan.subfile plan.size plan.valid).least
    (full_append plan.subfile s.parts held s.are_full full) cut.are_full cut.fits (λ empty. sym cut.joined ∙ cut.some empty)
    (omega (arith, some, length-append octets rest)) joins in
    let last : List Dataset = confirmed_datasets ((object ++ octets) ++ rest) in (
      canonical_stream (subfile_datasets others ++ last),
      rw (w.octets_are, cut.parts_are, first, s.out_is) (parted (plan_datasets plan.subfile plan.size) last s.parts others held),
    )))

-- A failure after octets that were accepted is a failure of both together, for whatever may be
-- written.
pub breaks_on : {W : Type 0} (state : W → Device) (Now May : List ℕ → List ℕ → Type 0) (a b c : Writing W) (xs : List ℕ) → WritesJoin
    → WriterAccepts state a b xs
    → ((object whole : List ℕ) → May object whole → Now (object ++ xs) whole) → WriterFails state Now b c → WriterFails state May a c
breaks_on state Now May a b c xs join l may k = record {
  more = l.more ++ k.more;
  appends = (join.broke (state a.writer) (state b.writer) (state c.writer) l.more k.more l.wrote (k.appends, k.broke)).0;
  broke = (join.broke (state a.writer) (state b.writer) (state c.writer) l.more k.more l.wrote (k.appends, k.broke)).1;
  retry_limit = omega (arith, l.retry_limit, k.retry_limit, length-append l.more k.more);
  plan = k.plan ∙ l.plan;
  failed = k.failed;
  counted = omega (arith, k.counted, l.counted, length-append l.more k.more);
  begins = λ object out whole s w.
      rw append_assoc at (k.begins (object ++ xs) (out ++ l.more) whole (l.stands object out s) (may object whole w));
}

pub breaks_later : {W : Type 0} (state : W → Device) (a b c : Writing W) (xs ys : List ℕ) → WritesJoin → WriterAccepts state a b xs
    → WriterFails state (IsWrittenOfMore b.plan ys) b c
    → WriterFails state (IsWrittenOfMore a.plan (xs ++ ys)) a c
breaks_later state a b c xs ys join l k =
    breaks_on state (IsWrittenOfMore b.plan ys) (IsWrittenOfMore a.plan (xs ++ ys)) a b c xs join l
    (λ object whole w. (w.0, rw (l.plan, append_assoc object xs ys) w.1)) k

-- ---- A writer finishes.

-- what is still to be written: the last subfile, and record 9
abbrev pub ending_of : {W : Type 0} → Writing W → List ℕ
ending_of w = canonical_dataset (subfile_dataset w.held) ++ canonical_dataset (number_dataset 9 10 (total_of w))

total_is : {W : Type 0} (w : Writing W) (object out : List ℕ) → HasWritten w object out → length object ≡ total_of w
total_is w object out s = omega (arith, ap length s.object_is, s.sent, length-append (joined_parts s.parts) w.held)

-- The parts that were written and the last one are the division of the object.
cut_here : {W : Type 0} (w : Writing W) (object out : List ℕ) (s : HasWritten w object out) → SplitsIntoSubfiles w.plan.subfile object (s.parts ++ w.held ∷ [])
cut_here w object out s = record {
  full = s.parts;
  last = w.held;
  are_full = s.are_full;
  fits = omega (arith, s.within);
  some = s.some;
  joined = s.object_is;
  parts_are = refl;
}

-- The whole is what was written and what is still to be written.
ended : {W : Type 0} (w : Writing W) (object out : List ℕ) (s : HasWritten w object out)
    → canonical_stream (object_datasets w.plan.subfile w.plan.size object (s.parts ++ w.held ∷ [])) ≡ out ++ ending_of w
ended w object out s =
    let all = parted (plan_datasets w.plan.subfile w.plan.size) (confirmed_datasets object) s.parts [] w.held in
    rw (s.out_is, ← total_is w object out s)
    (rw (append-nil (s.parts ++ w.held ∷ []), append-nil (canonical_dataset (number_dataset 9 10 (length object)))) at all)

pub finished : {W : Type 0} (state : W → Device) (old : Cutter W) (last : Output W) → OutputWrites state old.output last (ending_of (writing_of old))
    → WriterFinishes state (writing_of old) last.writer
finished state old last p = record {
  more = ending_of (writing_of old);
  wrote = p.wrote;
  retry_limit = p.retry_limit;
  whole = λ object out s. record {
    parts = s.parts ++ old.held.items ∷ [];
    cut = cut_here (writing_of old) object out s;
    octets_are = sym (ended (writing_of old) object out s);
  };
}

pub unfinished : {W : Type 0} (state : W → Device) (old : Cutter W) (output : Output W) → ObjectsSplitUniquely
    → OutputFails state old.output output (ending_of (writing_of old))
    → WriterFails state (IsWrittenOf old.plan) (writing_of old) (writing_of (record old { output = output; failed = true }))
unfinished state old output one cut =
    breaks_off state (IsWrittenOf old.plan) old output (ending_of (writing_of old)) cut (λ object out whole s w.
    let same : w.parts ≡ s.parts ++ old.held.items ∷ [] =
    one old.plan.subfile object w.parts (s.parts ++ old.held.items ∷ []) (plan_parts old.plan.subfile old.plan.size old.plan.valid).least w.cut
    (cut_here (writing_of old) object out s) in
    ([], rw (w.octets_are, same, append-nil) (ended (writing_of old) object out s)))

-- ---- Causes.

pub if_none : {A : Type 0} (o : Option A) (P : Type 0) → P → IfNone o P
if_none None P p = p
if_none (Some a) P p = tt

first_of : {A : Type 0} (b : Bool) (a : A) (o : Option A) → cond b (Some a) o ≡ None → b ≡ false
first_of true a o e = absurd cc
first_of false a o e = refl

pub may_write : {W : Type 0} (w : Writing W) (n : ℕ) → write_cause w n ≡ None → w.failed ≡ false
may_write w n e = first_of w.failed _ _ e

pub may_finish : {W : Type 0} (w : Writing W) → finish_cause w ≡ None → w.failed ≡ false
may_finish w e = first_of w.failed _ _ e
