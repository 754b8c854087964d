-- Continuing, breaking off and finishing a packer, by the writer of its object.
use Rattle.iim_pack.proofs.Words.{◌≡◌, ℕ, ◌+◌, ◌≤◌, false, not, nat_le, Option, Some, None, List, [], ◌∷◌, ◌++◌, map, refl, sym, ap, subst, ◌∙◌, arith, append_assoc, and_parts, le-leb, leb-true, not-false, list_all, Device, Dataset, canonical_stream, all_append, IsWrittenObject, Writing, plan_bound, total_of, write_cause, IsPrefix, Plan, is_line_octet, IsLine, packed_text, StoryEvent, LineOctet, events_of_lines, packed_events, AreStoryEvents, LinesArePackedAsTheirEvents, events_append, Header, packed_head, packed_tail, canonical}
use Rattle.std.proofs.Common.{IfNone}
use Rattle.iim_object.specs.States.Writing as object
use Rattle.iim_pack.specs.States.Packing.{Lengthens, BreaksOff, ContinuesWith}

-- ---- results

pub of_none : {A : Type 0} (o : Option A) (P : Type 0) → o ≡ None → IfNone o P → P
of_none None P e h = h
of_none (Some a) P e h = absurd cc

-- ---- events

pub line_events : (line : List ℕ) → IsLine line → AreStoryEvents (map LineOctet line)
line_events [] h = tt
line_events (b ∷ bs) h = let parts = and_parts (is_line_octet b) (list_all is_line_octet bs) h in (parts.0, line_events bs parts.1)

-- ---- continuing

pub begins_after : (zs xs ys : List ℕ) → IsPrefix xs ys → IsPrefix (zs ++ xs) (zs ++ ys)
begins_after zs xs ys b = (b.0, append_assoc zs xs b.0 ∙ ap (λ (t : List ℕ). zs ++ t) b.1)

pub lengthened : {W : Type 0} (state : W → Device) (before : ℕ) (old new : Writing W) (events : List StoryEvent) → AreStoryEvents events
    → object.WriterAccepts state old new (packed_events events)
    → Lengthens state (record { before = before; object = old }) (record { before = before; object = new }) events
lengthened state before old new events are l = record {
  more = l.more;
  wrote = l.wrote;
  retry_limit = l.retry_limit;
  counted = omega (arith, l.counted);
  total = l.total;
  unfailed = l.unfailed;
  plan = l.plan;
  stands = λ fields head evs plan out s. record {
    envelope = s.envelope;
    header = s.header;
    events_are = all_append _ evs events s.events_are are;
    is_plan = l.plan ∙ s.is_plan;
    before = s.before;
    object_out = s.object_out ++ l.more;
    stands =
        let joined : (packed_head head ++ packed_events evs) ++ packed_events events ≡ packed_head head ++ packed_events (evs ++ events) =
        append_assoc (packed_head head) (packed_events evs) (packed_events events)
        ∙ ap (λ (t : List ℕ). packed_head head ++ t) (sym (events_append evs events)) in
        subst (λ (t : List ℕ). object.HasWritten new t (s.object_out ++ l.more)) joined
        (l.stands (packed_head head ++ packed_events evs) s.object_out s.stands);
    out_is = ap (λ (t : List ℕ). t ++ l.more) s.out_is ∙ append_assoc (canonical_stream fields) s.object_out l.more;
  };
}

-- the canonical object of lines that begin with events
form_object : (head : Header) (evs events rest : List StoryEvent) (lines : List (List ℕ)) (trailer : List ℕ) → LinesArePackedAsTheirEvents
    → events_of_lines lines ≡ (evs ++ events) ++ rest
    → canonical head lines trailer ≡ ((packed_head head ++ packed_events evs) ++ packed_events events) ++ (packed_events rest ++ packed_tail trailer)
form_object head evs events rest lines trailer law e =
    let h : List ℕ = packed_head head in
    let a : List ℕ = packed_events evs in
    let b : List ℕ = packed_events events in
    let r : List ℕ = packed_events rest in
    let t : List ℕ = packed_tail trailer in
    let text : packed_text lines ≡ (a ++ b) ++ r = law lines
    ∙ (ap packed_events e ∙ (events_append (evs ++ events) rest ∙ ap (λ (x : List ℕ). x ++ r) (events_append evs events))) in
    ap (λ (x : List ℕ). h ++ (x ++ t)) text
    ∙ (ap (λ (x : List ℕ). h ++ x) (append_assoc (a ++ b) r t ∙ append_assoc a b (r ++ t))
    ∙ (sym (append_assoc h a (b ++ (r ++ t))) ∙ sym (append_assoc (h ++ a) b (r ++ t))))

-- If the writer of the object breaks off, the packer breaks off, provided that each form of it
-- consists of the fields and a written object.
pub breaks : {W : Type 0} (state : W → Device) (before : ℕ) (May : List ℕ → List ℕ → Type 0) (Form : List Dataset → Header → List StoryEvent → Plan → List ℕ
    → Type 0) (old new : Writing W)
    → ((fields : List Dataset) (head : Header) (evs : List StoryEvent) (whole : List ℕ) → AreStoryEvents evs → Form fields head evs old.plan whole
    → (object : List ℕ) × (whole ≡ canonical_stream fields ++ object) × May (packed_head head ++ packed_events evs) object)
    → object.WriterFails state May old new → BreaksOff state Form (record { before = before; object = old }) (record { before = before; object = new })
breaks state before May Form old new parts k = record {
  more = k.more;
  appends = k.appends;
  broke = k.broke;
  retry_limit = k.retry_limit;
  failed = k.failed;
  counted = omega (arith, k.counted);
  begins = λ fields head evs plan out whole s form.
      let front : List ℕ = canonical_stream fields in
      let (o, is, may) = parts fields head evs whole s.events_are (subst (λ (q : Plan). Form fields head evs q whole) (sym s.is_plan) form) in
      let here = k.begins (packed_head head ++ packed_events evs) s.object_out o s.stands may in
      let there : IsPrefix (front ++ (s.object_out ++ k.more)) (front ++ o) = begins_after front (s.object_out ++ k.more) o here in
      subst (λ (w : List ℕ). IsPrefix (out ++ k.more) w) (sym is)
      (subst (λ (x : List ℕ). IsPrefix x (front ++ o)) (sym (ap (λ (t : List ℕ). t ++ k.more) s.out_is ∙ append_assoc front s.object_out k.more)) there);
}

pub broken : {W : Type 0} (state : W → Device) (before : ℕ) (old new : Writing W) (events : List StoryEvent) → LinesArePackedAsTheirEvents
    → object.WriterFails state (object.IsWrittenOfMore old.plan (packed_events events)) old new
    → BreaksOff state (ContinuesWith events) (record { before = before; object = old }) (record { before = before; object = new })
broken state before old new events law k =
    breaks state before (object.IsWrittenOfMore old.plan (packed_events events)) (ContinuesWith events) old new
    (λ fields head evs whole are form.
    let p = form.packed in (
      p.object,
      p.octets_are,
      (
        packed_events form.rest ++ packed_tail form.trailer,
        subst (λ (o : List ℕ). IsWrittenObject old.plan.subfile old.plan.size o p.object)
            (form_object head evs events form.rest form.lines form.trailer law form.begins) p.written,
      ),
    ))
    k

-- ---- causes

pub may_write : {W : Type 0} (w : Writing W) (n ending : ℕ) → w.failed ≡ false → not (nat_le (total_of w + (n + ending)) (plan_bound w.plan)) ≡ false
    → write_cause w n ≡ None
may_write w n ending unfailed fits =
    let le : total_of w + (n + ending) ≤ plan_bound w.plan = leb-true (total_of w + (n + ending)) (plan_bound w.plan)
    (not-false (nat_le (total_of w + (n + ending)) (plan_bound w.plan)) fits) in
    rw (unfailed, le-leb (total_of w + n) (plan_bound w.plan) (omega (arith, le))) refl
