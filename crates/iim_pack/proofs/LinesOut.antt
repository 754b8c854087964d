-- Packing lines one after another.
use Rattle.iim_pack.proofs.Words.{◌≡◌, ℕ, ◌+◌, ◌≤◌, Bool, true, false, None, List, [], ◌∷◌, ◌++◌, length, map, refl, sym, ap, subst, ◌∙◌, arith, append_assoc, append-nil, length-append, le-leb, Device, WritesJoin, plan_bound, total_of, IsPrefix, IsLine, StoryEvent, LineOctet, LineEnd, events_of_lines, packed_events, events_append, Packing, FormWith, text_cause, line_end_cause}
use Rattle.iim_pack.specs.{States.Packing.Lengthens, States.Packing.BreaksOff, States.Packing.ContinuesWith, Steps.line_events}

pub goes_nowhere : {W : Type 0} (state : W → Device) (k : Packing W) → WritesJoin → k.object.failed ≡ false → Lengthens state k k []
goes_nowhere state k join unfailed = record {
  more = [];
  wrote = join.none (state k.object.writer);
  retry_limit = omega arith;
  counted = omega arith;
  total = omega arith;
  unfailed = unfailed;
  plan = refl;
  stands = λ fields head evs plan out s. rw (append-nil evs, append-nil out) s;
}

pub leads_on : {W : Type 0} (state : W → Device) (a b c : Packing W) (xs ys : List StoryEvent) → WritesJoin → Lengthens state a b xs → Lengthens state b c ys
    → Lengthens state a c (xs ++ ys)
leads_on state a b c xs ys join l m = record {
  more = l.more ++ m.more;
  wrote = join.more (state a.object.writer) (state b.object.writer) (state c.object.writer) l.more m.more l.wrote m.wrote;
  retry_limit = omega (arith, l.retry_limit, m.retry_limit, length-append l.more m.more);
  counted = omega (arith, l.counted, m.counted, length-append l.more m.more);
  total = omega (arith, l.total, m.total, ap length (events_append xs ys), length-append (packed_events xs) (packed_events ys));
  unfailed = m.unfailed;
  plan = m.plan ∙ l.plan;
  stands = λ fields head evs plan out s.
      rw (← append_assoc evs xs ys, ← append_assoc out l.more m.more)
      (m.stands fields head (evs ++ xs) plan (out ++ l.more) (l.stands fields head evs plan out s));
}

pub breaks_later : {W : Type 0} (state : W → Device) (a b c : Packing W) (xs ys : List StoryEvent) → WritesJoin → Lengthens state a b xs
    → BreaksOff state (ContinuesWith ys) b c → BreaksOff state (ContinuesWith (xs ++ ys)) a c
breaks_later state a b c xs ys join l k = record {
  more = l.more ++ k.more;
  appends = (join.broke (state a.object.writer) (state b.object.writer) (state c.object.writer) l.more k.more l.wrote (k.appends, k.broke)).0;
  broke = (join.broke (state a.object.writer) (state b.object.writer) (state c.object.writer) l.more k.more l.wrote (k.appends, k.broke)).1;
  retry_limit = omega (arith, l.retry_limit, k.retry_limit, length-append l.more k.more);
  failed = k.failed;
  counted = omega (arith, k.counted, l.counted, length-append l.more k.more);
  begins = λ fields head evs plan out whole s form.
      subst (λ (t : List ℕ). IsPrefix t whole) (append_assoc out l.more k.more)
      (k.begins fields head (evs ++ xs) plan (out ++ l.more) whole (l.stands fields head evs plan out s)
      (subst (λ (e : List StoryEvent). FormWith fields head plan e whole) (sym (append_assoc evs xs ys)) form));
}

-- A form that continues with more events than these continues with these.
pub breaks_before : {W : Type 0} (state : W → Device) (a c : Packing W) (xs ys : List StoryEvent) → BreaksOff state (ContinuesWith xs) a c
    → BreaksOff state (ContinuesWith (xs ++ ys)) a c
breaks_before state a c xs ys k = record {
  more = k.more;
  appends = k.appends;
  broke = k.broke;
  retry_limit = k.retry_limit;
  failed = k.failed;
  counted = k.counted;
  begins = λ fields head evs plan out whole s form.
      k.begins fields head evs plan out whole s (record {
        lines = form.lines;
        trailer = form.trailer;
        packed = form.packed;
        rest = ys ++ form.rest;
        begins = form.begins ∙ (ap (λ (e : List StoryEvent). e ++ form.rest) (sym (append_assoc evs xs ys)) ∙ append_assoc (evs ++ xs) ys form.rest);
      });
}

pub may_text : {W : Type 0} (k : Packing W) (line : List ℕ) → IsLine line → k.object.failed ≡ false
    → total_of k.object + (length line + 2) ≤ plan_bound k.object.plan → text_cause k line ≡ None
may_text k line is unfailed fits = rw (unfailed, is, le-leb (total_of k.object + (length line + 2)) (plan_bound k.object.plan) fits) refl

pub may_end_line : {W : Type 0} (k : Packing W) → k.object.failed ≡ false → total_of k.object + 4 ≤ plan_bound k.object.plan → line_end_cause k ≡ None
may_end_line k unfailed fits = rw (unfailed, le-leb (total_of k.object + 4) (plan_bound k.object.plan) fits) refl

-- the events of the remaining lines
abbrev pub events_left : Bool → List (List ℕ) → List StoryEvent
events_left is_first [] = []
events_left is_first (line ∷ lines) = line_events is_first line ++ events_left false lines

first_left : (line : List ℕ) (lines : List (List ℕ)) → events_of_lines (line ∷ lines) ≡ map LineOctet line ++ events_left false lines
first_left line [] = sym (append-nil (map LineOctet line))
first_left line (next ∷ lines) = ap (λ (t : List StoryEvent). map LineOctet line ++ (LineEnd ∷ t)) (first_left next lines)

pub all_left : (lines : List (List ℕ)) → events_of_lines lines ≡ events_left true lines
all_left [] = refl
all_left (line ∷ lines) = first_left line lines
