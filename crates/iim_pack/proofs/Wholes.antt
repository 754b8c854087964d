-- Packing a complete envelope in one call.
use Rattle.iim_pack.proofs.Words.{◌≡◌, ℕ, ◌+◌, ◌≤◌, true, false, None, inr, List, [], ◌∷◌, ◌++◌, length, refl, sym, ap, subst, ◌∙◌, arith, append-nil, length-append, le-leb, Device, WritesJoin, Dataset, is_short, plan_bound, total_of, Plan, StartFault, packed_text, StoryEvent, events_of_lines, LinesArePackedAsTheirEvents, packed_events, lines_of, Header, packed_head, packed_tail, canonical, Packing, is_trailer, pack_cause, start_cause, StartsPacking, StartBreaksOff}
use Rattle.std.proofs.Common.{inl}
use Rattle.iim_object.specs.declared.writing.cause.PackCause.TheVariants as causes
use Rattle.wire_story.specs.{Format.Texts.LinesMakeText, States.Reading.collect}
use Rattle.wire_story.specs.Laws.{PackedLinesAreAText, TextsAreDeliveredAsLines, TextsAreCollectedAsLines}
use Rattle.iim_pack.specs.Format.Packed.{Packed}
use Rattle.iim_pack.specs.States.Packing.{Lengthens, BreaksOff, ContinuesWith, Finishes, finish_cause, least_ending, written_of, FormWith, IsStartFault, Packs}
use Rattle.std.proofs.lemmas.Bool.Decides.{nat_tests}
use Rattle.iim_pack.proofs.Openings.{halts_after}

-- The lines of the events of lines are these lines.
pub lines_again : PackedLinesAreAText → TextsAreDeliveredAsLines → TextsAreCollectedAsLines → (lines : List (List ℕ)) → LinesMakeText lines
    → lines_of (events_of_lines lines) ≡ lines
lines_again packs delivers collects lines made =
    let t = packs lines made in
    ap (λ (e : List StoryEvent). collect ([] ∷ []) e) (sym (delivers (packed_text lines) lines t)) ∙ collects (packed_text lines) lines t

pub packs : {W : Type 0} (state : W → Device) (writer last : W) (fields : List Dataset) (head : Header) (lines : List (List ℕ)) (trailer : List ℕ)
    (plan : Plan) (a b : Packing W) → WritesJoin → lines_of (events_of_lines lines) ≡ lines
    → StartsPacking state writer fields head plan a → Lengthens state a b (events_of_lines lines) → Finishes state b trailer last
    → Packs state writer fields head lines trailer plan last
packs state writer last fields head lines trailer plan a b join again s l f = record {
  out = (s.begun.out ++ l.more) ++ f.more;
  wrote = join.more (state writer) (state b.object.writer) (state last) (s.begun.out ++ l.more) f.more
      (join.more (state writer) (state a.object.writer) (state b.object.writer) s.begun.out l.more s.begun.wrote l.wrote) f.wrote;
  retry_limit = omega (arith, s.retry_limit, l.retry_limit, f.retry_limit, length-append s.begun.out l.more, length-append (s.begun.out ++ l.more) f.more);
  packed = subst (λ (ls : List (List ℕ)). Packed fields head ls trailer plan ((s.begun.out ++ l.more) ++ f.more)) again
      (f.whole fields head (events_of_lines lines) plan (s.begun.out ++ l.more) (l.stands fields head [] plan s.begun.out s.begun.stands));
}

pub lines_broke : {W : Type 0} (state : W → Device) (writer : W) (fields : List Dataset) (head : Header) (lines : List (List ℕ)) (trailer : List ℕ)
    (plan : Plan) (a b : Packing W) (fault : StartFault W) → WritesJoin
    → StartsPacking state writer fields head plan a → BreaksOff state (ContinuesWith (events_of_lines lines)) a b → fault.cause ≡ causes.Write
    → fault.writer ≡ b.object.writer → fault.written ≡ written_of b
    → StartBreaksOff state (Packed fields head lines trailer plan) writer fault
lines_broke state writer fields head lines trailer plan a b fault join s k cause handed written =
    halts_after state (Packed fields head lines trailer plan) writer a.object.writer b.object.writer fault s.begun.out k.more (written_of a) join
    s.begun.wrote (k.appends, k.broke) handed cause (written ∙ k.counted) s.begun.counted s.retry_limit k.retry_limit
    (λ whole p. k.begins fields head [] plan s.begun.out whole s.begun.stands (record {
      lines = lines;
      trailer = trailer;
      packed = p;
      rest = [];
      begins = sym (append-nil (events_of_lines lines));
    }))

pub finish_broke : {W : Type 0} (state : W → Device) (writer : W) (fields : List Dataset) (head : Header) (lines : List (List ℕ)) (trailer : List ℕ)
    (plan : Plan) (a b d : Packing W) (fault : StartFault W) → WritesJoin → lines_of (events_of_lines lines) ≡ lines
    → StartsPacking state writer fields head plan a → Lengthens state a b (events_of_lines lines)
    → BreaksOff state (λ fields head before. Packed fields head (lines_of before) trailer) b d → fault.cause ≡ causes.Write
    → fault.writer ≡ d.object.writer → fault.written ≡ written_of d
    → StartBreaksOff state (Packed fields head lines trailer plan) writer fault
finish_broke state writer fields head lines trailer plan a b d fault join again s l k cause handed written =
    let wrote = join.more (state writer) (state a.object.writer) (state b.object.writer) s.begun.out l.more s.begun.wrote l.wrote in
    halts_after state (Packed fields head lines trailer plan) writer b.object.writer d.object.writer fault (s.begun.out ++ l.more) k.more (written_of b) join
    wrote (k.appends, k.broke) handed cause (written ∙ k.counted)
    (omega (arith, l.counted, s.begun.counted, length-append s.begun.out l.more))
    (omega (arith, s.retry_limit, l.retry_limit, length-append s.begun.out l.more)) k.retry_limit
    (λ whole p. k.begins fields head (events_of_lines lines) plan (s.begun.out ++ l.more) whole (l.stands fields head [] plan s.begun.out s.begun.stands)
    (subst (λ (ls : List (List ℕ)). Packed fields head ls trailer plan whole) (sym again) p))

-- if the packer could not be started
pub not_started : {W : Type 0} (state : W → Device) (writer : W) (fields : List Dataset) (head : Header) (lines : List (List ℕ)) (trailer : List ℕ)
    (plan : Plan) (fault : StartFault W) → IsStartFault state (FormWith fields head plan []) writer fault
    → IsStartFault state (Packed fields head lines trailer plan) writer fault
not_started state writer fields head lines trailer plan fault (inl m) = inl m
not_started state writer fields head lines trailer plan fault (inr h) = inr (record {
  cause_is = h.cause_is;
  out = h.out;
  appends = h.appends;
  broke = h.broke;
  retry_limit = h.retry_limit;
  counted = h.counted;
  begins = λ whole p. h.begins whole (record { lines = lines; trailer = trailer; packed = p; rest = events_of_lines lines; begins = refl });
})

-- ---- causes

pub record MayPack (head : Header) (lines : List (List ℕ)) (trailer : List ℕ) (plan : Plan) : Type 0 where
  pub trailer_is : is_trailer trailer ≡ true
  pub fits : length (canonical head lines trailer) ≤ plan_bound plan
  pub whole : is_short plan.size (length (canonical head lines trailer)) ≡ false
  pub parts : length (canonical head lines trailer) ≡ length (packed_head head)
      + (length (packed_events (events_of_lines lines)) + length (packed_tail trailer))

pub may_pack : LinesArePackedAsTheirEvents → (head : Header) (lines : List (List ℕ)) (trailer : List ℕ) (plan : Plan)
    → pack_cause head lines trailer plan ≡ None → MayPack head lines trailer plan
may_pack law head lines trailer plan e =
    record {
      trailer_is = grind (arith, nat_tests);
      fits = grind (arith, nat_tests);
      whole = grind (arith, nat_tests);
      parts = omega (
        arith,
        length-append (packed_head head) (packed_text lines ++ packed_tail trailer),
        length-append (packed_text lines) (packed_tail trailer),
        ap length (law lines),
      );
    }

tail_some : (trailer : List ℕ) → 2 ≤ length (packed_tail trailer)
tail_some trailer = omega (arith, length-append trailer (4 ∷ []))

pub may_start : (head : Header) (lines : List (List ℕ)) (trailer : List ℕ) (plan : Plan) → MayPack head lines trailer plan → start_cause head plan ≡ None
may_start head lines trailer plan m =
    let some = tail_some trailer in
    rw (le-leb (length (packed_head head) + least_ending) (plan_bound plan) (omega (arith, some, m.fits, m.parts))) refl

pub lines_fit : {W : Type 0} (state : W → Device) (writer : W) (fields : List Dataset) (head : Header) (lines : List (List ℕ)) (trailer : List ℕ)
    (plan : Plan) (a : Packing W) → MayPack head lines trailer plan → StartsPacking state writer fields head plan a
    → total_of a.object + (length (packed_events (events_of_lines lines)) + 2) ≤ plan_bound a.object.plan
lines_fit state writer fields head lines trailer plan a m s =
    let some = tail_some trailer in
    rw s.begun.stands.is_plan (omega (arith, some, s.total, m.fits, m.parts))

pub may_finish : {W : Type 0} (state : W → Device) (writer : W) (fields : List Dataset) (head : Header) (lines : List (List ℕ)) (trailer : List ℕ)
    (plan : Plan) (a b : Packing W) → MayPack head lines trailer plan → StartsPacking state writer fields head plan a
    → Lengthens state a b (events_of_lines lines) → finish_cause b trailer ≡ None
may_finish state writer fields head lines trailer plan a b m s l =
    let total : total_of b.object + length (packed_tail trailer) ≡ length (canonical head lines trailer) = omega (arith, s.total, l.total, m.parts) in
    let is_plan : b.object.plan ≡ plan = l.plan ∙ s.begun.stands.is_plan in
    rw (l.unfailed, m.trailer_is, is_plan, total, le-leb (length (canonical head lines trailer)) (plan_bound plan) m.fits, m.whole) refl
