-- Finishing a packer, by the writer of its object.
use Rattle.iim_pack.proofs.Words.{◌≡◌, ℕ, ◌+◌, ◌≤◌, false, None, List, ◌++◌, length, sym, ap, subst, ◌∙◌, arith, append_assoc, length-append, ltb-false, Device, canonical_stream, bound_of, is_short, IsWrittenObject, Writing, plan_bound, total_of, Plan, Size, Known, Unknown, packed_text, StoryEvent, packed_events, lines_of, Header, IsTrailer, packed_head, packed_tail, canonical}
use Rattle.std.proofs.lemmas.Bool.Decides.{nat_tests}
use Rattle.iim_object.specs.Format.Packing.{HasKnownLength}
use Rattle.iim_object.specs.States.Writing as object
use Rattle.wire_story.specs.Laws.{EventsArePackedAsLines}
use Rattle.wire_message.specs.Laws.{CanonicalObjectsAreMessages}
use Rattle.iim_pack.specs.{Format.Packed.Packed, States.Packing.BreaksOff, States.Packing.Finishes, States.Packing.ending_cause}
use Rattle.iim_pack.proofs.{Endings.Ends, Endings.EndsWithTail, Goings.breaks, Openings.total_is}

-- ---- causes

pub record MayEnd (plan : Plan) (total : ℕ) (trailer : List ℕ) : Type 0 where
  pub trailer_is : IsTrailer trailer
  pub fits : total + length (packed_tail trailer) ≤ plan_bound plan
  pub whole : is_short plan.size (total + length (packed_tail trailer)) ≡ false

pub may_end : (plan : Plan) (total : ℕ) (trailer : List ℕ) → ending_cause plan (total + length (packed_tail trailer)) trailer ≡ None → MayEnd plan total trailer
may_end plan total trailer e = record {
  trailer_is = (grind (arith, nat_tests), omega arith, grind (arith, nat_tests));
  fits = grind (arith, nat_tests);
  whole = grind (arith, nat_tests);
}

-- ---- objects

as_known : (subfile : ℕ) (size : Size) (object : List ℕ) → length object ≤ bound_of subfile size → is_short size (length object) ≡ false
    → HasKnownLength size object
as_known subfile (Known n) object fits whole = let least : n ≤ length object = ltb-false (length object) n whole in omega (arith, fits, least)
as_known subfile (Unknown m) object fits whole = tt

-- The canonical object of the lines of a text is the octets received of it, and its end.
pub canonical_is : (head : Header) (events : List StoryEvent) (trailer : List ℕ) → packed_text (lines_of events) ≡ packed_events events
    → canonical head (lines_of events) trailer ≡ (packed_head head ++ packed_events events) ++ packed_tail trailer
canonical_is head events trailer e =
    ap (λ (t : List ℕ). packed_head head ++ (t ++ packed_tail trailer)) e ∙ sym (append_assoc (packed_head head) (packed_events events) (packed_tail trailer))

pub finished : {W : Type 0} (state : W → Device) (before : ℕ) (old : Writing W) (trailer : List ℕ) (writer : W) → EventsArePackedAsLines
    → CanonicalObjectsAreMessages → MayEnd old.plan (total_of old) trailer
    → Ends state old (packed_tail trailer) writer → Finishes state (record { before = before; object = old }) trailer writer
finished state before old trailer writer lines messages may ends = record {
  more = ends.more;
  wrote = ends.wrote;
  retry_limit = ends.retry_limit;
  whole = λ fields head events plan out s.
      let lined = lines events s.events_are in
      let message = messages head (lines_of events) trailer s.header lined.make may.trailer_is in
      let is = canonical_is head events trailer lined.text in
      let total : length (canonical head (lines_of events) trailer) ≡ total_of old + length (packed_tail trailer) =
      ap length is ∙ omega (
        arith,
        length-append (packed_head head ++ packed_events events) (packed_tail trailer),
        total_is old (packed_head head ++ packed_events events) s.object_out s.stands,
      ) in
      let fits : length (canonical head (lines_of events) trailer) ≤ plan_bound plan = rw (← s.is_plan, total) may.fits in
      let whole : is_short plan.size (length (canonical head (lines_of events) trailer)) ≡ false = rw (← s.is_plan, total) may.whole in
      record {
        may = record {
          envelope = s.envelope;
          text = packed_text (lines_of events);
          message = message.0;
          lined = message.1;
          suits = record { fits = fits; exact = as_known plan.subfile plan.size (canonical head (lines_of events) trailer) fits whole };
        };
        object = s.object_out ++ ends.more;
        written = rw (← s.is_plan, is) (ends.whole (packed_head head ++ packed_events events) s.object_out s.stands);
        octets_are = ap (λ (t : List ℕ). t ++ ends.more) s.out_is ∙ append_assoc (canonical_stream fields) s.object_out ends.more;
      };
}

pub unfinished : {W : Type 0} (state : W → Device) (before : ℕ) (old new : Writing W) (trailer : List ℕ) → EventsArePackedAsLines
    → object.WriterFails state (EndsWithTail old.plan (packed_tail trailer)) old new
    → BreaksOff state (λ fields head before. Packed fields head (lines_of before) trailer) (record { before = before; object = old })
    (record { before = before; object = new })
unfinished state before old new trailer lines k =
    breaks state before (EndsWithTail old.plan (packed_tail trailer)) (λ fields head before. Packed fields head (lines_of before) trailer) old new
    (λ fields head events whole are p. (
      p.object,
      p.octets_are,
      subst (λ (o : List ℕ). IsWrittenObject old.plan.subfile old.plan.size o p.object) (canonical_is head events trailer (lines events are).text) p.written,
    ))
    k
