use Rattle.std.proofs.Common.{ℕ, List, Some, refl, subst, ◌∙◌, arith, drop, ap, length, length-drop}
use Rattle.std.proofs.lemmas.List.{take_all, take_rest, drop-drop}
use Rattle.wire_story.specs.Steps.{MaskCovers}
use Rattle.wire_story.proofs.{Pieces.leads_on_none, Marked.no_marks, Fronts.takes_both, Fronts.refuses_later}
use Rattle.wire_story.proofs.piece.consume_chunk.Goals as goal

pub loop-at-init : goal.loop-at-init
loop-at-init g c = record {
  few = c.requires;
  within = omega arith;
  marks = rw c.new-marks.ensures (no_marks c.args.piece.now);
  taken = record { leads_on = leads_on_none (Some c.args.held); told = g.met.S.StorySink.nothing c.args.sink.now; no_failure = refl };
}

pub loop-at-preserved : goal.loop-at-preserved
loop-at-preserved g c =
    let piece = c.args.piece.now in
    let at = c.loop-at.at in
    let front = c.in-Ok-consume_prefixes.ensures.front in
    let k = c.in-Ok-consume_prefixes.used in
    record {
      few = front.few;
      within = omega (arith, front.within, ap length (take_rest piece at), length-drop at piece);
      marks = subst (λ (xs : List ℕ). MaskCovers xs c.in-Ok-consume_prefixes.after) (ap (drop k) (take_rest piece at) ∙ drop-drop k at piece) front.next;
      taken = takes_both g.met.S.StorySink.joined piece at k c.loop-at.invariant.taken c.in-Ok-consume_prefixes.ensures.taken;
    }

pub returns-in-Err-consume_prefixes-clause-refused : goal.returns-in-Err-consume_prefixes-clause-refused
returns-in-Err-consume_prefixes-clause-refused g c =
    rw c.after.ensures (refuses_later g.met.S.StorySink.joined c.args.piece.now c.loop-at.at c.loop-at.invariant.taken
    c.in-Err-consume_prefixes.ensures.refused)

pub returns-clause-taken : goal.returns-clause-taken
returns-clause-taken g c = rw (take_all c.loop-at.at c.args.piece.now (omega arith)) at c.loop-at.invariant.taken

pub consume_prefixes-requires-clause-marks : goal.consume_prefixes-requires-clause-marks
consume_prefixes-requires-clause-marks g c = rw take_rest c.loop-at.invariant.marks
