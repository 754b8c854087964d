use Rattle.std.proofs.Common.{◌≡◌, ◌+◌, List, ℕ, Some, refl, subst, ◌∙◌, arith, drop, ap, length, length-drop}
use Rattle.std.proofs.lemmas.List.{take_rest, drop-drop}
use Rattle.wire_story.specs.Steps.{MaskCovers}
use Rattle.wire_story.proofs.{Pieces.leads_on_none, Fronts.takes_both, Fronts.refuses_later}
use Rattle.wire_story.proofs.piece.consume_lines.Goals as goal

pub loop-sink-init : goal.loop-sink-init
loop-sink-init g c = record {
  within = omega arith;
  marks = c.requires.marks;
  taken = record {
    leads_on = leads_on_none (Some 0);
    told = g.met.S.StorySink.nothing c.args.sink.now;
    no_failure = refl;
  };
}

pub loop-sink-preserved : goal.loop-sink-preserved
loop-sink-preserved g c =
    let rest = c.args.rest.now in
    let at = c.loop-sink.at in
    let k = c.in-Ok.used in
    record {
      within = omega (arith, c.in-Ok.ensures.within, ap length (take_rest rest at), length-drop at rest);
      marks = subst (λ (xs : List ℕ). MaskCovers xs c.after-here.result) (ap (drop k) (take_rest rest at) ∙ drop-drop k at rest) c.after-here.ensures;
      taken = takes_both g.met.S.StorySink.joined rest at k c.loop-sink.invariant.taken c.in-Ok.ensures.taken;
    }

-- ---- A line of no octets.
pub returns-then-used-eq0-clause-taken : goal.returns-then-used-eq0-clause-taken
returns-then-used-eq0-clause-taken g c =
    let e : c.loop-sink.at + c.in-Ok.used ≡ c.loop-sink.at = omega (arith, c.if-used-eq0.true) in
    rw e at (takes_both g.met.S.StorySink.joined c.args.rest.now c.loop-sink.at c.in-Ok.used c.loop-sink.invariant.taken c.in-Ok.ensures.taken)

pub returns-in-Err-clause-refused : goal.returns-in-Err-clause-refused
returns-in-Err-clause-refused g c =
    rw c.after.ensures (refuses_later g.met.S.StorySink.joined c.args.rest.now c.loop-sink.at c.loop-sink.invariant.taken c.in-Err.ensures.refused)

pub after-here-requires-clause-marks : goal.after-here-requires-clause-marks
after-here-requires-clause-marks g c = rw take_rest c.loop-sink.invariant.marks
