use Rattle.std.proofs.Common.{◌+◌, ◌≤◌, List, take, Some, refl, subst, sym, ap, ◌∙◌, arith}
use Rattle.std.proofs.lemmas.List.{length-take-le, take-take}
use Rattle.wire_story.specs.Format.Texts.{IsLine, is_line_octet, StoryEvent, delivered}
use Rattle.wire_story.proofs.{Spans.Are-take, Pieces.leads_on, Pieces.leads_on_none, Pieces.held_in_line, Pieces.refuses_in_line, Told.delivered_line}
use Rattle.wire_story.proofs.piece.take_run.Goals as goal

pub returns-in-Ok-clause-taken : goal.returns-in-Ok-clause-taken
returns-in-Ok-clause-taken g c =
    let run = take c.args.run c.args.rest.now in record {
      leads_on = rw (c.requires.held (omega arith)) (leads_on 0 run 0 (held_in_line run c.requires.line));
      told = subst (λ (es : List StoryEvent). g.S.StorySink.goes c.args.sink.now es c.text.new.self) (sym (delivered_line run c.requires.line))
          c.in-Ok.ensures.ok;
      no_failure = c.in-Ok.ensures.no_failure;
    }

pub returns-in-Err-clause-refused : goal.returns-in-Err-clause-refused
returns-in-Err-clause-refused g c =
    let rest = c.args.rest.now in
    let run = c.args.run in
    let taken = c.in-Err.stop.taken in
    let line = c.requires.line in
    let within : taken + 1 ≤ run = omega (arith, c.in-Err.ensures.refused, length-take-le run rest c.requires.within) in
    let front = subst IsLine (take-take (taken + 1) run rest within) (Are-take is_line_octet (taken + 1) (take run rest) line) in
    let told = sym (delivered_line (take taken (take run rest)) (Are-take is_line_octet taken (take run rest) line))
    ∙ ap delivered (take-take taken run rest (omega arith)) in
    record {
      before = omega (arith, c.requires.within);
      refused = rw (c.requires.held (omega arith)) (refuses_in_line rest taken (omega (arith, c.requires.within)) front);
      told = subst (λ (es : List StoryEvent). g.S.StorySink.goes c.args.sink.now es c.text.new.self) told c.in-Err.ensures.front;
      counted = c.in-Err.ensures.counted;
    }

pub returns-then-run-eq0-clause-taken : goal.returns-then-run-eq0-clause-taken
returns-then-run-eq0-clause-taken g c =
    rw c.if-run-eq0.true (record { leads_on = leads_on_none (Some c.args.held); told = g.met.S.StorySink.nothing c.args.sink.now; no_failure = refl })
