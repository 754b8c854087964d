use Rattle.iim_pack.proofs.Words.{ℕ, Bool, true, false, List, [], ◌++◌, sym, ap, subst, ◌∙◌, append_assoc, list_all, and_parts, is_line_octet, StoryEvent}
use Rattle.iim_pack.specs.{States.Packing.BreaksOff, States.Packing.ContinuesWith, Steps.line_events}
use Rattle.iim_pack.proofs.LinesOut.{events_left, goes_nowhere, leads_on, breaks_later, breaks_before, all_left}
use Rattle.iim_pack.proofs.lines.put_lines.Goals as goal

pub loop-line-init : goal.loop-line-init
loop-line-init g c = record {
  done = [];
  parts = all_left c.args.lines.now.lines ∙ ap (λ (ls : List (List ℕ)). events_left true ls) (sym c.iter-left.ensures.lines);
  lines = rw c.iter-left.ensures.lines c.iter-left.ensures.text.1;
  lengthened = goes_nowhere g.W.Target.state c.args.packer.now c.writes_join.ensures c.requires.unfailed;
}

pub loop-line-preserved : goal.loop-line-preserved
loop-line-preserved g c =
    let inv = c.loop-line.invariant in
    let first : Bool = c.loop-line.is_first in
    let line : List ℕ = c.in-Some.line.now in
    let rest : List (List ℕ) = c.next.new.self in
    let each = rw c.in-Some.ensures.steps at inv.lines in
    record {
      done = inv.done ++ line_events first line;
      parts = inv.parts ∙ (ap (λ (ls : List (List ℕ)). inv.done ++ events_left first ls) c.in-Some.ensures.steps
          ∙ sym (append_assoc inv.done (line_events first line) (events_left false rest)));
      lines = (and_parts (list_all is_line_octet line) (list_all (list_all is_line_octet) rest) each).1;
      lengthened = leads_on g.W.Target.state c.args.packer.now c.loop-line.packer c.put_line.new.packer inv.done (line_events first line) c.writes_join.ensures
          inv.lengthened c.in-Ok.ensures.ok;
    }

pub returns-in-Err-clause-broke : goal.returns-in-Err-clause-broke
returns-in-Err-clause-broke g c =
    let state = g.W.Target.state in
    let inv = c.loop-line.invariant in
    let first : Bool = c.loop-line.is_first in
    let line : List ℕ = c.in-Some.line.now in
    let rest : List (List ℕ) = c.next.new.self in
    let now = breaks_later state c.args.packer.now c.loop-line.packer c.put_line.new.packer inv.done (line_events first line) c.writes_join.ensures
    inv.lengthened c.in-Err.ensures.broke in
    let all = breaks_before state c.args.packer.now c.put_line.new.packer (inv.done ++ line_events first line) (events_left false rest) now in
    let parts = inv.parts ∙ (ap (λ (ls : List (List ℕ)). inv.done ++ events_left first ls) c.in-Some.ensures.steps
    ∙ sym (append_assoc inv.done (line_events first line) (events_left false rest))) in
    subst (λ (events : List StoryEvent). BreaksOff state (ContinuesWith events) c.args.packer.now c.put_line.new.packer) (sym parts) all
