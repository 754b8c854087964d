use Rattle.iim_script.proofs.Words.{List, ℕ, sym, subst, arith, IsScript}
use Rattle.wire_story.proofs.Collected.{text_collected}
use Rattle.iim_script.proofs.reading.read_script.Goals as goal

pub returns-clause-script : goal.returns-clause-script
returns-clause-script c =
    let front = c.in_ok-front.front in
    let text = c.in_ok-text.text.octets.now in
    let t = c.in_ok-text.ensures.text in
    let script = c.args.script.now in
    subst (λ (lines : List (List ℕ)). IsScript c.args.limits script front.envelope front.head front.trailer.items lines front.story.lines)
    (sym (text_collected text t.lines t.is_text))
    (record {
      story = front.story.octets.now;
      short = omega (arith, c.if-script-gt-MAX_SCRIPT.false);
      is_front = c.in_ok-front.ensures.front;
      is_story = t.is_story;
      texts = t.texts;
    })

pub returns-clause-text : goal.returns-clause-text
returns-clause-text c = grind (arith, text_collected)

pub returns-clause-len : goal.returns-clause-len
returns-clause-len c = grind (arith, text_collected)
