use Rattle.iim_pack_script.proofs.Words.{◌≡◌, ℕ, ◌+◌, ◌≤◌, List, [], ◌∷◌, ◌++◌, None, length, map, refl, sym, ◌∙◌, append_assoc, on_ok_weaker, on_err_weaker, plan_bound, total_of, StoryEvent, LineOctet, LineEnd, events_of_lines, text_lines, Lengthens, BreaksOff, ContinuesWith, text_cause, of_none, goes_nowhere, leads_on, breaks_later, breaks_before, may_text}
use Rattle.iim_pack_script.proofs.Lines.{first_is, last_is, parts_more, parts_last, fits_line, fits_last}
use Rattle.iim_pack_script.proofs.text.put_text.Given.{Over}
use Rattle.iim_pack_script.proofs.text.put_text.Goals.{In_default}
use Rattle.iim_pack_script.proofs.text.put_text.Goals as goal

pub loop-line-init : goal.loop-line-init
loop-line-init g c = record {
  left = text_lines c.args.text.now;
  text = c.requires.text;
  done = [];
  parts = refl;
  lengthened = goes_nowhere g.W.Target.state c.args.packer.now c.writes_join.ensures c.requires.unfailed;
}

pub put_line-requires-clause-line : goal.put_line-requires-clause-line
put_line-requires-clause-line g c =
    let inv = c.loop-line.invariant in
    let m = c.in-Some.ensures.more inv.left inv.text in
    first_is c.loop-line.rest.now c.in-Some.line.now m.0 c.in-Some.after.now (rw m.1 at inv.text) m.2

pub put_line-requires-clause-unfailed : goal.put_line-requires-clause-unfailed
put_line-requires-clause-unfailed g c = c.loop-line.invariant.lengthened.unfailed

pub put_line-requires-clause-fits : goal.put_line-requires-clause-fits
put_line-requires-clause-fits g c =
    let inv = c.loop-line.invariant in
    let m = c.in-Some.ensures.more inv.left inv.text in
    let line : List ℕ = c.in-Some.line.now in
    let k = c.args.packer.now in
    let parts = parts_more _ inv.done inv.left m.0 line c.in-Some.after.now inv.parts m.1 m.2 in
    rw inv.lengthened.plan (fits_line _ inv.done (events_of_lines m.0) line (total_of k.object) (total_of c.loop-line.packer.object)
    (plan_bound k.object.plan) parts c.requires.fits inv.lengthened.total)

pub loop-line-preserved : goal.loop-line-preserved
loop-line-preserved g c =
    let inv = c.loop-line.invariant in
    let m = c.in-Some.ensures.more inv.left inv.text in
    let line : List ℕ = c.in-Some.line.now in
    let more : List StoryEvent = map LineOctet line ++ LineEnd ∷ [] in
    record {
      left = m.0;
      text = m.2;
      done = inv.done ++ more;
      parts = parts_more _ inv.done inv.left m.0 line c.in-Some.after.now inv.parts m.1 m.2 ∙ sym (append_assoc inv.done more (events_of_lines m.0));
      lengthened = leads_on g.W.Target.state c.args.packer.now c.loop-line.packer c.put_line.new.packer inv.done more c.writes_join.ensures inv.lengthened
          c.in-Ok.ensures.ok;
    }

pub loop-line-smaller : goal.loop-line-smaller
loop-line-smaller g c = c.in-Some.ensures.shorter

pub returns-in-Err-clause-broke : goal.returns-in-Err-clause-broke
returns-in-Err-clause-broke g c =
    let state = g.W.Target.state in
    let inv = c.loop-line.invariant in
    let m = c.in-Some.ensures.more inv.left inv.text in
    let line : List ℕ = c.in-Some.line.now in
    let more : List StoryEvent = map LineOctet line ++ LineEnd ∷ [] in
    let now = breaks_later state c.args.packer.now c.loop-line.packer c.put_line.new.packer inv.done more c.writes_join.ensures inv.lengthened
    c.in-Err.ensures.broke in
    rw (parts_more _ inv.done inv.left m.0 line c.in-Some.after.now inv.parts m.1 m.2, ← append_assoc inv.done more (events_of_lines m.0))
    (breaks_before state c.args.packer.now c.put_line.new.packer (inv.done ++ more) (events_of_lines m.0) now)

pub text_unchecked-requires : goal.text_unchecked-requires
text_unchecked-requires g c =
    let inv = c.loop-line.invariant in
    last_is c.loop-line.rest.now inv.left inv.text (c.in_default.ensures.one inv.left inv.text)

-- what was done, and the last line
parts : (g : Over) (c : In_default g) → events_of_lines (text_lines c.args.text.now) ≡ c.loop-line.invariant.done ++ map LineOctet c.loop-line.rest.now
parts g c =
    let inv = c.loop-line.invariant in
    parts_last _ inv.done inv.left c.loop-line.rest.now inv.parts (c.in_default.ensures.one inv.left inv.text)

-- the last line has no cause
none : (g : Over) (c : In_default g) → text_cause c.loop-line.packer c.loop-line.rest.now ≡ None
none g c =
    let inv = c.loop-line.invariant in
    let rest : List ℕ = c.loop-line.rest.now in
    let k = c.args.packer.now in
    let n = c.loop-line.packer in
    let room : total_of n.object + (length rest + 2) ≤ plan_bound n.object.plan =
    rw inv.lengthened.plan (fits_last _ inv.done rest (total_of k.object) (total_of n.object) (plan_bound k.object.plan) (parts g c) c.requires.fits
    inv.lengthened.total) in
    may_text n rest (last_is rest inv.left inv.text (c.in_default.ensures.one inv.left inv.text)) inv.lengthened.unfailed room

pub returns-clause-ok : goal.returns-clause-ok
returns-clause-ok g c =
    let inv = c.loop-line.invariant in
    let rest : List ℕ = c.loop-line.rest.now in
    rw (parts g (goal.at.returns-clause-ok g c).In_default)
    (on_ok_weaker c.text_unchecked.result (λ (l : Lengthens g.W.Target.state c.loop-line.packer c.text_unchecked.new.self (map LineOctet rest)).
    leads_on g.W.Target.state c.args.packer.now c.loop-line.packer c.text_unchecked.new.self inv.done
    (map LineOctet rest) c.writes_join.ensures inv.lengthened l)
    c.text_unchecked.ensures.ok)

pub returns-clause-cause : goal.returns-clause-cause
returns-clause-cause g c =
    of_none (text_cause c.loop-line.packer c.loop-line.rest.now) _ (none g (goal.at.returns-clause-cause g c).In_default) c.text_unchecked.ensures.cause

pub returns-clause-broke : goal.returns-clause-broke
returns-clause-broke g c =
    let inv = c.loop-line.invariant in
    let rest : List ℕ = c.loop-line.rest.now in
    let n = c.loop-line.packer in
    let at = (goal.at.returns-clause-broke g c).In_default in
    rw (parts g at) (on_err_weaker c.text_unchecked.result (λ (b : BreaksOff g.W.Target.state (ContinuesWith (map LineOctet rest)) n c.text_unchecked.new.self).
    breaks_later g.W.Target.state c.args.packer.now n c.text_unchecked.new.self inv.done (map LineOctet rest) c.writes_join.ensures inv.lengthened b)
    (of_none (text_cause n rest) _ (none g at) c.text_unchecked.ensures.broke))
