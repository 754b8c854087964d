use Rattle.iim_pack_script.proofs.Words.{◌≡◌, ℕ, ◌+◌, ◌≤◌, List, [], ◌∷◌, None, length, map, ap, arith, on_ok_weaker, on_err_weaker, plan_bound, total_of, LineOctet, LineEnd, line_packed, Lengthens, BreaksOff, ContinuesWith, text_cause, line_end_cause, of_none, leads_on, breaks_later, breaks_before, may_text, may_end_line}
use Rattle.iim_pack_script.proofs.text.put_line.Given.{Over}
use Rattle.iim_pack_script.proofs.text.put_line.Goals.{In-Ok}
use Rattle.iim_pack_script.proofs.text.put_line.Goals as goal

pub returns-in-Ok-clause-ok : goal.returns-in-Ok-clause-ok
returns-in-Ok-clause-ok g c =
    let state = g.W.Target.state in
    let k = c.args.packer.now in
    let m = c.text_unchecked.new.self in
    let line : List ℕ = c.args.line.now in
    on_ok_weaker c.line_end.result (λ (l : Lengthens state m c.line_end.new.self (LineEnd ∷ [])).
    leads_on state k m c.line_end.new.self (map LineOctet line) (LineEnd ∷ []) c.writes_join.ensures c.in-Ok.ensures.ok l) c.line_end.ensures.ok

-- if the line is packed, its end has no cause
ends : (g : Over) (c : In-Ok g) → line_end_cause c.text_unchecked.new.self ≡ None
ends g c =
    let m = c.text_unchecked.new.self in
    let l = c.in-Ok.ensures.ok in
    let len = ap length (line_packed c.args.line.now) in
    let room : total_of m.object + 4 ≤ plan_bound m.object.plan = rw l.plan (omega (arith, c.requires.fits, l.total, len)) in
    may_end_line m l.unfailed room

pub returns-in-Ok-clause-cause : goal.returns-in-Ok-clause-cause
returns-in-Ok-clause-cause g c =
    of_none (line_end_cause c.text_unchecked.new.self) _ (ends g (goal.at.returns-in-Ok-clause-cause g c).In-Ok) c.line_end.ensures.cause

pub returns-in-Ok-clause-broke : goal.returns-in-Ok-clause-broke
returns-in-Ok-clause-broke g c =
    let m = c.text_unchecked.new.self in
    on_err_weaker c.line_end.result (λ (b : BreaksOff g.W.Target.state (ContinuesWith (LineEnd ∷ [])) m c.line_end.new.self).
    breaks_later g.W.Target.state c.args.packer.now m c.line_end.new.self (map LineOctet c.args.line.now) (LineEnd ∷ []) c.writes_join.ensures
    c.in-Ok.ensures.ok b)
    (of_none (line_end_cause m) _ (ends g (goal.at.returns-in-Ok-clause-broke g c).In-Ok) c.line_end.ensures.broke)

pub returns-in-Err-clause-cause : goal.returns-in-Err-clause-cause
returns-in-Err-clause-cause g c =
    let k = c.args.packer.now in
    of_none (text_cause k c.args.line.now) _ (may_text k c.args.line.now c.requires.line c.requires.unfailed (omega (arith, c.requires.fits)))
    c.in-Err.ensures.cause

pub returns-in-Err-clause-broke : goal.returns-in-Err-clause-broke
returns-in-Err-clause-broke g c =
    let k = c.args.packer.now in
    let none = may_text k c.args.line.now c.requires.line c.requires.unfailed (omega (arith, c.requires.fits)) in
    breaks_before g.W.Target.state k c.text_unchecked.new.self (map LineOctet c.args.line.now) (LineEnd ∷ [])
    (of_none (text_cause k c.args.line.now) _ none c.in-Err.ensures.broke)
