use Rattle.iim_pack.proofs.Words.{◌≡◌, ℕ, ◌+◌, ◌≤◌, Bool, true, false, None, List, [], ◌∷◌, length, map, ap, ◌∙◌, arith, on_ok_weaker, on_err_weaker, plan_bound, total_of, Device, IsLine, LineOctet, LineEnd, packed_events, line_packed, Packing, text_cause, line_end_cause}
use Rattle.iim_pack.specs.{States.Packing.Lengthens, Steps.line_events}
use Rattle.iim_pack.proofs.{Goings.of_none, LinesOut.leads_on, LinesOut.breaks_later, LinesOut.breaks_before, LinesOut.may_text, LinesOut.may_end_line}
use Rattle.iim_pack.proofs.lines.put_line.Goals as goal

-- the size left by the bound, for the first line and for another
first_fits : (total most : ℕ) (is_first : Bool) (line : List ℕ) → is_first ≡ true → total + (length (packed_events (line_events is_first line)) + 2) ≤ most
    → total + (length line + 2) ≤ most
first_fits total most is_first line e fits =
    let is : packed_events (line_events is_first line) ≡ line = ap (λ (b : Bool). packed_events (line_events b line)) e ∙ line_packed line in
    omega (arith, fits, ap length is)

next_fits : (total most : ℕ) (is_first : Bool) (line : List ℕ) → is_first ≡ false → total + (length (packed_events (line_events is_first line)) + 2) ≤ most
    → total + (length line + 4) ≤ most
next_fits total most is_first line e fits =
    let is : packed_events (line_events is_first line) ≡ 13 ∷ 10 ∷ line = ap (λ (b : Bool). packed_events (line_events b line)) e
    ∙ ap (λ (t : List ℕ). 13 ∷ 10 ∷ t) (line_packed line) in
    omega (arith, fits, ap length is)

pub returns-then-is_first-clause-cause : goal.returns-then-is_first-clause-cause
returns-then-is_first-clause-cause g c =
    let k = c.args.packer.now in
    let fits = first_fits (total_of k.object) (plan_bound k.object.plan) c.args.is_first c.args.line.now c.if-is_first.true c.requires.fits in
    of_none (text_cause k c.args.line.now) _ (may_text k c.args.line.now c.requires.line c.requires.unfailed fits) c.text_unchecked.ensures.cause

pub returns-then-is_first-clause-broke : goal.returns-then-is_first-clause-broke
returns-then-is_first-clause-broke g c =
    let k = c.args.packer.now in
    let fits = first_fits (total_of k.object) (plan_bound k.object.plan) c.args.is_first c.args.line.now c.if-is_first.true c.requires.fits in
    rw c.if-is_first.true (of_none (text_cause k c.args.line.now) _ (may_text k c.args.line.now c.requires.line c.requires.unfailed fits)
    c.text_unchecked.ensures.broke)

pub returns-in-Ok-clause-ok : goal.returns-in-Ok-clause-ok
returns-in-Ok-clause-ok g c =
    rw c.if-is_first.false
    (on_ok_weaker c.text_unchecked-in-Ok.result (leads_on g.W.Target.state c.args.packer.now c.line_end.new.self c.text_unchecked-in-Ok.new.self (LineEnd ∷ [])
    (map LineOctet c.args.line.now) c.writes_join.ensures c.in-Ok.ensures.ok)
    c.text_unchecked-in-Ok.ensures.ok)

-- After the line end, a line that is not the first fits.
may_more : {W : Type 0} (state : W → Device) (k m : Packing W) (is_first : Bool) (line : List ℕ) → is_first ≡ false → IsLine line
    → Lengthens state k m (LineEnd ∷ [])
    → total_of k.object + (length (packed_events (line_events is_first line)) + 2) ≤ plan_bound k.object.plan → text_cause m line ≡ None
may_more state k m is_first line next is l fits =
    may_text m line is l.unfailed (rw l.plan (omega (arith, next_fits (total_of k.object) (plan_bound k.object.plan) is_first line next fits, l.total)))

pub returns-in-Ok-clause-cause : goal.returns-in-Ok-clause-cause
returns-in-Ok-clause-cause g c =
    of_none _ _ (may_more g.W.Target.state c.args.packer.now c.line_end.new.self c.args.is_first c.args.line.now c.if-is_first.false c.requires.line
    c.in-Ok.ensures.ok c.requires.fits)
    c.text_unchecked-in-Ok.ensures.cause

pub returns-in-Ok-clause-broke : goal.returns-in-Ok-clause-broke
returns-in-Ok-clause-broke g c =
    let state = g.W.Target.state in
    let k = c.args.packer.now in
    let m = c.line_end.new.self in
    let may = may_more state k m c.args.is_first c.args.line.now c.if-is_first.false c.requires.line c.in-Ok.ensures.ok c.requires.fits in
    rw c.if-is_first.false
    (on_err_weaker c.text_unchecked-in-Ok.result
    (breaks_later state k m c.text_unchecked-in-Ok.new.self (LineEnd ∷ []) (map LineOctet c.args.line.now) c.writes_join.ensures c.in-Ok.ensures.ok)
    (of_none (text_cause m c.args.line.now) _ may c.text_unchecked-in-Ok.ensures.broke))

pub returns-in-Err-clause-broke : goal.returns-in-Err-clause-broke
returns-in-Err-clause-broke g c =
    let k = c.args.packer.now in
    let fits = next_fits (total_of k.object) (plan_bound k.object.plan) c.args.is_first c.args.line.now c.if-is_first.false c.requires.fits in
    let broke = of_none (line_end_cause k) _ (may_end_line k c.requires.unfailed (omega (arith, fits))) c.in-Err.ensures.broke in
    rw c.if-is_first.false (breaks_before g.W.Target.state k c.line_end.new.self (LineEnd ∷ []) (map LineOctet c.args.line.now) broke)
