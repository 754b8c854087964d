use Rattle.std.proofs.Common.{◌≡◌, ◌==◌, true, get_or, take, refl, sym, ap, ◌∙◌, arith}
use Rattle.std.proofs.lemmas.Bool.{eq-eqb}
use Rattle.std.proofs.lemmas.List.{get_or-take, length-take-le}
use Rattle.std.proofs.lemmas.List.Sums.{position_or_len_is}
use Rattle.wire_story.specs.Format.Texts.{is_line_octet}
use Rattle.wire_story.proofs.{HeldReturns.not_at, Spans.Are-at}
use Rattle.wire_story.proofs.line_iter.first_len.Goals as goal

pub loop-at-init : goal.loop-at-init
loop-at-init c = (
  c.run_len-at.ensures.within,
  λ k less.
      let octets = c.args.octets.now in
      let run = c.run_len-at.result.0 in
      let found = c.run_len-at.ensures in
      let stands : is_line_octet (get_or octets k 0) ≡ true =
      ap is_line_octet (sym (get_or-take run octets k 0 less))
      ∙ Are-at is_line_octet (take run octets) k found.line (omega (arith, less, length-take-le run octets found.within)) in
      not_at (get_or octets k 0) 10 stands refl,
)

pub returns-then-octets-at-eq-LF : goal.returns-then-octets-at-eq-LF
returns-then-octets-at-eq-LF c =
    let octets = c.args.octets.now in
    sym (position_or_len_is (λ b. b == 10) octets c.loop-at.at 0 (omega arith) c.loop-at.invariant.1
    (λ within. eq-eqb (get_or octets c.loop-at.at 0) 10 c.if-octets-at-eq-LF.true))

pub returns : goal.returns
returns c =
    let octets = c.args.octets.now in
    sym (position_or_len_is (λ b. b == 10) octets c.loop-at.at 0 (omega (arith, c.loop-at.invariant.0)) c.loop-at.invariant.1
    (λ within. absurd (omega (arith, within, c.loop-at-test.false))))
