use Rattle.std.proofs.Common.{◌≡◌, true, false, length, sym, ◌∙◌, arith, inl, inr}
use Rattle.std.proofs.lemmas.Bool.{eqb-true, eq-eqb, cases_lt}
use Rattle.std.proofs.lemmas.List.{take_all}
use Rattle.wire_story.specs.Format.Texts.{is_line_octet}
use Rattle.wire_story.proofs.Spans.{Are-at}
use Rattle.wire_story.proofs.line.is_text.Goals as goal

pub returns : goal.returns
returns c =
    let octets = c.args.octets.now in
    let calm = c.run_len.result.0 in (
      (λ is. rw (eqb-true calm (length octets) is, take_all (length octets) octets (omega arith)) at c.run_len.ensures.line),
      (λ line. elim (cases_lt calm (length octets)) [
        | inl less ↦ let bad : false ≡ true = sym (c.run_len.ensures.longest less) ∙ Are-at is_line_octet octets calm line less in absurd cc
        | inr all ↦ eq-eqb calm (length octets) (omega (arith, all, c.run_len.ensures.within))
      ]),
    )
