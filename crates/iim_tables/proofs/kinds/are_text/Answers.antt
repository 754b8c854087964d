use Rattle.iim_tables.proofs.LaneLemmas.{front_fails, more_pass}
use Rattle.std.proofs.Common.{sym, ◌∙◌, arith}
use Rattle.iim_tables.specs.Text.{is_text}
use Rattle.iim_tables.proofs.LaneLemmas.{part_fails, last_pass}
use Rattle.iim_tables.proofs.kinds.are_text.Goals as goal

pub returns-then-not-text_in_16 : goal.returns-then-not-text_in_16
returns-then-not-text_in_16 c = sym (part_fails (is_text c.args.least c.args.lines) c.args.octets.now c.loop-at.at 16 (sym c.text_in_16.ensures
    ∙ c.if-not-text_in_16.true))

pub returns-then-count-ge16 : goal.returns-then-count-ge16
returns-then-count-ge16 c =
    c.text_in_16-then-count-ge16.ensures
    ∙ last_pass (is_text c.args.least c.args.lines) c.args.octets.now c.loop-at.at 16 c.if-count-ge16.true (omega (arith, c.loop-at-test.false))
    c.loop-at.invariant.1

pub returns-then-text_in_8 : goal.returns-then-text_in_8
returns-then-text_in_8 c =
    c.text_in_8-then-text_in_8.ensures ∙ last_pass (is_text c.args.least c.args.lines) c.args.octets.now 8 8 c.if-count-ge8.true (omega arith)
    (sym c.text_in_8.ensures ∙ c.if-text_in_8.true)

pub returns-then-text_in_4 : goal.returns-then-text_in_4
returns-then-text_in_4 c =
    c.text_in_4-then-text_in_4.ensures ∙ last_pass (is_text c.args.least c.args.lines) c.args.octets.now 4 4 c.if-count-ge4.true (omega arith)
    (sym c.text_in_4.ensures ∙ c.if-text_in_4.true)

pub loop-at-preserved : goal.loop-at-preserved
loop-at-preserved c = grind (arith, front_fails, more_pass)

pub returns-else-text_in_8 : goal.returns-else-text_in_8
returns-else-text_in_8 c = grind (arith, front_fails, more_pass)

pub returns-else-text_in_4 : goal.returns-else-text_in_4
returns-else-text_in_4 c = grind (arith, front_fails, more_pass)
