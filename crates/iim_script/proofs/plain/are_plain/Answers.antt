use Rattle.iim_tables.proofs.LaneLemmas.{more_pass}
use Rattle.std.proofs.Common.{sym, ◌∙◌, arith}
use Rattle.iim_dataset.specs.Format.Datasets.{is_plain}
use Rattle.iim_tables.proofs.LaneLemmas.{part_fails, front_fails, last_pass}
use Rattle.iim_script.proofs.plain.are_plain.Goals as goal

pub returns-then-not-plain_in_32 : goal.returns-then-not-plain_in_32
returns-then-not-plain_in_32 c = sym (part_fails is_plain c.args.octets.now c.loop-at.at 32 (sym c.plain_in_32.ensures ∙ c.if-not-plain_in_32.true))

pub returns-then-count-ge32 : goal.returns-then-count-ge32
returns-then-count-ge32 c =
    c.plain_in_32-then-count-ge32.ensures ∙ last_pass is_plain c.args.octets.now c.loop-at.at 32 c.if-count-ge32.true (omega (arith, c.loop-at-test.false))
    c.loop-at.invariant.1

pub returns-then-plain_in_16 : goal.returns-then-plain_in_16
returns-then-plain_in_16 c =
    c.plain_in_16-then-plain_in_16.ensures ∙ last_pass is_plain c.args.octets.now 16 16 c.if-count-ge16.true (omega arith) (sym c.plain_in_16.ensures
    ∙ c.if-plain_in_16.true)

pub returns-else-plain_in_16 : goal.returns-else-plain_in_16
returns-else-plain_in_16 c = c.if-plain_in_16.false ∙ sym (front_fails is_plain c.args.octets.now 16 (sym c.plain_in_16.ensures ∙ c.if-plain_in_16.false))

pub returns-then-plain_in_8 : goal.returns-then-plain_in_8
returns-then-plain_in_8 c =
    c.plain_in_8-then-plain_in_8.ensures ∙ last_pass is_plain c.args.octets.now 8 8 c.if-count-ge8.true (omega arith) (sym c.plain_in_8.ensures
    ∙ c.if-plain_in_8.true)

pub returns-then-plain_in_4 : goal.returns-then-plain_in_4
returns-then-plain_in_4 c =
    c.plain_in_4-then-plain_in_4.ensures ∙ last_pass is_plain c.args.octets.now 4 4 c.if-count-ge4.true (omega arith) (sym c.plain_in_4.ensures
    ∙ c.if-plain_in_4.true)

pub loop-at-preserved : goal.loop-at-preserved
loop-at-preserved c = grind (arith, front_fails, more_pass)
