use Rattle.iim_script.proofs.Plains.{allowed_all}
use Rattle.iim_script.proofs.Words.{◌≡◌, ◌==◌, ℕ, List, count_by, take, subst, arith, IsTrue, list_all, take_rest}
use Rattle.iim_script.specs.Steps.{is_plain}
use Rattle.iim_script.proofs.Plains.{allowed_more, count_next}
use Rattle.iim_script.proofs.text.count_feeds_checked.Goals as goal

pub loop-at-preserved : goal.loop-at-preserved
loop-at-preserved c =
    let xs = c.args.octets.now in
    let at = c.loop-at.at in
    let i = c.loop-at.invariant in
    let block = subst (λ (ys : List ℕ). IsTrue (list_all is_plain (take 16 ys)) × (c.in-Some.more ≡ count_by (λ b. b == 10) (take 16 ys))) (take_rest xs at)
    c.in-Some.ensures in
    record {
      within = omega (arith, i.within, c.loop-at-test.true);
      plain = allowed_more xs at 16 i.plain block.0;
      counted = omega (arith, i.counted, block.1, count_next (λ b. b == 10) xs at 16);
    }

pub returns-in-Some-feeds_in_rest : goal.returns-in-Some-feeds_in_rest
returns-in-Some-feeds_in_rest c = grind (arith, allowed_all, take_rest)
