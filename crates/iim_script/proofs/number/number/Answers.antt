use Rattle.std.proofs.Common.{ℕ, List, IfNone, sym, subst}
use Rattle.iim_script.specs.Format.Scripts.{EncodesNumber}
use Rattle.iim_script.proofs.Texts.{three_of}
use Rattle.iim_script.proofs.number.number.Goals as goal

pub returns-in-len3-clause-none : goal.returns-in-len3-clause-none
returns-in-len3-clause-none c =
    let whole = three_of c.args.digits.now c.in-len3.len_at_least c.in-len3.len_below in
    subst (λ (l : List ℕ). IfNone c.of_digits-in-len3.result ((n : ℕ) → EncodesNumber l n → ⊥)) (sym whole) c.of_digits-in-len3.ensures.none
