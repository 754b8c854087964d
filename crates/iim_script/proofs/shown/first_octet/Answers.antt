use Rattle.std.proofs.Common.{◌≡◌, ◌-◌, ◌<◌, ℕ, List, ◌∷◌, length, take, drop, get_or, ◌∙◌, ap, inl, rules}
use Rattle.iim_dataset.proofs.Lists.{some_there}
use Rattle.iim_script.proofs.Texts.{first_and_rest}
use Rattle.iim_script.proofs.shown.first_octet.Goals as goal

backslashed : (xs : List ℕ) → 0 < length xs → get_or xs 0 0 ≡ 92 → xs ≡ 92 ∷ take (length xs - 1) (drop 1 xs)
backslashed xs some e = first_and_rest xs some ∙ ap (λ (n : ℕ). n ∷ take (length xs - 1) (drop 1 xs)) e

pub returns-then-shown-eq-BACKSLASH-clause-some : goal.returns-then-shown-eq-BACKSLASH-clause-some
returns-then-shown-eq-BACKSLASH-clause-some c =
    let xs = c.args.shown.now in
    rw (backslashed xs (some_there xs (λ none. absurd (search rules))) c.if-shown-eq-BACKSLASH.true) c.escape.ensures.some

pub returns-then-shown-eq-BACKSLASH-clause-none : goal.returns-then-shown-eq-BACKSLASH-clause-none
returns-then-shown-eq-BACKSLASH-clause-none c =
    let xs = c.args.shown.now in
    rw (backslashed xs (some_there xs (λ none. absurd (search rules))) c.if-shown-eq-BACKSLASH.true) c.escape.ensures.none

pub returns-clause-some : goal.returns-clause-some
returns-clause-some c =
    let xs = c.args.shown.now in
    inl (c.if-shown-eq-BACKSLASH.false, first_and_rest xs (some_there xs (λ none. absurd (search rules))))
