use Rattle.iim_script.proofs.Words.{ℕ, List, ◌++◌, take, ap, sym, ◌∙◌, arith, list_all}
use Rattle.std.proofs.lemmas.List.{take_all}
use Rattle.iim_dataset.specs.Format.Datasets.{is_plain}
use Rattle.iim_script.proofs.Put.{all_unescaped}
use Rattle.iim_script.proofs.places.put_sixteen.Goals as goal

pub returns-then-plain_in_16-clause-written : goal.returns-then-plain_in_16-clause-written
returns-then-plain_in_16-clause-written c =
    let all = ap (list_all is_plain) (sym (take_all 16 c.args.octets.now (omega (arith, c.requires.sixteen))))
    ∙ (sym c.plain_in_16.ensures ∙ c.if-plain_in_16.true) in
    c.put_octets.ensures.written ∙ ap (λ (xs : List ℕ). take c.args.at c.args.line.now ++ xs) (sym (all_unescaped c.args.octets.now all))
