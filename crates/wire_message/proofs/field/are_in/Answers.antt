use Rattle.std.proofs.Common.{rules, tests, ◌≡◌, sym, ◌∙◌}
use Rattle.std.specs.List.{list_all}
use Rattle.std.proofs.lemmas.Iterator.{YieldsList-from_slice}
use Rattle.std.proofs.lemmas.Iterator.Search.{all_from_yields_List}
use Rattle.wire_message.specs.Kept.{is_in_class}
use Rattle.wire_message.proofs.field.are_in.Goals as goal

pub returns : goal.returns
returns c =
    let octets = c.args.octets.now in
    let answer : c.all.result ≡ list_all (is_in_class c.args.class) octets =
    all_from_yields_List (is_in_class c.args.class) _ _ c.all.result c.all.ensures.ran (YieldsList-from_slice octets cc) (λ x b q k. search (rules, tests)) in
    (λ yes. sym answer ∙ yes, λ each. answer ∙ each)
