use Rattle.iim_audit.proofs.{Words.is_lt, Words.rules, Words.ids_of, Words.sort_key_cmp, Firsts.sort_key_order}
use Rattle.std.proofs.lemmas.Fn.{always_returns_same}
use Rattle.iim_audit.proofs.repeats.sort_keys.Goals as goal

pub returns-clause-sorted : goal.returns-clause-sorted
returns-clause-sorted c =
    let ids = ids_of c.args.rows.now in
    c.sort_unstable_by.ensures.sorted (λ a b. is_lt (sort_key_cmp ids a b)) (sort_key_order ids) (always_returns_same _ _ _ (λ a r q k. search rules))
