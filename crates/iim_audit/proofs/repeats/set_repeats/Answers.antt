use Rattle.iim_audit.proofs.{Words.All-permutation, Words.IsSortKey, Words.ids_of, Words.sort_keys_of, Firsts.are_places, Firsts.sorted_keys_order}
use Rattle.iim_audit.proofs.repeats.set_repeats.Goals as goal

pub set_all_firsts-requires : goal.set_all_firsts-requires
set_all_firsts-requires c =
    let ids = ids_of c.args.rows.now in
    All-permutation (IsSortKey ids) (sort_keys_of 0 ids) c.sort_keys.new.places
    (rw c.requires.places at c.sort_keys.ensures.permutation) (are_places ids c.requires.few)

pub returns-clause-filled : goal.returns-clause-filled
returns-clause-filled c = λ fresh.
    let ids = ids_of c.args.rows.now in
    c.set_all_firsts.ensures.filled (sorted_keys_order ids c.sort_keys.new.places c.requires.few
    (rw c.requires.places at c.sort_keys.ensures.permutation) c.sort_keys.ensures.sorted) fresh
