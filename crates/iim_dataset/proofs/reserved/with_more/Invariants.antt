use Rattle.std.proofs.Common.{◌≡◌, ◌+◌, take, vec_len, vec_capacity}
use Rattle.iim_dataset.proofs.reserved.with_more.Given as goal

-- One zero was appended in each round, with the same capacity.
abbrev pub invariant-loop : goal.invariant-loop
invariant-loop l =
    (take (vec_len l.fn.places) l.places.items ≡ l.fn.places.items)
    × (vec_len l.places ≡ vec_len l.fn.places + l.counter)
    × (vec_capacity l.places ≡ vec_capacity l.fn.places)
