use Rattle.std.proofs.Common.{◌≡◌, ◌<◌, ◌+◌, ℕ, List, [], ◌∷◌, ◌++◌, length, take, drop, slice_index_or, slice_set, arith, rules}
use Rattle.std.proofs.lemmas.List.{drop_more, length-set}
use Rattle.trials.proofs.device.TrialReaderSource.read.Goals as goal

-- The octet that was stored is the next one.
moved : (xs buffer : List ℕ) (at : ℕ) → at < length xs → 0 < length buffer
    → drop at xs ≡ take 1 (slice_set buffer 0 (slice_index_or xs at 0)) ++ drop (at + 1) xs
moved xs [] at h k = absurd (omega arith)
moved xs (b ∷ buffer) at h k = drop_more xs at 0 h

pub returns-clause-ok : goal.returns-clause-ok
returns-clause-ok c =
    let xs = c.args.self.now.octets.now in
    let at = c.args.self.now.at in
    let buffer = c.args.buffer.now in
    let room : 0 < length buffer = search rules in
    (omega (arith, length-set buffer 0 (slice_index_or xs at 0)), moved xs buffer at (omega arith) room, λ none. absurd (omega arith))

pub returns-clause-leads : goal.returns-clause-leads
returns-clause-leads c =
    let xs = c.args.self.now.octets.now in
    let at = c.args.self.now.at in
    record {
      later = (
        omega (arith, c.in_ok-call.ensures.ok),
        omega (arith, c.in_ok-call.ensures.ok),
        (slice_index_or xs at 0 ∷ [], drop_more xs at 0 (omega arith)),
      );
      plan = c.call.ensures.plan;
    }
