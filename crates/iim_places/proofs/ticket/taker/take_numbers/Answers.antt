use Rattle.std.proofs.Common.{◌≡◌, ℕ, List, [], ◌∷◌, ◌++◌, length, get_or, Option, None, arith, append_assoc}
use Rattle.iim_places.proofs.Words.{Dataset, number_dataset, mode_dataset, dataset_if, witness_numbers, ConsumesEach, numbers_of_list}
use Rattle.iim_places.proofs.Taking.{no_more, took_more}
use Rattle.iim_places.proofs.ticket.taker.take_numbers.Goals.{then-take_size, else-take_size, then-take_mode, else-take_mode}
use Rattle.iim_places.proofs.ticket.taker.take_numbers.Goals as goal

-- the mode, and the size at this index of the numbers
mode_in : List (Option ℕ) → List Dataset
mode_in ns = dataset_if mode_dataset (get_or ns 0 None)

size_in : ℕ → ℕ → List (Option ℕ) → List Dataset
size_in set at ns = dataset_if (number_dataset 7 set) (get_or ns at None)

four : (ns : List (Option ℕ)) → length ns ≡ 4 → ((mode_in ns ++ size_in 20 1 ns) ++ size_in 90 2 ns) ++ size_in 95 3 ns ≡ witness_numbers (numbers_of_list ns)
unfolding mode_in size_in
four (a ∷ b ∷ c ∷ d ∷ []) is = simp append_assoc
four ns is = absurd (omega (arith, is))

pub returns-else-take_size-2-clause-took : goal.returns-else-take_size-2-clause-took
unfolding mode_in size_in
returns-else-take_size-2-clause-took g c =
    let ready = g.T.DatasetTaker.ready in
    let stands = g.T.DatasetTaker.stands in
    let limits = g.T.DatasetTaker.limits in
    let old = c.args.taker.now in
    let ns : List (Option ℕ) = c.args.numbers in
    let two : ConsumesEach ready stands limits old (mode_in ns ++ size_in 20 1 ns) c.if-take_mode.taker c.if-take_mode.value =
    elim c.if-take_mode.branch [
      | then-take_mode w ↦
          rw (w.taker-is, w.value-is) (took_more ready stands limits old c.take_mode.new.taker w.take_size.new.taker (mode_in ns) (size_in 20 1 ns)
          w.take_size.result (rw w.if-take_mode.true at c.take_mode.ensures.took) w.take_size.ensures.took)
      | else-take_mode w ↦
          let none = rw w.if-take_mode.false at c.take_mode.ensures.took in
          rw (w.value-is, w.if-take_mode.false) (λ ds s. no_more _ ds _ _ (none ds s))
    ] in
    let three : ConsumesEach ready stands limits old ((mode_in ns ++ size_in 20 1 ns) ++ size_in 90 2 ns) c.if-take_size.taker c.if-take_size.value =
    elim c.if-take_size.branch [
      | then-take_size w ↦
          rw (w.taker-is, w.value-is) (took_more ready stands limits old c.if-take_mode.taker w.take_size-then-take_size.new.taker
          (mode_in ns ++ size_in 20 1 ns) (size_in 90 2 ns) w.take_size-then-take_size.result (rw w.if-take_size.true at two)
          w.take_size-then-take_size.ensures.took)
      | else-take_size w ↦ let none = rw w.if-take_size.false at two in rw c.if-take_size-2.false (λ ds s. no_more _ ds _ _ (none ds s))
    ] in
    let none = rw c.if-take_size-2.false at three in
    rw (← four ns c.requires.fits.four, c.if-take_size-2.false) (λ ds s. no_more _ ds _ _ (none ds s))
