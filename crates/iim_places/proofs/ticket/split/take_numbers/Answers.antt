use Rattle.iim_places.proofs.{Splitting.no_numbers, Splitting.Lacks.Missing, Splitting.Lacks.After}
use Rattle.iim_places.proofs.ticket.split.take_numbers.Goals as goal

pub returns-in_err-mode-clause-none : goal.returns-in_err-mode-clause-none
returns-in_err-mode-clause-none c = rw c.from_residual.ensures (no_numbers _ _ (Missing c.in_err-mode.ensures.none))

pub returns-in_err-limit-clause-none : goal.returns-in_err-limit-clause-none
returns-in_err-limit-clause-none c =
    rw c.from_residual-in_err-limit.ensures (no_numbers _ _ (After _ _ c.in_ok-mode.ensures.fits c.in_ok-mode.ensures.parts (Missing
    c.in_err-limit.ensures.none)))

pub returns-in_err-announced-clause-none : goal.returns-in_err-announced-clause-none
returns-in_err-announced-clause-none c =
    rw c.from_residual-in_err-announced.ensures (no_numbers _ _ (After _ _ c.in_ok-mode.ensures.fits c.in_ok-mode.ensures.parts
    (After _ _ c.in_ok-limit.ensures.fits c.in_ok-limit.ensures.parts (Missing c.in_err-announced.ensures.none))))

pub returns-in_err-maximum-clause-none : goal.returns-in_err-maximum-clause-none
returns-in_err-maximum-clause-none c =
    rw c.from_residual-in_err-maximum.ensures (no_numbers _ _ (After _ _ c.in_ok-mode.ensures.fits c.in_ok-mode.ensures.parts
    (After _ _ c.in_ok-limit.ensures.fits c.in_ok-limit.ensures.parts (After _ _ c.in_ok-announced.ensures.fits c.in_ok-announced.ensures.parts (Missing
    c.in_err-maximum.ensures.none)))))
