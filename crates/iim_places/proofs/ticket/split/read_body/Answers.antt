use Rattle.iim_places.proofs.{Splitting.no_body, Splitting.Lacks.Missing, Splitting.Lacks.After}
use Rattle.iim_places.proofs.ticket.split.read_body.Goals as goal

pub returns-in_err-fields-clause-none : goal.returns-in_err-fields-clause-none
returns-in_err-fields-clause-none c =
    rw c.from_residual-in_err-fields.ensures
    (no_body c.args.version _ _ _ c.in_ok-section.ensures.parts (After _ _ c.in_ok-phase.ensures.fits c.in_ok-phase.ensures.parts (Missing
    c.in_err-fields.ensures.none)))

pub returns-in_err-numbers-clause-none : goal.returns-in_err-numbers-clause-none
returns-in_err-numbers-clause-none c =
    rw c.from_residual-in_err-numbers.ensures
    (no_body c.args.version _ _ _ c.in_ok-section.ensures.parts (After _ _ c.in_ok-phase.ensures.fits c.in_ok-phase.ensures.parts
    (After _ _ c.in_ok-fields.ensures.fits c.in_ok-fields.ensures.parts (Missing c.in_err-numbers.ensures.none))))

pub returns-in_err-taken-clause-none : goal.returns-in_err-taken-clause-none
returns-in_err-taken-clause-none c =
    rw c.from_residual-in_err-taken.ensures
    (no_body c.args.version _ _ _ c.in_ok-section.ensures.parts (After _ _ c.in_ok-phase.ensures.fits c.in_ok-phase.ensures.parts
    (After _ _ c.in_ok-fields.ensures.fits c.in_ok-fields.ensures.parts (After _ _ c.in_ok-numbers.ensures.fits c.in_ok-numbers.ensures.parts (Missing
    c.in_err-taken.ensures.none)))))

pub returns-in_err-heads-clause-none : goal.returns-in_err-heads-clause-none
returns-in_err-heads-clause-none c =
    rw c.from_residual-in_err-heads.ensures
    (no_body c.args.version _ _ _ c.in_ok-section.ensures.parts (After _ _ c.in_ok-phase.ensures.fits c.in_ok-phase.ensures.parts
    (After _ _ c.in_ok-fields.ensures.fits c.in_ok-fields.ensures.parts (After _ _ c.in_ok-numbers.ensures.fits c.in_ok-numbers.ensures.parts
    (After _ _ c.in_ok-taken.ensures.fits c.in_ok-taken.ensures.parts (Missing c.in_err-heads.ensures.none))))))

pub returns-in_err-message-clause-none : goal.returns-in_err-message-clause-none
returns-in_err-message-clause-none c =
    rw c.from_residual-in_err-message.ensures
    (no_body c.args.version _ _ _ c.in_ok-section.ensures.parts (After _ _ c.in_ok-phase.ensures.fits c.in_ok-phase.ensures.parts
    (After _ _ c.in_ok-fields.ensures.fits c.in_ok-fields.ensures.parts (After _ _ c.in_ok-numbers.ensures.fits c.in_ok-numbers.ensures.parts
    (After _ _ c.in_ok-taken.ensures.fits c.in_ok-taken.ensures.parts (After _ _ c.in_ok-heads.ensures.fits c.in_ok-heads.ensures.parts
    c.in_err-message.ensures.none))))))
