use Rattle.std.proofs.Common.{ℕ, ◌++◌, Option, subst}
use Rattle.iim_places.proofs.{Words.mode_dataset, Words.dataset_if, Words.CanContinueWithin, Taking.no_wide_mode}
use Rattle.iim_places.proofs.ticket.taker.take_mode.Goals as goal

pub returns-in-Some-2-clause-took : goal.returns-in-Some-2-clause-took
returns-in-Some-2-clause-took g c ds s goes =
    let limits = g.T.DatasetTaker.limits c.args.taker.now in
    no_wide_mode limits ds c.in-Some.mode c.if-mode-lt256.false
    (subst (λ (o : Option ℕ). CanContinueWithin limits (ds ++ dataset_if mode_dataset o)) c.in-Some.is goes)
