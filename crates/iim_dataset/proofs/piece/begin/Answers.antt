use Rattle.std.proofs.Common.{inr, arith, Ok, Err}
use Rattle.std.specs.Prelude.{OnErr, Result}
use Rattle.iim_dataset.proofs.Places.{no_data}
use Rattle.iim_dataset.proofs.piece.begin.Goals as goal

on_err : {T E : Type 0} (r : Result T E) (P : Type 0) → P → OnErr r P
on_err (Ok x) P p = tt
on_err (Err e) P p = p

pub returns-in_err-step-clause-stopped : goal.returns-in_err-step-clause-stopped
returns-in_err-step-clause-stopped g c =
    on_err c.from_residual-in_err-step.result _ (inr (
      omega arith,
      g.met.D.DatasetSink.joined_stop c.args.sink.now c.head.new.self c.close.new.self _ _ _ c.in_ok-head.ensures.ok c.in_err-step.ensures.stopped,
    ))

pub returns-clause-told : goal.returns-clause-told
returns-clause-told g c =
    rw (no_data c.args.head (omega arith))
    (g.met.D.DatasetSink.joined c.args.sink.now c.head.new.self c.close.new.self _ _ c.in_ok-head.ensures.ok c.in_ok-step.ensures.ok)
