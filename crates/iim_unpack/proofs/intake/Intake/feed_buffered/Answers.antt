use Rattle.std.proofs.Common.{List, ap, arith, length, refl, subst, ℕ, ◌≤◌}
use Rattle.iim_unpack.proofs.Intakes.{piece_done, piece_more, piece_refused, somewhere}
use Rattle.iim_unpack.proofs.intake.Intake.feed_buffered.Goals as goal

pub returns-in-Ok-More-clause-fed : goal.returns-in-Ok-More-clause-fed
returns-in-Ok-More-clause-fed g c =
    let i = c.args.self.now in
    let all = ap length c.held-count.ensures in
    let fed = piece_more g.S.StorySink.goes (g.R.Source.state i.reader) i.block c.pass.new.self c.held.result.now c.held.ensures
    (length c.held-count.result.now) all
    c.pass.ensures c.sum_capped.ensures (c.in-Ok-More.ensures.limits c.requires.ready.0) (rw c.in-Ok-More.field-0-is at c.in-Ok-More.ensures.goes.1) in
    let here = somewhere c.args.unpacker.now c.requires.ready c.is_reachable.ensures.stood in
    let then_ = (fed.stands here.0 here.1 here.2).0 in
    (omega (arith, c.sum_capped.ensures, all, c.requires.some), (then_.taking, then_.unended), fed)

pub returns-in-Ok-Done-clause-fed : goal.returns-in-Ok-Done-clause-fed
returns-in-Ok-Done-clause-fed g c =
    let i = c.args.self.now in
    let goes = (rw c.in-Ok-Done.field-0-is at c.in-Ok-Done.ensures.goes.1) in
    let here = somewhere c.args.unpacker.now c.requires.ready c.is_reachable.ensures.stood in
    piece_done g.S.StorySink.goes (g.R.Source.state i.reader) i.block c.pass-in-Ok-Done.new.self c.held.result.now c.held.ensures c.in-Ok-Done.last
    c.pass-in-Ok-Done.ensures (goes.2 _ _ here.2).0 c.sum_capped-in-Ok-Done.ensures (c.in-Ok-Done.ensures.limits c.requires.ready.0) goes

pub pass-requires-in-Ok-Done : goal.pass-requires-in-Ok-Done
pass-requires-in-Ok-Done g c =
    let goes = c.in-Ok-Done.ensures.goes.1 in
    let here = somewhere c.args.unpacker.now c.requires.ready c.is_reachable.ensures.stood in
    subst (λ (xs : List ℕ). c.in-Ok-Done.last ≤ length xs) c.held.ensures
    (rw c.in-Ok-Done.field-0-is at (goes.2 _ _ here.2)).0

pub returns-in-Err-clause-refused : goal.returns-in-Err-clause-refused
returns-in-Err-clause-refused g c =
    let i = c.args.self.now in (
      c.in-Err.refusal,
      refl,
      refl,
      piece_refused g.S.StorySink.goes (g.R.Source.state i.reader) i.block c.pass-in-Err.new.self c.held.result.now c.held.ensures g.S.StorySink.failures
          (length c.held-count.result.now) c.in-Err.refusal (ap length c.held-count.ensures) c.pass-in-Err.ensures c.in-Err.ensures.counted
          c.in-Err.ensures.failed
          c.in-Err.ensures.refused,
    )
