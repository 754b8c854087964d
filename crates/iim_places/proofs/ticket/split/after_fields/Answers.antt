use Rattle.std.proofs.Common.{arith}
use Rattle.iim_places.specs.TicketParts.{dataset}
use Rattle.iim_places.proofs.Splitting.{one_more, no_more}
use Rattle.iim_places.proofs.ticket.split.after_fields.Goals as goal

pub returns-in_err-rest-clause-none : goal.returns-in_err-rest-clause-none
returns-in_err-rest-clause-none c =
    let before = c.loop.invariant in
    rw c.from_residual.ensures
    (no_more before.datasets c.args.count _ _ before.each (omega (arith, before.many, c.loop-test.true)) before.spelled c.in_err-rest.ensures.none)

pub loop-preserved : goal.loop-preserved
loop-preserved c =
    one_more c.loop.counter c.args.octets.now c.loop.rest.now c.in_ok-rest.field-0-1.now
    (dataset c.in_ok-rest.field-0-0.0 c.in_ok-rest.field-0-0.1 c.in_ok-rest.field-0-0.2.now) c.loop.invariant c.in_ok-rest.ensures.fits
    c.in_ok-rest.ensures.parts
