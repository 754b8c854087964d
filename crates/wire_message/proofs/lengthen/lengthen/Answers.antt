use Rattle.std.proofs.Common.{◌≡◌, ◌+◌, arith}
use Rattle.wire_message.proofs.Goings.{gap_on, end_on}
use Rattle.wire_message.proofs.lengthen.lengthen.Goals as goal

pub returns-in-Gap-clause-takes : goal.returns-in-Gap-clause-takes
returns-in-Gap-clause-takes c = λ some.
    let e = c.lengthen_gap.ensures in
    let one : c.lengthen_gap.result ≡ 1 = omega (arith, e.one, some) in
    let place = rw c.in-Gap.is at c.requires.place in
    rw (c.in-Gap.is, e.counted, one) (gap_on _ _ _ _ c.args.rest.now c.requires.some place (e.some one) (e.feed one))

pub returns-in-AfterEnd-clause-takes : goal.returns-in-AfterEnd-clause-takes
returns-in-AfterEnd-clause-takes c = λ some.
    let e = c.lengthen_filler-in-AfterEnd.ensures in
    let one : c.lengthen_filler-in-AfterEnd.result ≡ 1 = omega (arith, e.one, some) in
    let place = rw c.in-AfterEnd.is at c.requires.place in
    rw (c.in-AfterEnd.is, e.counted, one) (end_on _ _ _ c.args.rest.now c.requires.some place (e.some one))
