use Rattle.iim_c.proofs.Words.{arith, ◌≤◌}
use Rattle.iim_c.proofs.Tried.{empty_set_has_no_bit, put_if_wanted}
use Rattle.iim_c.proofs.next.try_all.Goals as goal

pub loop-next-init : goal.loop-next-init
loop-next-init c = record { told = λ next below. absurd (omega (arith, below)); rest = λ next above. empty_set_has_no_bit next }

pub loop-next-preserved : goal.loop-next-preserved
loop-next-preserved c =
    put_if_wanted c.args.limits c.args.ticket.now c.loop-next.next c.loop-next.bits c.put_bit.new.bits c.in-Some.taken c.loop-next.invariant
    c.put_bit.ensures.set
    c.put_bit.ensures.same (rw c.in-Some.is at c.in_ok-taken.ensures.tried)

pub returns-clause-tried : goal.returns-clause-tried
returns-clause-tried c =
    let tells = c.loop-next.invariant in
    let all : 256 ≤ c.loop-next.next = omega (arith, c.loop-next-test.false) in
    let first = tells.told 0 (omega (arith, all)) in
    record {
      some = first.some;
      open_octets = λ p a stands next below. (tells.told next (omega (arith, all, below))).open_octets p a stands;
      envelopes = first.envelopes;
    }
